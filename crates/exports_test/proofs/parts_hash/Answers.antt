-- `exports_test::parts_hash` meets its contract: the bytes before `at` were fed to the state.
-- Assumes nothing.
use Prim.Native.Nat.{◌≤◌, zero-le}
use native.Mathlib.Omega.{arith}
use lib.ListN.{length}
use lib.Seq.{take_all}
use Rattle.blake2b.specs.State.{ckb_hash}
use Rattle.blake2b.proofs.Chain.{fed-none, fed-part, fed-hash}
use Rattle.exports_test.proofs.parts_hash.Goals as goal

pub loop-at-init : goal.loop-at-init
loop-at-init c =
    (c.requires, fed-part _ 0 c.args.first zero-le (fed-none c.new.ensures) c.update-state.ensures)

pub loop-at-preserved : goal.loop-at-preserved
loop-at-preserved c =
    let l = c.loop-at in
    (omega arith, fed-part _ l.at _ (omega arith) l.invariant.1 c.update-state-in-loop-at.ensures)

pub returns : goal.returns
unfolding ckb_hash
returns c =
    let l = c.loop-at in
    let xs = c.args.«data».now in
    let e : length xs ≤ l.at = omega arith in
    fed-hash 32 (rw (take_all l.at xs e) at l.invariant.1) c.well_formed.0.0 c.finish.ensures c.digest.ensures
