-- `exports_test::parts_hash` meets its contract: the bytes before `at` were fed to the state.
-- Assumes nothing.
use Prim.Native.Nat.{◌≤◌, ◌-◌}
use lib.ListN.{length, take}
use Rattle.blake2b.specs.State.{ckb_parameters}
use Rattle.blake2b.proofs.Chain.{Fed}
use Rattle.exports_test.proofs.parts_hash.Given as goal

abbrev pub invariant-loop-at : goal.invariant-loop-at
invariant-loop-at l = (l.at ≤ length l.data) × Fed ckb_parameters (take l.at l.data) l.state

abbrev pub decreases-loop-at : goal.decreases-loop-at
decreases-loop-at l = length l.data - l.at
