-- `blake2b::Blake2b::update` meets its contract: the waiting part is filled up, and then the locals stand where a block ends.
-- Assumes nothing.
use Rattle.std.proofs.Common.{◌≡◌, ◌+◌, ◌%◌, ◌^◌, ◌≤◌, length, take, refl, ◌∙◌, arith, take_all, rules}
use native.Mathlib.Nat.{sub-zero}
use Rattle.blake2b.specs.declared.Blake2b.{Blake2b}
use Rattle.blake2b.specs.State.{fed_all}
use Rattle.blake2b.proofs.Feed.{feed-fill}
use Rattle.blake2b.proofs.WholeBlocks.{blocks-first, blocks-next, blocks-rest}
use Rattle.blake2b.proofs.Blake2b.update.Goals as goal
use Rattle.blake2b.proofs.Blake2b.update.Goals.{then-at-data+else-loop-at-test, else-at-data}

pub loop-at-init : goal.loop-at-init
loop-at-init c =
    let w = c.store_bytes in
    let n = c.fill_bytes-at in
    let a = c.args in
    let xs = a.«data».now in
    let s : Blake2b = record { h = a.self.h; block = w.new.out; fed = (a.self.fed + n.result) % 2 ^ 64 } in
    let f : s ≡ fed_all a.self (take n.result xs) =
    rw (w.ensures, c.next_place.ensures, sub-zero)
    (feed-fill a.self xs n.result (search rules) (omega arith) (omega arith)) in (
      omega arith,
      rw c.flush-first.ensures (blocks-first a.self s xs n.result (omega arith) (omega arith) f),
    )

pub loop-at-preserved : goal.loop-at-preserved
loop-at-preserved c =
    let l = c.loop-at in
    let a = c.args in (
      omega arith,
      rw c.flush-next.ensures
          (blocks-next a.self a.«data».now l.at l.h l.fed l.invariant.1 (l.at + 128) ((l.fed + 128) % 2 ^ 64) refl (omega arith) refl),
    )

pub returns : goal.returns
returns c =
    let q = c.store_bytes in
    let n = c.fill_bytes-at in
    let a = c.args in
    let xs = a.«data».now in
    elim c.if-at-data.branch [
      | then-at-data+else-loop-at-test w ↦
          let l = w.loop-at in
          rw (w.h-is, w.block-is, w.fed-is, w.store_bytes-then-at-data.ensures)
          (blocks-rest a.self xs l.at l.h l.fed l.invariant.1 l.invariant.0 (omega (arith, w.loop-at-test.false)))
      | else-at-data w ↦
          let e : length xs ≤ n.result = omega (arith, w.if-at-data.false) in
          rw (w.h-is, w.block-is, w.fed-is, q.ensures, c.next_place.ensures, sub-zero)
          (feed-fill a.self xs n.result (search rules) (omega arith) (omega arith) ∙ rw (take_all n.result xs e))
    ]
