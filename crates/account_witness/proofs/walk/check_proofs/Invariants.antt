-- The rows that are left, from where the walk stands, decide. Assumes nothing.
use Rattle.std.specs.Prelude.{Ok}
use mathlib.Core.Path.{◌≡◌}
use Prim.Native.Nat.{◌-◌}
use Rattle.protocol.specs.Rows.{decide}
use Rattle.account_witness.specs.Walk.{proofs_layout_rows}
use Rattle.account_witness.proofs.walk.check_proofs.Given as goal

abbrev pub invariant-loop : goal.invariant-loop
invariant-loop l =
    decide (Ok tt) (proofs_layout_rows l.witness l.count 16 0) ≡ decide (Ok tt) (proofs_layout_rows l.witness (l.count - l.counter) l.cursor.offset l.cursor.least)
