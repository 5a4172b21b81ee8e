-- `account_state_writer::layout::store_entries` meets its contract: what is left to store, stored, is the whole.
-- Assumes nothing.
use mathlib.Core.Path.{◌≡◌}
use Prim.Native.Nat.{◌+◌, ◌≤◌}
use lib.ListN.{length}
use lib.Seq.{sets}
use Rattle.account_state.specs.Reading.{entries_bytes}
use Rattle.account_state_writer.specs.Lent.{entries_lent}
use Rattle.account_state_writer.proofs.layout.store_entries.Given as goal

abbrev pub invariant-loop-entry : goal.invariant-loop-entry
invariant-loop-entry l =
    (length l.out ≡ length l.initial.out)
    × (l.at + length (entries_bytes (entries_lent l.entry-iterator)) ≤ length l.out)
    × (sets l.out l.at (entries_bytes (entries_lent l.entry-iterator)) ≡ sets l.initial.out 32 (entries_bytes (entries_lent l.entries)))
