-- `account_state_writer::slices::bytes_agree` meets its contract: what is left of the length is what the other entries may have.
-- Assumes nothing.
use mathlib.Core.Path.{◌≡◌}
use Prim.Native.Nat.{◌+◌}
use lib.ListN.{drop}
use Rattle.account_state_writer.specs.Entries.{bytes_needed}
use Rattle.account_state_writer.proofs.slices.bytes_agree.Given as goal

abbrev pub invariant-loop-numbers : goal.invariant-loop-numbers
invariant-loop-numbers l = l.left + bytes_needed l.entries ≡ l.len + bytes_needed (drop l.numbers-index l.entries)
