-- `octets::store::write_le` meets its contract: what is left to store, stored, is the whole.
-- Assumes nothing.
use Rattle.std.proofs.Common.{◌≡◌, ◌-◌}
use Rattle.std.proofs.lemmas.List.Edits.{sets}
use Rattle.octets.specs.Le.{to_le}
use Rattle.octets.proofs.store.write_le.Given as goal

abbrev pub invariant-loop-byte : goal.invariant-loop-byte
invariant-loop-byte l = sets l.byte-items l.byte-index (to_le (l.width - l.byte-index) l.rest) ≡ sets l.initial.byte-items 0 (to_le l.width l.value)
