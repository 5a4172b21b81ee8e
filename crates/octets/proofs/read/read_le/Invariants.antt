-- `octets::read::read_le` meets its contract: the value is the number in the bytes passed so far, from the last one down.
-- Assumes nothing.
use Rattle.std.proofs.Common.{◌≡◌, ◌+◌, ◌-◌}
use Rattle.octets.specs.Le.{number_at}
use Rattle.octets.proofs.read.read_le.Given as goal

abbrev pub invariant-loop-i : goal.invariant-loop-i
invariant-loop-i l = l.value ≡ number_at l.s (l.at + l.i) (l.width - l.i)
