-- `octets::rising::is_rising` meets its contract: the numbers passed rise, so the rest decides, above the last of them.
-- Assumes nothing.
use Rattle.std.proofs.Common.{◌≡◌, drop}
use Rattle.octets.specs.Lists.{is_rising}
use Rattle.octets.proofs.rising.is_rising.Given as goal

abbrev pub invariant-loop-number : goal.invariant-loop-number
invariant-loop-number l = is_rising l.least (drop l.number-index l.numbers) ≡ is_rising 0 l.numbers
