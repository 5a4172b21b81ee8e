-- What is left of the total is what the lengths that are left have to add up to. Assumes nothing.
use Rattle.std.proofs.Common.{◌≡◌, ◌+◌, drop}
use Rattle.octets.specs.Lists.{sum}
use Rattle.account_witness_writer.proofs.check.adds_up.Given as goal

abbrev pub invariant-loop-length : goal.invariant-loop-length
invariant-loop-length l = l.left + sum l.lengths ≡ l.total + sum (drop l.length-index l.lengths)
