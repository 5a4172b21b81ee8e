-- `text::decimal::all_between` meets its contract. Assumes nothing.
use Rattle.std.proofs.Common.{◌≡◌, ◌&&◌, drop}
use Rattle.octets.specs.Lists.{every}
use Rattle.text.specs.Text.{in_range}
use Rattle.text.proofs.decimal.all_between.Given as goal

abbrev pub invariant-loop-byte : goal.invariant-loop-byte
invariant-loop-byte l = every (in_range l.low l.high) l.s ≡ (l.ok && every (in_range l.low l.high) (drop l.byte-index l.s))
