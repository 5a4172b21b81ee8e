-- `text::decimal::value` meets its contract. Assumes nothing.
use Rattle.std.proofs.Common.{◌≡◌, ◌<◌, ◌^◌, drop}
use Rattle.text.specs.Text.{decimal}
use Rattle.text.proofs.decimal.value.Given as goal

abbrev pub invariant-loop-digit : goal.invariant-loop-digit
invariant-loop-digit l = (l.value < 2 ^ 64) × (decimal 0 l.s ≡ decimal l.value (drop l.digit-index l.s))
