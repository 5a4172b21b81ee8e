-- Decimal digits and their number. Assumes nothing.
use Prim.Native.Nat.{ℕ, ◌+◌, ◌-◌, ◌*◌, ◌≤◌, ◌<◌}
use mathlib.Core.Path.{◌≡◌}
use mathlib.Core.List.{List, [], ◌∷◌}
use native.Mathlib.Numerals.{add-one}
use native.Mathlib.Omega.{arith}
use lib.ListN.{length, drop, get_or, drop_of_length-le}
use lib.Seq.{drop-cons}
use Rattle.text.specs.Text.{decimal}
use Rattle.text.proofs.RangeLaws.{digit_low}

pub decimal-on : (v : ℕ) (s : List ℕ) (i : ℕ) → i < length s → decimal v (drop i s) ≡ decimal (v * 10 + (get_or s i 0 - 48)) (drop (i + 1) s)
unfolding decimal
decimal-on v s i h = rw (add-one, drop-cons s i 0)

pub decimal-end : (v : ℕ) (s : List ℕ) (i : ℕ) → length s ≤ i → decimal v (drop i s) ≡ v
unfolding decimal
decimal-end v s i h = rw (drop_of_length-le s h)

pub decimal-grows : (v : ℕ) (s : List ℕ) → v ≤ decimal v s
unfolding decimal
decimal-grows v [] = omega arith
decimal-grows v (x ∷ s) = let h = decimal-grows (v * 10 + (x - 48)) s in omega arith

-- a number that exceeds a limit with its next digit exceeds it in the end
pub decimal-over : (n v : ℕ) (s : List ℕ) (i : ℕ) → i < length s → n ≤ v * 10 + (get_or s i 0 - 48) → n ≤ decimal v (drop i s)
decimal-over n v s i h over =
    omega (arith, decimal-on v s i h, decimal-grows (v * 10 + (get_or s i 0 - 48)) (drop (i + 1) s))

pub ruleset decimal_turns = (decimal-on, decimal-end, decimal-over, digit_low)
