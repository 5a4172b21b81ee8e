-- Tests whether a byte lies in a range. Assumes nothing.
use Prim.Native.Nat.{ℕ, ◌≤◌, ◌<◌}
use mathlib.Core.Bool.{true, false}
use mathlib.Core.Path.{◌≡◌}
use mathlib.Core.List.{List}
use lib.ListN.{length, get_or}
use Rattle.octets.specs.Lists.{every}
use Rattle.octets.proofs.Every.{every-nth}
use borrow.Author.Tests.{leb-true, le-leb, lt-leb}
use lib.Dec.{leb}
use Rattle.octets.proofs.Truth.{and_left, and_right}
use Rattle.text.specs.Text.{in_range}

pub between-yes : (l h x : ℕ) → l ≤ x → x ≤ h → in_range l h x ≡ true
between-yes l h x a b = rw (le-leb l x a, le-leb x h b)

pub between-under : (l h x : ℕ) → x < l → in_range l h x ≡ false
between-under l h x a = rw (lt-leb l x a)

pub between-low : (l h x : ℕ) → in_range l h x ≡ true → l ≤ x
between-low l h x e = leb-true l x (and_left (leb l x) (leb x h) e)

pub between-high : (l h x : ℕ) → in_range l h x ≡ true → x ≤ h
between-high l h x e = leb-true x h (and_right (leb l x) (leb x h) e)

-- the bytes of a text that are all decimal digits
pub digit_low : (s : List ℕ) (i : ℕ) → every (in_range 48 57) s ≡ true → i < length s → 48 ≤ get_or s i 0
digit_low s i h l = between-low 48 57 (get_or s i 0) (every-nth (in_range 48 57) s i 0 h l)
