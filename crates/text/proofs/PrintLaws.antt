-- Digits put one by one: a decimal number from its first digit, and two hexadecimal digits for each byte.
-- Assumes nothing.
use mathlib.Core.Bool.{Bool, true, false}
use borrow.Author.Tests.{leb-true, leb-false}
use lib.Dec.{leb}
use Rattle.std.proofs.Math.Nat.{min-eq_left, le-min}
use Prim.Native.Nat.{min, ℕ, zero, suc, ◌+◌, ◌-◌, ◌*◌, ◌/◌, ◌%◌, ◌≤◌, ◌<◌}
use mathlib.Core.Path.{◌≡◌, refl, sym, ◌∙◌}
use mathlib.Core.List.{List, [], ◌∷◌, ◌++◌}
use native.Mathlib.Nat.{le_refl}
use native.Mathlib.Numerals.{add-one}
use native.Mathlib.Omega.{arith}
use borrow.Author.Tests.{lt-ltb, le-ltb}
use lib.ListN.{length, take, drop, get_or, set, drop_of_length-le}
use lib.Seq.{sets, drop-cons, take-nil}
use Rattle.octets.proofs.Stores.{sets-out, sets-append}
use Rattle.text.proofs.HexLaws.{hex-text-length}
use Rattle.text.specs.Print.{digit_text, hex_text, decimal_text}

-- no digit at all
pub decimal-none : (n v : ℕ) → n ≡ 0 → decimal_text n v ≡ []
unfolding decimal_text
decimal-none n v e = rw e

-- one digit
pub decimal-one : (n v : ℕ) → (n ≡ 0 → ⊥) → v < 10 → decimal_text n v ≡ (48 + v) ∷ []
unfolding decimal_text
decimal-one zero v n h = absurd (n refl)
decimal-one (suc k) v n h = rw (lt-ltb v 10 h)

-- the digits before the last, and the last
pub decimal-more : (n v : ℕ) → (n ≡ 0 → ⊥) → 10 ≤ v → decimal_text n v ≡ decimal_text (n - 1) (v / 10) ++ ((48 + v % 10) ∷ [])
unfolding decimal_text
decimal-more zero v n h = absurd (n refl)
decimal-more (suc k) v n h =
    let e : suc k - 1 ≡ k = omega arith in
    rw (le-ltb v 10 h, e)

-- two digits and what follows them
pub sets-two : (l : List ℕ) (at x y : ℕ) (rest : List ℕ) → sets (set (set l at x) (at + 1) y) (at + 2) rest ≡ sets l at (x ∷ y ∷ rest)
sets-two l at x y rest =
    let e : at + 1 ≡ suc at = omega arith in
    let f : at + 2 ≡ suc (suc at) = omega arith in
    rw (e, f)

-- a turn of the loop: a byte's digits, and those of the bytes after it
pub hex-turn : (s : List ℕ) (i : ℕ) → i < length s → hex_text (drop i s) ≡ digit_text (get_or s i 0 / 16) ∷ digit_text (get_or s i 0 % 16) ∷ hex_text (drop (i + 1) s)
unfolding hex_text
hex-turn s i h = rw (add-one, drop-cons s i 0 h)

-- nothing is left
pub hex-text-end : (s : List ℕ) (i : ℕ) → length s ≤ i → hex_text (drop i s) ≡ []
unfolding hex_text
hex-text-end s i h = rw (drop_of_length-le s h)

-- the digits of the first bytes are the first digits
pub hex-text-take : (n : ℕ) (bs : List ℕ) → hex_text (take n bs) ≡ take (2 * n) (hex_text bs)
unfolding hex_text
hex-text-take zero bs = refl
hex-text-take (suc n) [] = rw (take-nil (2 * suc n))
hex-text-take (suc n) (b ∷ bs) =
    let two : 2 * suc n ≡ suc (suc (2 * n)) = omega arith in
    rw (two, hex-text-take n bs)

-- from past the end as from the end nothing is stored
pub sets_from : (l text : List ℕ) (at : ℕ) → sets l (min at (length l)) text ≡ sets l at text
sets_from l text at = go (leb at (length l)) refl
  where
    go : (b : Bool) → leb at (length l) ≡ b → sets l (min at (length l)) text ≡ sets l at text
    go true e = rw (min-eq_left (leb-true at (length l) e))
    go false e =
        let h : length l ≤ at = omega (arith, leb-false at (length l) e) in
        sets-out text l (min at (length l)) (le-min h (le_refl (length l))) ∙ sym (sets-out text l at h)

pub ruleset hex_text_turns = (sets-two, hex-turn, hex-text-end)

pub ruleset hex_text_takes = (hex-text-take, hex-text-length)

pub ruleset decimal_digits = (decimal-none, decimal-one, decimal-more, sets-append)
