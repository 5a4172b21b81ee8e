-- Pairs of hexadecimal digits and their bytes. Assumes nothing.
use Prim.Native.Nat.{ℕ, zero, suc, ◌+◌, ◌-◌, ◌*◌, ◌/◌, ◌≤◌, ◌<◌}
use mathlib.Core.Path.{◌≡◌, refl, ap}
use mathlib.Core.List.{List, [], ◌∷◌}
use native.Mathlib.Numerals.{add-one}
use mathlib.Core.Bool.{Bool, true, false, cond}
use native.Mathlib.Nat.{zero-add, add-zero}
use native.Mathlib.Omega.{arith}
use lib.ListN.{length, take, drop, get_or, length-drop}
use lib.Seq.{drop-cons, take-nil}
use Rattle.text.specs.Print.{hex_text}
use Rattle.text.specs.Text.{in_range, hex_val, hex_bytes}
use Rattle.text.proofs.RangeLaws.{between-under, between-high}

pub hex-pair : (s : List ℕ) (i : ℕ) → i + 1 < length s
    → hex_bytes (drop i s) ≡ (hex_val (get_or s i 0) * 16 + hex_val (get_or s (i + 1) 0)) ∷ hex_bytes (drop (i + 2) s)
unfolding hex_bytes
hex-pair s i h =
    let two : i + 2 ≡ suc (suc i) = omega arith in
    let ha : i < length s = omega arith in
    let hb : suc i < length s = omega arith in
    rw (two, add-one, drop-cons s i 0 ha, drop-cons s (suc i) 0 hb)

pub hex-length : (s : List ℕ) → length (hex_bytes s) ≡ length s / 2
unfolding hex_bytes
hex-length [] = refl
hex-length (x ∷ []) = refl
hex-length (x ∷ y ∷ s) = let h = hex-length s in omega arith

short : (l : List ℕ) → length l ≤ 1 → hex_bytes l ≡ []
unfolding hex_bytes
short [] h = refl
short (x ∷ []) h = refl
short (x ∷ y ∷ l) h = absurd (omega arith)

pub hex-end : (s : List ℕ) (i : ℕ) → length s ≤ i + 1 → hex_bytes (drop i s) ≡ []
hex-end s i h = short (drop i s) (rw length-drop (omega arith))

-- the first pairs give the first bytes
pub hex-take : (k : ℕ) (s : List ℕ) → hex_bytes (take (2 * k) s) ≡ take k (hex_bytes s)
unfolding hex_bytes
hex-take zero s = refl
hex-take (suc k) [] = rw (take-nil (2 * suc k))
hex-take (suc k) (x ∷ []) = let two : 2 * suc k ≡ suc (suc (2 * k)) = omega arith in rw two
hex-take (suc k) (x ∷ y ∷ s) =
    let two : 2 * suc k ≡ suc (suc (2 * k)) = omega arith in
    rw two (ap (λ (r : List ℕ). (hex_val x * 16 + hex_val y) ∷ r) (hex-take k s))

-- a digit's value as a sum, of which one part is 0
pub hex-sum : (x : ℕ) → cond (in_range 48 57 x) (x - 48) 0 + cond (in_range 97 102 x) (x - 87) 0 ≡ hex_val x
unfolding hex_val
hex-sum x = go (in_range 48 57 x) refl
  where
    go : (b : Bool) → in_range 48 57 x ≡ b → cond b (x - 48) 0 + cond (in_range 97 102 x) (x - 87) 0 ≡ cond b (x - 48) (cond (in_range 97 102 x) (x - 87) 0)
    go true e =
        let low : x < 97 = omega (arith, between-high 48 57 x e) in
        rw (between-under 97 102 x low) (add-zero (x - 48))
    go false e = zero-add (cond (in_range 97 102 x) (x - 87) 0)

pub hex-small : (x : ℕ) → hex_val x < 16
unfolding hex_val
hex-small x = go (in_range 48 57 x) (in_range 97 102 x) refl refl
  where
    go : (a b : Bool) → in_range 48 57 x ≡ a → in_range 97 102 x ≡ b → cond a (x - 48) (cond b (x - 87) 0) < 16
    go true b e f = omega (arith, between-high 48 57 x e)
    go false true e f = omega (arith, between-high 97 102 x f)
    go false false e f = omega arith

-- the text of bytes has two digits for each
pub hex-text-length : (bs : List ℕ) → length (hex_text bs) ≡ 2 * length bs
unfolding hex_text
hex-text-length [] = refl
hex-text-length (b ∷ bs) = let e = hex-text-length bs in omega arith

pub ruleset hex_sums = (hex-sum, hex-small)

pub ruleset hex_turns = (hex-pair, hex-end)

pub ruleset hex_takes = (hex-take)

pub ruleset hex_lengths = (hex-length)
