-- Digits that have their form are the print of what they say.
-- Assumes nothing.
use Rattle.std.specs.Prelude.{None, Some}
use Prim.Native.Nat.{ℕ, zero, suc, ◌+◌, ◌-◌, ◌*◌, ◌/◌, ◌%◌, ◌^◌, ◌≤◌, ◌<◌}
use mathlib.Core.Path.{◌≡◌, refl, ap}
use mathlib.Core.Bool.{Bool, true, false, cond, not, ◌&&◌, ◌||◌, false≢true}
use mathlib.Core.List.{List, [], ◌∷◌, ◌++◌, map}
use native.Mathlib.Omega.{arith}
use borrow.Author.Tests.{ltb-true, eqb-true, eqb-false, not-true, lt-ltb, le-ltb}
use lib.ListN.{length}
use lib.Dec.{ltb, eqb}
use Rattle.octets.specs.Lists.{every}
use Rattle.text.specs.Text.{in_range, is_hex, hex_val, hex_ok, hex_bytes, decimal, plain, number_of, decimal_of, number_in}
use Rattle.text.proofs.RangeLaws.{between-yes, between-low, between-high}
use Rattle.scene_line.specs.Line.{is_number}
use Rattle.scene_table.specs.Valid.{bytes_ok}
use Rattle.octets.proofs.Every.{every-left, every-right}
use Rattle.octets.proofs.Truth.{and_left, and_right}
use Rattle.text.specs.Print.{digit_text, hex_text, decimal_text, number_text, digits_text}
use Rattle.scene_reading.proofs.PrintDigits.{Leads, decimal-append, tenth}

-- a digit is the text of its value
record DigitPrint (x : ℕ) : Type 0 where
  small : hex_val x < 16
  text : digit_text (hex_val x) ≡ x

hex-digit : (x : ℕ) → is_hex x ≡ true → DigitPrint x
unfolding hex_val digit_text
hex-digit x h = go (in_range 48 57 x) refl h
  where
    low : 48 ≤ x → x ≤ 57 → DigitPrint x
    low a b =
        let e : 48 + (x - 48) ≡ x = omega arith in
        let v : hex_val x ≡ x - 48 = rw (between-yes 48 57 x a b) in
        record { small = rw v (omega arith); text = rw (v, lt-ltb (x - 48) 10 (omega arith), e) }

    letter : in_range 48 57 x ≡ false → 97 ≤ x → x ≤ 102 → DigitPrint x
    letter n a b =
        let e : 87 + (x - 87) ≡ x = omega arith in
        let v : hex_val x ≡ x - 87 = rw (n, between-yes 97 102 x a b) in
        record { small = rw v (omega arith); text = rw (v, le-ltb (x - 87) 10 (omega arith), e) }

    go : (b : Bool) → in_range 48 57 x ≡ b → (b || in_range 97 102 x) ≡ true → DigitPrint x
    go true e h = low (between-low 48 57 x e) (between-high 48 57 x e)
    go false e h = letter e (between-low 97 102 x h) (between-high 97 102 x h)

-- hexadecimal digits are the text of their bytes
pub record HexPrint (f : List ℕ) : Type 0 where
  pub bytes : bytes_ok (hex_bytes f) ≡ true
  pub text : hex_text (hex_bytes f) ≡ f

hexes : (f : List ℕ) → length f % 2 ≡ 0 → every is_hex f ≡ true → HexPrint f
unfolding hex_bytes hex_text bytes_ok every
hexes [] e h = record { bytes = refl; text = refl }
hexes (x ∷ []) e h = absurd (omega arith)
hexes (x ∷ y ∷ r) e h =
    let dx = hex-digit x (and_left (is_hex x) (is_hex y && every is_hex r) h) in
    let h₁ = and_right (is_hex x) (is_hex y && every is_hex r) h in
    let dy = hex-digit y (and_left (is_hex y) (every is_hex r) h₁) in
    let rest = hexes r (omega arith) (and_right (is_hex y) (every is_hex r) h₁) in
    let a = dx.small in
    let b = dy.small in
    let upper : (hex_val x * 16 + hex_val y) / 16 ≡ hex_val x = omega arith in
    let lower : (hex_val x * 16 + hex_val y) % 16 ≡ hex_val y = omega arith in
    record {
      bytes = rw (lt-ltb (hex_val x * 16 + hex_val y) 256 (omega arith)) rest.bytes;
      text = rw (upper, lower, dx.text, dy.text, rest.text);
    }

pub hex-print : (f : List ℕ) → hex_ok f ≡ true → HexPrint f
unfolding hex_ok
hex-print f h = hexes f (eqb-true (length f % 2) 0 (and_left (eqb (length f % 2) 0) (every is_hex f) h)) (and_right (eqb (length f % 2) 0) (every is_hex f) h)

-- decimal digits, the last of them apart
last_apart : (x : ℕ) (r : List ℕ) → (t : List ℕ) × (y : ℕ) × (x ∷ r ≡ t ++ (y ∷ []))
last_apart x [] = ([], x, refl)
last_apart x (z ∷ r) = let p = last_apart z r in (x ∷ p.0, p.1, ap (λ (l : List ℕ). x ∷ l) p.2)

decimal-grows : (v : ℕ) (s : List ℕ) → v ≤ decimal v s
unfolding decimal
decimal-grows v [] = omega arith
decimal-grows v (x ∷ s) = let h = decimal-grows (v * 10 + (x - 48)) s in omega arith

decimal-positive : (s : List ℕ) → every (in_range 48 57) s ≡ true → Leads s → 0 < decimal 0 s
unfolding decimal every
decimal-positive [] d l = l.some
decimal-positive (x ∷ s) d l =
    let g = decimal-grows (0 * 10 + (x - 48)) s in
    let n : x ≡ 48 → ⊥ = l.lead in
    let a = between-low 48 57 x (and_left (in_range 48 57 x) (every (in_range 48 57) s) d) in
    omega arith

module _ (n y : ℕ) (digit : in_range 48 57 y ≡ true) where
  one-digit : decimal_text (suc n) (decimal 0 (y ∷ [])) ≡ y ∷ []
  unfolding decimal_text decimal
  one-digit =
      let low = between-low 48 57 y digit in
      let top = between-high 48 57 y digit in
      let e : 48 + (0 * 10 + (y - 48)) ≡ y = omega arith in
      rw (lt-ltb (0 * 10 + (y - 48)) 10 (omega arith), e)

  more-digits : (t : List ℕ) → 0 < decimal 0 t → decimal_text n (decimal 0 t) ≡ t → decimal_text (suc n) (decimal 0 (t ++ (y ∷ []))) ≡ t ++ (y ∷ [])
  unfolding decimal_text
  more-digits t p h =
      let low = between-low 48 57 y digit in
      let top = between-high 48 57 y digit in
      let v = decimal 0 t in
      let e : (v * 10 + (y - 48)) / 10 ≡ v = omega arith in
      let m : 48 + (v * 10 + (y - 48)) % 10 ≡ y = omega arith in
      rw (decimal-append 0 t y, le-ltb (v * 10 + (y - 48)) 10 (omega arith), e, m, h)

-- a number's digits are its text where n digits are enough, by the digits before the last
module _ (n : ℕ) (again : (s : List ℕ) → every (in_range 48 57) s ≡ true → Leads s → decimal 0 s < 10 ^ n → decimal_text n (decimal 0 s) ≡ s) where
  decimal_step : (t : List ℕ) (y : ℕ) → every (in_range 48 57) (t ++ (y ∷ [])) ≡ true → Leads (t ++ (y ∷ [])) → decimal 0 (t ++ (y ∷ [])) < 10 ^ suc n
      → decimal_text (suc n) (decimal 0 (t ++ (y ∷ []))) ≡ t ++ (y ∷ [])
  unfolding every
  decimal_step [] y d l h = one-digit n y (and_left (in_range 48 57 y) true d)
  decimal_step (z ∷ t) y d l h =
      let dz = every-left (in_range 48 57) (z ∷ t) (y ∷ []) d in
      let dy = and_left (in_range 48 57 y) true (every-right (in_range 48 57) (z ∷ t) (y ∷ []) d) in
      let first : Leads (z ∷ t) = record { some = omega arith; lead = l.lead } in
      let k = tenth n (decimal 0 (z ∷ t) * 10 + (y - 48)) (rw (decimal-append 0 (z ∷ t) y) at h) in
      more-digits n y dy (z ∷ t) (decimal-positive (z ∷ t) dz first) (again (z ∷ t) dz first (omega arith))

leads-print : (n : ℕ) (s : List ℕ) → every (in_range 48 57) s ≡ true → Leads s → decimal 0 s < 10 ^ n → decimal_text n (decimal 0 s) ≡ s
leads-print zero s d l h = let p = decimal-positive s d l in absurd (omega arith)
leads-print (suc n) [] d l h = absurd (let p = l.some in omega arith)
leads-print (suc n) (x ∷ r) d l h =
    let p = last_apart x r in
    let e = p.2 in
    rw e (decimal_step n (leads-print n) p.0 p.1 (rw e at d) (rw e at l) (rw e at h))

plain-print : (n : ℕ) (s : List ℕ) → plain s ≡ true → decimal 0 s < 10 ^ suc n → decimal_text (suc n) (decimal 0 s) ≡ s
unfolding every
plain-print n [] p h = absurd (false≢true p)
plain-print n (x ∷ s) p h = go s (eqb (length (x ∷ s)) 1) refl d (and_right (every (in_range 48 57) (x ∷ s)) _ p₁) h
  where
    lone : Bool
    lone = eqb (length (x ∷ s)) 1 || not (eqb x 48)

    p₁ : (every (in_range 48 57) (x ∷ s) && lone) ≡ true
    p₁ = and_right (ltb 0 (length (x ∷ s))) (every (in_range 48 57) (x ∷ s) && lone) p

    d : every (in_range 48 57) (x ∷ s) ≡ true
    d = and_left (every (in_range 48 57) (x ∷ s)) lone p₁

    go : (s : List ℕ) (b : Bool) → eqb (length (x ∷ s)) 1 ≡ b → every (in_range 48 57) (x ∷ s) ≡ true → (b || not (eqb x 48)) ≡ true → decimal 0 (x ∷ s) < 10 ^ suc n
        → decimal_text (suc n) (decimal 0 (x ∷ s)) ≡ x ∷ s
    go s false e d o h = leads-print (suc n) (x ∷ s) d (record { some = omega arith; lead = eqb-false x 48 (not-true (eqb x 48) o) }) h
    go [] true e d o h = one-digit n x (and_left (in_range 48 57 x) true d)
    go (y ∷ s) true e d o h = let z = eqb-true (length (x ∷ y ∷ s)) 1 e in absurd (omega arith)

-- a decimal field is the text of its number
pub record DecimalPrint (f : List ℕ) : Type 0 where
  pub fits : number_in (decimal_of f) < 2 ^ 64
  pub text : number_text (number_in (decimal_of f)) ≡ f

pub decimal-print : (f : List ℕ) → is_number (decimal_of f) ≡ true → DecimalPrint f
unfolding decimal_of number_of number_in number_text
decimal-print f h = go (plain f) refl (ltb (decimal 0 f) (2 ^ 64)) refl h
  where
    go : (a : Bool) → plain f ≡ a → (b : Bool) → ltb (decimal 0 f) (2 ^ 64) ≡ b → is_number (cond a (cond b (Some (decimal 0 f)) None) None) ≡ true → DecimalPrint f
    go true p true l h =
        let k = ltb-true (decimal 0 f) (2 ^ 64) l in
        let e : number_in (decimal_of f) ≡ decimal 0 f = rw (p, l) in
        record { fits = rw e k; text = rw e (plain-print 19 f p (omega arith)) }
    go true p false l h = absurd (false≢true h)
    go false p b l h = absurd (false≢true h)

-- digits below m are the text of their values
pub record DigitsPrint (m : ℕ) (f : List ℕ) : Type 0 where
  pub each : every (λ (d : ℕ). ltb d m) (map hex_val f) ≡ true
  pub text : digits_text (map hex_val f) ≡ f

pub digits-print : (m : ℕ) → m ≤ 10 → (f : List ℕ) → every (in_range 48 (47 + m)) f ≡ true → DigitsPrint m f
unfolding every digits_text hex_val
digits-print m small [] h = record { each = refl; text = refl }
digits-print m small (x ∷ f) h =
    let y = and_left (in_range 48 (47 + m) x) (every (in_range 48 (47 + m)) f) h in
    let a = between-low 48 (47 + m) x y in
    let b = between-high 48 (47 + m) x y in
    let v : hex_val x ≡ x - 48 = rw (between-yes 48 57 x a (omega arith)) in
    let e : 48 + (x - 48) ≡ x = omega arith in
    let rest = digits-print m small f (and_right (in_range 48 (47 + m) x) (every (in_range 48 (47 + m)) f) h) in
    record { each = rw (v, lt-ltb (x - 48) m (omega arith)) rest.each; text = rw (v, e, rest.text) }
