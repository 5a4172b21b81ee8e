-- Printed digits read back: two hexadecimal digits a byte, a decimal number, and verdicts.
-- Assumes nothing.
use Rattle.std.specs.Prelude.{Some}
use Prim.Native.Nat.{ℕ, zero, suc, ◌+◌, ◌-◌, ◌*◌, ◌/◌, ◌%◌, ◌^◌, ◌≤◌, ◌<◌}
use mathlib.Core.Path.{◌≡◌, refl, sym, ◌∙◌}
use mathlib.Core.Bool.{Bool, true, false, cond, ◌||◌}
use mathlib.Core.List.{List, [], ◌∷◌, ◌++◌, map}
use native.Mathlib.Nat.{pow-suc}
use native.Mathlib.Omega.{arith}
use borrow.Author.Tests.{ltb-true, ltb-false, lt-ltb, le-leb, lt-leb, ne_eqb}
use lib.ListN.{length, get_or, length-append, length-map, get_or-append}
use lib.Dec.{ltb, leb, eqb}
use Rattle.octets.specs.Lists.{every}
use Rattle.text.specs.Text.{in_range, is_hex, hex_val, hex_ok, hex_bytes, decimal, plain, number_of, decimal_of}
use Rattle.text.proofs.RangeLaws.{between-yes}
use Rattle.scene_table.specs.Valid.{bytes_ok}
use Rattle.octets.proofs.Every.{every_append, every_more}
use Rattle.octets.proofs.Truth.{and_left, and_right}
use Rattle.text.specs.Print.{digit_text, hex_text, decimal_text, number_text, digits_text}
use Rattle.text.proofs.HexLaws.{hex-text-length}

-- what a digit's text is: a digit's value, its form, and no byte below 48
record Digit (d x : ℕ) : Type 0 where
  value : hex_val x ≡ d
  form : is_hex x ≡ true
  high : 48 ≤ x

digit-text : (d : ℕ) → d < 16 → Digit d (digit_text d)
unfolding digit_text hex_val
digit-text d h = go (ltb d 10) refl
  where
    go : (b : Bool) → ltb d 10 ≡ b → Digit d (cond b (48 + d) (87 + d))
    go true e =
        let l = ltb-true d 10 e in
        let low = between-yes 48 57 (48 + d) (omega arith) (omega arith) in
        record { value = rw low (omega arith); form = rw low; high = omega arith }
    go false e =
        let l = ltb-false d 10 e in
        let over = lt-leb (87 + d) 57 (omega arith) in
        let above = le-leb 48 (87 + d) (omega arith) in
        let letter = between-yes 97 102 (87 + d) (omega arith) (omega arith) in
        record { value = rw (above, over, letter) (omega arith); form = rw (above, over, letter); high = omega arith }

module _ (b : ℕ) (bs : List ℕ) (h : bytes_ok (b ∷ bs) ≡ true) where
  -- a byte's two digits, and the bytes behind it
  pub first_byte : b < 256
  unfolding bytes_ok every
  first_byte = ltb-true b 256 (and_left (ltb b 256) (bytes_ok bs) h)

  rest-bytes : bytes_ok bs ≡ true
  unfolding bytes_ok every
  rest-bytes = and_right (ltb b 256) (bytes_ok bs) h

  upper : Digit (b / 16) (digit_text (b / 16))
  upper = let l = first_byte in digit-text (b / 16) (omega arith)

  lower : Digit (b % 16) (digit_text (b % 16))
  lower = digit-text (b % 16) (omega arith)

pub hex-back : (bs : List ℕ) → bytes_ok bs ≡ true → hex_bytes (hex_text bs) ≡ bs
unfolding hex_bytes hex_text
hex-back [] h = refl
hex-back (b ∷ bs) h =
    let e : b / 16 * 16 + b % 16 ≡ b = omega arith in
    rw ((upper b bs h).value, (lower b bs h).value, e, hex-back bs (rest-bytes b bs h))

hex-forms : (bs : List ℕ) → bytes_ok bs ≡ true → every is_hex (hex_text bs) ≡ true
unfolding hex_text every
hex-forms [] h = refl
hex-forms (b ∷ bs) h = rw ((upper b bs h).form, (lower b bs h).form, hex-forms bs (rest-bytes b bs h))

pub hex-ok : (bs : List ℕ) → bytes_ok bs ≡ true → hex_ok (hex_text bs) ≡ true
unfolding hex_ok
hex-ok bs h =
    let e : 2 * length bs % 2 ≡ 0 = omega arith in
    rw (hex-text-length bs, e, hex-forms bs h)

-- no byte of it is below 48, thus none is a comma or ends a line
pub hex-high : (bs : List ℕ) → bytes_ok bs ≡ true → every (leb 48) (hex_text bs) ≡ true
unfolding hex_text every
hex-high [] h = refl
hex-high (b ∷ bs) h = rw (le-leb 48 _ (upper b bs h).high, le-leb 48 _ (lower b bs h).high, hex-high bs (rest-bytes b bs h))

pub decimal-append : (v : ℕ) (s : List ℕ) (x : ℕ) → decimal v (s ++ (x ∷ [])) ≡ decimal v s * 10 + (x - 48)
unfolding decimal
decimal-append v [] x = refl
decimal-append v (y ∷ s) x = decimal-append (v * 10 + (y - 48)) s x

decimal-digits : (n v : ℕ) → every (in_range 48 57) (decimal_text n v) ≡ true
unfolding decimal_text every
decimal-digits zero v = refl
decimal-digits (suc n) v = go (ltb v 10) refl (decimal-digits n (v / 10))
  where
    go : (b : Bool) → ltb v 10 ≡ b → every (in_range 48 57) (decimal_text n (v / 10)) ≡ true
        → every (in_range 48 57) (cond b ((48 + v) ∷ []) (decimal_text n (v / 10) ++ ((48 + v % 10) ∷ []))) ≡ true
    go true e r = let l = ltb-true v 10 e in rw (between-yes 48 57 (48 + v) (omega arith) (omega arith))
    go false e r = every_append (in_range 48 57) (decimal_text n (v / 10)) ((48 + v % 10) ∷ []) r (rw (between-yes 48 57 (48 + v % 10) (omega arith) (omega arith)))

-- n digits are enough for a number below 10 ^ n
pub tenth : (n v : ℕ) → v < 10 ^ suc n → v / 10 < 10 ^ n
tenth n v h = let k : v < 10 ^ n * 10 = rw pow-suc at h in omega arith

decimal-value : (n v : ℕ) → v < 10 ^ n → decimal 0 (decimal_text n v) ≡ v
unfolding decimal_text decimal
decimal-value zero v h = omega arith
decimal-value (suc n) v h = go (ltb v 10) (decimal-value n (v / 10) (tenth n v h))
  where
    go : (b : Bool) → decimal 0 (decimal_text n (v / 10)) ≡ v / 10
        → decimal 0 (cond b ((48 + v) ∷ []) (decimal_text n (v / 10) ++ ((48 + v % 10) ∷ []))) ≡ v
    go true r = omega arith
    go false r = decimal-append 0 (decimal_text n (v / 10)) (48 + v % 10) ∙ rw r (omega arith)

-- the first digit of a number above 0
pub record Leads (s : List ℕ) : Type 0 where
  pub some : 0 < length s
  pub lead : get_or s 0 0 ≡ 48 → ⊥

leads-append : (s t : List ℕ) → Leads s → Leads (s ++ t)
leads-append s t l =
    record { some = let k = l.some in rw length-append (omega arith); lead = λ e. l.lead (sym (get_or-append s t 0 0 l.some) ∙ e) }

decimal-leads : (n v : ℕ) → 0 < v → v < 10 ^ n → Leads (decimal_text n v)
unfolding decimal_text
decimal-leads zero v p h = absurd (omega arith)
decimal-leads (suc n) v p h = go (ltb v 10) refl (λ q. decimal-leads n (v / 10) q (tenth n v h))
  where
    go : (b : Bool) → ltb v 10 ≡ b → (0 < v / 10 → Leads (decimal_text n (v / 10)))
        → Leads (cond b ((48 + v) ∷ []) (decimal_text n (v / 10) ++ ((48 + v % 10) ∷ [])))
    go true e r = record { some = omega arith; lead = λ e. omega arith }
    go false e r = let l = ltb-false v 10 e in leads-append (decimal_text n (v / 10)) ((48 + v % 10) ∷ []) (r (omega arith))

or-true : (a : Bool) → (a || true) ≡ true
or-true true = refl
or-true false = refl

leads-plain : (s : List ℕ) → every (in_range 48 57) s ≡ true → Leads s → plain s ≡ true
leads-plain s h l = rw (lt-ltb 0 (length s) l.some, h, ne_eqb (get_or s 0 0) 48 l.lead) (or-true (eqb (length s) 1))

decimal-plain : (n v : ℕ) → v < 10 ^ suc n → plain (decimal_text (suc n) v) ≡ true
unfolding decimal_text
decimal-plain n v h = go (ltb v 10) refl (decimal-digits (suc n) v)
  where
    go : (b : Bool) → ltb v 10 ≡ b → every (in_range 48 57) (decimal_text (suc n) v) ≡ true → plain (cond b ((48 + v) ∷ []) (decimal_text n (v / 10) ++ ((48 + v % 10) ∷ []))) ≡ true
    go true e r = rw (rw e at r)
    go false e r =
        let l = ltb-false v 10 e in
        leads-plain _ (rw e at r) (leads-append (decimal_text n (v / 10)) ((48 + v % 10) ∷ []) (decimal-leads n (v / 10) (omega arith) (tenth n v h)))

-- a number of 64 bits is read back from its text
pub decimal-back : (v : ℕ) → v < 2 ^ 64 → decimal_of (number_text v) ≡ Some v
unfolding decimal_of number_of number_text
decimal-back v h =
    let k : v < 10 ^ 20 = omega arith in
    rw (decimal-plain 19 v k, decimal-value 20 v k, lt-ltb v (2 ^ 64) h)

between-high : (l h : ℕ) (s : List ℕ) → every (in_range l h) s ≡ true → every (leb l) s ≡ true
between-high l h s e = every_more (in_range l h) (leb l) (λ x. and_left (leb l x) (leb x h)) s e

pub decimal-high : (v : ℕ) → every (leb 48) (number_text v) ≡ true
unfolding number_text
decimal-high v = between-high 48 57 (decimal_text 20 v) (decimal-digits 20 v)

-- digits below m: DIGITS and GROUP
module _ (m : ℕ) (small : m ≤ 10) where
  pub digits-form : (ds : List ℕ) → every (λ (d : ℕ). ltb d m) ds ≡ true → every (in_range 48 (47 + m)) (digits_text ds) ≡ true
  unfolding every digits_text
  digits-form [] h = refl
  digits-form (d ∷ ds) h =
      let l = ltb-true d m (and_left (ltb d m) (every (λ (d : ℕ). ltb d m) ds) h) in
      rw (between-yes 48 (47 + m) (48 + d) (omega arith) (omega arith)) (digits-form ds (and_right (ltb d m) (every (λ (d : ℕ). ltb d m) ds) h))

  pub digits-back : (ds : List ℕ) → every (λ (d : ℕ). ltb d m) ds ≡ true → map hex_val (digits_text ds) ≡ ds
  unfolding every digits_text hex_val
  digits-back [] h = refl
  digits-back (d ∷ ds) h =
      let l = ltb-true d m (and_left (ltb d m) (every (λ (d : ℕ). ltb d m) ds) h) in
      let e : 48 + d - 48 ≡ d = omega arith in
      rw (between-yes 48 57 (48 + d) (omega arith) (omega arith), e, digits-back ds (and_right (ltb d m) (every (λ (d : ℕ). ltb d m) ds) h))

  pub digits-high : (ds : List ℕ) → every (λ (d : ℕ). ltb d m) ds ≡ true → every (leb 48) (digits_text ds) ≡ true
  digits-high ds h = between-high 48 (47 + m) (digits_text ds) (digits-form ds h)

pub digits-length : (ds : List ℕ) → length (digits_text ds) ≡ length ds
unfolding digits_text
digits-length ds = length-map ds (λ (d : ℕ). 48 + d)
