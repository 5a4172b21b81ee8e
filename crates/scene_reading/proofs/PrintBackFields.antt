-- Fields that have their forms are the print of what they say.
-- Assumes nothing.
use Prim.Native.Nat.{ℕ, zero, suc, ◌+◌, ◌*◌, ◌^◌}
use mathlib.Core.Path.{◌≡◌, refl, sym, ap, ◌∙◌}
use mathlib.Core.Bool.{Bool, true, false, cond, ◌&&◌, ◌||◌}
use mathlib.Core.List.{List, [], ◌∷◌}
use native.Mathlib.Omega.{arith}
use borrow.Author.Tests.{ltb-true, eqb-true, eq-eqb, ne_eqb, lt-ltb}
use lib.ListN.{length, get_or}
use lib.Dec.{ltb, eqb}
use Rattle.octets.specs.Lists.{every}
use Rattle.text.specs.Text.{in_range, hex_ok, hex_val, hex_bytes, decimal_of, number_in}
use Rattle.scene_line.specs.declared.form.Form.TheVariants.{Group, TypeHash, Capacity}
use Rattle.scene_line.specs.Line.{forms_ok, is_number}
use Rattle.scene_table.specs.Valid.{bytes_ok, hash_bytes_ok, cell_ok, input_ok, output_ok}
use Rattle.octets.proofs.Truth.{and_left, and_right}
use Rattle.text.specs.Print.{hex_text, digits_text}
use Rattle.text.proofs.HexLaws.{hex-text-length}
use Rattle.scene_reading.specs.Print.{cell_fields, input_fields, output_fields}
use Rattle.scene_reading.specs.Reading.{cell_of, decimal_field, input_of, output_of}
use Rattle.scene_reading.proofs.PrintBackDigits.{HexPrint, hex-print, decimal-print, DigitsPrint, digits-print}

hexes-length : (f : List ℕ) → HexPrint f → length f ≡ 2 * length (hex_bytes f)
hexes-length f h = ap length (sym h.text) ∙ hex-text-length (hex_bytes f)

-- a hash
pub record HashPrint (f : List ℕ) : Type 0 where
  pub ok : hash_bytes_ok (hex_bytes f) ≡ true
  pub text : hex_text (hex_bytes f) ≡ f

pub hash-print : (f : List ℕ) → (eqb (length f) 64 && hex_ok f) ≡ true → HashPrint f
unfolding hash_bytes_ok
hash-print f h =
    let x = hex-print f (and_right (eqb (length f) 64) (hex_ok f) h) in
    let n = eqb-true (length f) 64 (and_left (eqb (length f) 64) (hex_ok f) h) in
    let m = hexes-length f x in
    record { ok = rw (eq-eqb (length (hex_bytes f)) 32 (omega arith)) x.bytes; text = x.text }

-- a type hash a and a type script c
record TypePair (a c : List ℕ) : Type 0 where
  ok : cond (eqb (length (hex_bytes c)) 0) (eqb (length (hex_bytes a)) 0) (hash_bytes_ok (hex_bytes a)) ≡ true
  hash : hex_text (hex_bytes a) ≡ a
  script : HexPrint c

no-hexes : (f : List ℕ) → length f ≡ 0 → HexPrint f
unfolding hex_bytes hex_text bytes_ok every
no-hexes [] e = record { bytes = refl; text = refl }
no-hexes (x ∷ f) e = absurd (omega arith)

type-print : (a c : List ℕ) (b : Bool) → eqb (length a) 0 ≡ b → (b || (eqb (length a) 64 && hex_ok a)) ≡ true
    → cond b (eqb (length c) 0) (ltb 0 (length c) && hex_ok c) ≡ true → TypePair a c
type-print a c true e h k =
    let x = no-hexes a (eqb-true (length a) 0 e) in
    let y = no-hexes c (eqb-true (length c) 0 k) in
    let l = eqb-true (length a) 0 e in
    let m = eqb-true (length c) 0 k in
    let xl = hexes-length a x in
    let yl = hexes-length c y in
    record { ok = rw (eq-eqb (length (hex_bytes c)) 0 (omega arith), eq-eqb (length (hex_bytes a)) 0 (omega arith)); hash = x.text; script = y }
type-print a c false e h k =
    let x = hash-print a h in
    let y = hex-print c (and_right (ltb 0 (length c)) (hex_ok c) k) in
    let m = ltb-true 0 (length c) (and_left (ltb 0 (length c)) (hex_ok c) k) in
    let yl = hexes-length c y in
    let some : length (hex_bytes c) ≡ 0 → ⊥ = λ z. omega arith in
    record { ok = rw (ne_eqb (length (hex_bytes c)) 0 some, x.ok); hash = x.text; script = y }

-- the fields of a line by their indices
unfoldable pub fields_from : (ℕ → List ℕ) → ℕ → List (List ℕ)
fields_from f zero = []
fields_from f (suc n) = f 0 ∷ fields_from (λ (i : ℕ). f (suc i)) n

pub fields-from : (fs : List (List ℕ)) (n : ℕ) → length fs ≡ n → fs ≡ fields_from (λ (i : ℕ). get_or fs i []) n
unfolding fields_from
fields-from [] zero e = refl
fields-from [] (suc n) e = absurd (omega arith)
fields-from (f ∷ fs) zero e = absurd (omega arith)
fields-from (f ∷ fs) (suc n) e = ap (λ (r : List (List ℕ)). f ∷ r) (fields-from fs n (omega arith))

-- a cell, with fields behind its own
record FourPrint (a b c d : List ℕ) (rest : List (List ℕ)) : Type 0 where
  ok : cell_ok (cell_of 0 (a ∷ b ∷ c ∷ d ∷ rest)) ≡ true
  text : cell_fields (cell_of 0 (a ∷ b ∷ c ∷ d ∷ rest)) ≡ a ∷ b ∷ c ∷ d ∷ []
  others : forms_ok (eqb (length a) 0) Capacity rest ≡ true

four-print : (a b c d : List ℕ) (rest : List (List ℕ)) → forms_ok true TypeHash (a ∷ b ∷ c ∷ d ∷ rest) ≡ true → FourPrint a b c d rest
unfolding forms_ok cell_ok cell_fields cell_of
four-print a b c d rest h =
    let e = eqb (length a) 0 in
    let fa = e || (eqb (length a) 64 && hex_ok a) in
    let fb = eqb (length b) 64 && hex_ok b in
    let fc = cond e (eqb (length c) 0) (ltb 0 (length c) && hex_ok c) in
    let r = forms_ok e Capacity rest in
    let h₁ = and_right fa (fb && (fc && (hex_ok d && r))) h in
    let h₂ = and_right fb (fc && (hex_ok d && r)) h₁ in
    let h₃ = and_right fc (hex_ok d && r) h₂ in
    let t = type-print a c e refl (and_left fa (fb && (fc && (hex_ok d && r))) h) (and_left fc (hex_ok d && r) h₂) in
    let hash = hash-print b (and_left fb (fc && (hex_ok d && r)) h₁) in
    let content = hex-print d (and_left (hex_ok d) r h₃) in
    record {
      ok = rw (t.ok, hash.ok, t.script.bytes, content.bytes);
      text = rw (t.hash, hash.text, t.script.text, content.text);
      others = and_right (hex_ok d) r h₃;
    }

-- a dep
pub record CellPrint (fs : List (List ℕ)) : Type 0 where
  pub ok : cell_ok (cell_of 0 fs) ≡ true
  pub text : cell_fields (cell_of 0 fs) ≡ fs

pub cell-print : (fs : List (List ℕ)) → length fs ≡ 4 → forms_ok true TypeHash fs ≡ true → CellPrint fs
unfolding fields_from
cell-print fs n h =
    let e = fields-from fs 4 n in
    let x = four-print (get_or fs 0 []) (get_or fs 1 []) (get_or fs 2 []) (get_or fs 3 []) [] (rw e at h) in
    rw e (record { ok = x.ok; text = x.text })

-- an output: its cell and its capacity
pub record OutputPrint (fs : List (List ℕ)) : Type 0 where
  pub ok : output_ok (output_of fs) ≡ true
  pub text : output_fields (output_of fs) ≡ fs

five-print : (a b c d v : List ℕ) → forms_ok true TypeHash (a ∷ b ∷ c ∷ d ∷ v ∷ []) ≡ true → OutputPrint (a ∷ b ∷ c ∷ d ∷ v ∷ [])
unfolding forms_ok output_ok output_fields output_of decimal_field
five-print a b c d v h =
    let x = four-print a b c d (v ∷ []) h in
    let y = decimal-print v (and_left (is_number (decimal_of v)) true x.others) in
    record { ok = rw (x.ok, lt-ltb (number_in (decimal_of v)) (2 ^ 64) y.fits); text = rw (x.text, y.text) }

pub output-print : (fs : List (List ℕ)) → length fs ≡ 5 → forms_ok true TypeHash fs ≡ true → OutputPrint fs
unfolding fields_from
output-print fs n h =
    let e = fields-from fs 5 n in
    rw e (five-print (get_or fs 0 []) (get_or fs 1 []) (get_or fs 2 []) (get_or fs 3 []) (get_or fs 4 []) (rw e at h))

-- an input: its group, its since, its cell and its capacity
pub record InputPrint (fs : List (List ℕ)) : Type 0 where
  pub ok : input_ok (input_of fs) ≡ true
  pub text : input_fields (input_of fs) ≡ fs

one-digit : (g : List ℕ) → length g ≡ 1 → g ≡ get_or g 0 0 ∷ []
one-digit [] e = absurd (omega arith)
one-digit (x ∷ []) e = refl
one-digit (x ∷ y ∷ g) e = absurd (omega arith)

group-print : (g : List ℕ) → (eqb (length g) 1 && every (in_range 48 49) g) ≡ true → (ltb (hex_val (get_or g 0 0)) 2 ≡ true) × ((48 + hex_val (get_or g 0 0)) ∷ [] ≡ g)
unfolding every digits_text
group-print g h =
    let e = one-digit g (eqb-true (length g) 1 (and_left (eqb (length g) 1) (every (in_range 48 49) g) h)) in
    let d : DigitsPrint 2 (get_or g 0 0 ∷ []) = digits-print 2 (omega arith) (get_or g 0 0 ∷ []) (rw e at (and_right (eqb (length g) 1) (every (in_range 48 49) g) h)) in
    (and_left (ltb (hex_val (get_or g 0 0)) 2) true d.each, d.text ∙ sym e)

pub input-print : (fs : List (List ℕ)) → length fs ≡ 7 → forms_ok true Group fs ≡ true → InputPrint fs
unfolding forms_ok input_ok output_ok input_fields output_fields input_of output_of cell_of decimal_field
input-print [] n h = absurd (omega arith)
input-print (g ∷ []) n h = absurd (omega arith)
input-print (g ∷ t ∷ fs) n h =
    let fg = eqb (length g) 1 && every (in_range 48 49) g in
    let ft = is_number (decimal_of t) in
    let rest = forms_ok true TypeHash fs in
    let h₁ = and_right fg (ft && rest) h in
    let group = group-print g (and_left fg (ft && rest) h) in
    let since = decimal-print t (and_left ft rest h₁) in
    let spent = output-print fs (omega arith) (and_right ft rest h₁) in
    record {
      ok = rw (group.0, lt-ltb (number_in (decimal_of t)) (2 ^ 64) since.fits) spent.ok;
      text = rw (group.1, since.text) (ap (λ (r : List (List ℕ)). g ∷ t ∷ r) spent.text);
    }
