-- What a line's fields give together, at its first field. Assumes nothing.
use Prim.Native.Nat.{ℕ, ◌+◌, ◌≤◌}
use mathlib.Core.Bool.{Bool, true, false, cond}
use mathlib.Core.Path.{◌≡◌, refl, sym}
use mathlib.Core.List.{List, [], ◌∷◌, ◌++◌}
use native.Mathlib.Omega.{arith}
use lib.ListN.{length, length-append}
use lib.Seq.{sets}
use Rattle.octets.specs.Lists.{joined}
use Rattle.octets.proofs.Stores.{sets-append}
use Rattle.text.specs.Text.{pieces, hex_bytes}
use Rattle.text.proofs.HexLaws.{hex-length}
use Rattle.text.proofs.Pieces.{pieces_short}
use Rattle.scene_line.specs.declared.form.Form.{Form}
use Rattle.scene_line.specs.Line.{next_form, hex_form, field_ok, bare_after, forms_ok, field_bytes, line_bytes, field_entries, line_entries}

-- the first field has its form, and the others decide
pub forms-next : (t : Form) (P ps : List (List ℕ)) (f : List ℕ) → P ≡ f ∷ ps → (b : Bool) → field_ok b t f ≡ true
    → forms_ok b t P ≡ forms_ok (bare_after b t f) (next_form t) ps
unfolding forms_ok
forms-next t P ps f cut b e = rw (cut, e)

-- or it has not
pub forms-off : (t : Form) (P ps : List (List ℕ)) (f : List ℕ) → P ≡ f ∷ ps → (b : Bool) → field_ok b t f ≡ false → forms_ok b t P ≡ false
unfolding forms_ok
forms-off t P ps f cut b e = rw (cut, e)

-- What fields give end to end: whole is one after another, by form.
module _ (one : Form → List ℕ → List ℕ) (whole : Form → List (List ℕ) → List ℕ)
    (on : (t : Form) (f : List ℕ) (fs : List (List ℕ)) → whole t (f ∷ fs) ≡ one t f ++ whole (next_form t) fs)
    (t : Form) (P ps : List (List ℕ)) (f : List ℕ) (cut : P ≡ f ∷ ps) where
  first : whole t P ≡ one t f ++ whole (next_form t) ps
  first = rw cut (on t f ps)

  pub fields-length : length (whole t P) ≡ length (one t f) + length (whole (next_form t) ps)
  fields-length = rw first (length-append (one t f) (whole (next_form t) ps))

  pub fields-put : (l : List ℕ) (at : ℕ) → sets l at (whole t P) ≡ sets (sets l at (one t f)) (at + length (one t f)) (whole (next_form t) ps)
  fields-put l at = rw first (sym (sets-append l at (one t f) (whole (next_form t) ps) (at + length (one t f)) refl))

pub bytes_on : (t : Form) (f : List ℕ) (fs : List (List ℕ)) → line_bytes t (f ∷ fs) ≡ field_bytes t f ++ line_bytes (next_form t) fs
unfolding line_bytes
bytes_on t f fs = refl

pub numbers_on : (t : Form) (f : List ℕ) (fs : List (List ℕ)) → line_entries t (f ∷ fs) ≡ field_entries t f ++ line_entries (next_form t) fs
unfolding line_entries
numbers_on t f fs = refl

-- a field has no more bytes than digits
field-short : (t : Form) (f : List ℕ) → length (field_bytes t f) ≤ length f
unfolding field_bytes
field-short t f = go (hex_form t)
  where
    go : (b : Bool) → length (cond b (hex_bytes f) []) ≤ length f
    go true = omega (arith, hex-length f)
    go false = omega arith

fields-short : (t : Form) (fs : List (List ℕ)) → length (line_bytes t fs) ≤ length (joined fs)
unfolding line_bytes joined
fields-short t [] = omega arith
fields-short t (f ∷ fs) =
    omega (arith, field-short t f, fields-short (next_form t) fs, length-append (field_bytes t f) (line_bytes (next_form t) fs), length-append f (joined fs))

-- nor have the fields of a text
pub text-short : (t : Form) (c : ℕ) (s : List ℕ) → length (line_bytes t (pieces c s)) ≤ length s
text-short t c s = omega (arith, fields-short t (pieces c s), pieces_short c s)
