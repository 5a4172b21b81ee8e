-- The printed lines of a scene: each has its kind and its fields, and the reader puts down of it what the scene says.
-- Assumes nothing.
use Rattle.std.specs.Prelude.{Option, Some, None}
use Prim.Native.Nat.{ℕ, ◌≤◌, ◌<◌}
use mathlib.Core.Path.{◌≡◌, refl, ap, ◌∙◌}
use mathlib.Core.Bool.{Bool, true, not}
use mathlib.Core.List.{List, [], ◌∷◌, ◌++◌, map, append-nil}
use native.Mathlib.Omega.{arith}
use borrow.Author.Tests.{leb-true, le-leb, ne_eqb}
use lib.ListN.{length, replicate}
use lib.Dec.{leb, ltb, eqb}
use Rattle.octets.specs.Lists.{same, every}
use Rattle.scene_line.specs.declared.form.Form.TheVariants.{Hex}
use Rattle.scene_line.specs.declared.kind.Kind.{Kind}
use Rattle.scene_line.specs.declared.kind.Kind.TheVariants as kind
use Rattle.scene_line.specs.Kind.{kind_of, field_count, first_form, line_fields, script, tx, input, output, dep, witness, verdicts}
use Rattle.scene_line.specs.Line.{forms_ok}
use Rattle.scene_table.specs.Scene.{Cell, Input, Output, Line, bytes_line, hash_line, input_line, output_line, cell_line, digits_line}
use Rattle.scene_table.specs.Valid.{bytes_ok}
use Rattle.text.specs.Text.{line_end, comma}
use Rattle.octets.proofs.Every.{every_append, every_more}
use Rattle.octets.proofs.Truth.{and_left, and_right}
use Rattle.text.specs.Print.{parted_by, line_text, hex_text, digits_text}
use Rattle.scene_reading.specs.Lines.{word_of, kind_of_line, fields_of_line, count_ok, form_ok}
use Rattle.scene_reading.specs.Print.{cell_fields, input_fields, output_fields, input_text, output_text, dep_text, bytes_text}
use Rattle.scene_reading.specs.Reading.{cell_of}
use Rattle.scene_reading.proofs.LinesPut.{line_in, line_read, hex-put, hash-put, digits-put, cell-put, output-put, input-put}
use Rattle.scene_reading.proofs.PrintPieces.{without, line-pieces}
use Rattle.scene_reading.proofs.PrintDigits.{hex-back, hex-ok, hex-high, digits-form, digits-high, digits-length, digits-back}
use Rattle.scene_reading.proofs.PrintFields.{HashHolds, hash-form, CellHolds, cell-high, cell-form, cell-back, OutputHolds, output-high, output-form, output-back, InputHolds, input-high, input-form, input-fields-back}

-- A text all of whose bytes are 48 or more holds no separator
module _ (c : ℕ) (low : c < 48) where
  pub high-without : (s : List ℕ) → every (leb 48) s ≡ true → without c s ≡ true
  unfolding without
  high-without s h =
      every_more (leb 48) (λ (x : ℕ). not (eqb x c)) (λ x e. let l = leb-true 48 x e in let n : x ≡ c → ⊥ = λ q. omega arith in rw (ne_eqb x c n)) s h

  fields-without : (fs : List (List ℕ)) → every (every (leb 48)) fs ≡ true → every (without c) fs ≡ true
  unfolding every
  fields-without [] h = refl
  fields-without (f ∷ fs) h =
      rw (high-without f (and_left (every (leb 48) f) (every (every (leb 48)) fs) h)) (fields-without fs (and_right (every (leb 48) f) (every (every (leb 48)) fs) h))

line-without : (word : List ℕ) (fs : List (List ℕ)) → every (leb 48) word ≡ true → every (every (leb 48)) fs ≡ true → without line_end (line_text word fs) ≡ true
unfolding line_text parted_by every without
line-without word [] w h = rw append-nil (high-without line_end (omega arith) word w)
line-without word (f ∷ fs) w h =
    every_append (λ (x : ℕ). not (eqb x 10)) word (44 ∷ line_text f fs) (high-without line_end (omega arith) word w)
    (line-without f fs (and_left (every (leb 48) f) (every (every (leb 48)) fs) h) (and_right (every (leb 48) f) (every (every (leb 48)) fs) h))

-- what is known of the text l of a line of kind k with the fields fs
pub record Says (l : List ℕ) (k : Option Kind) (fs : List (List ℕ)) : Type 0 where
  pub ended : without line_end l ≡ true
  pub kind : kind_of_line l ≡ k
  pub fields : fields_of_line l ≡ fs

-- the word of each kind of lines, none where a line has no kind
abbrev pub kind_word : Option Kind → List ℕ
kind_word (Some kind.Script) = script
kind_word (Some kind.Tx) = tx
kind_word (Some kind.Input) = input
kind_word (Some kind.Output) = output
kind_word (Some kind.Dep) = dep
kind_word (Some kind.Witness) = witness
kind_word (Some kind.Verdicts) = verdicts
kind_word None = []

-- it names the kind, and its bytes are 48 or more
word-of : (k : Option Kind) → (kind_of (kind_word k) ≡ k) × (every (leb 48) (kind_word k) ≡ true)
unfolding kind_of same every
word-of (Some kind.Script) = (refl, refl)
word-of (Some kind.Tx) = (refl, refl)
word-of (Some kind.Input) = (refl, refl)
word-of (Some kind.Output) = (refl, refl)
word-of (Some kind.Dep) = (refl, refl)
word-of (Some kind.Witness) = (refl, refl)
word-of (Some kind.Verdicts) = (refl, refl)
word-of None = (refl, refl)

-- a line has the kind of its word, and its fields
line-says : (k : Option Kind) (fs : List (List ℕ)) → every (every (leb 48)) fs ≡ true → Says (line_text (kind_word k) fs) k fs
unfolding kind_of_line fields_of_line word_of line_fields
line-says k fs h =
    let w = word-of k in
    let e = line-pieces (kind_word k) fs (high-without comma (omega arith) (kind_word k) w.1) (fields-without comma (omega arith) fs h) in
    record { ended = line-without (kind_word k) fs w.1 h; kind = rw e w.0; fields = rw e }

-- and that no line row refuses it, and what the reader puts down of it
pub record Prints (l : List ℕ) (k : Option Kind) (line : Line) : Type 0 where
  pub fields : List (List ℕ)
  pub says : Says l k fields
  pub counted : eqb (length fields) (field_count k) ≡ true
  pub formed : forms_ok true (first_form k) fields ≡ true
  pub read : line_in (first_form k) fields ≡ line

-- lines of bytes
module _ (k : Option Kind) where
  pub bytes-says : (bs : List ℕ) → bytes_ok bs ≡ true → Says (bytes_text (kind_word k) bs) k (hex_text bs ∷ [])
  unfolding bytes_text every
  bytes-says bs h = line-says k (hex_text bs ∷ []) (rw (hex-high bs h))

  pub bytes-prints : first_form k ≡ Hex → field_count k ≡ 1 → (bs : List ℕ) → bytes_ok bs ≡ true → Prints (bytes_text (kind_word k) bs) k (bytes_line bs)
  unfolding forms_ok
  bytes-prints f n bs h =
      record {
        fields = hex_text bs ∷ [];
        says = bytes-says bs h;
        counted = rw n;
        formed = rw (f, hex-ok bs h);
        read = rw f (hex-put (hex_text bs) ∙ rw (hex-back bs h));
      }

pub hash-prints : (hash : List ℕ) → HashHolds hash → Prints (bytes_text tx hash) (Some kind.Tx) (hash_line hash)
unfolding forms_ok
hash-prints hash h =
    record {
      fields = hex_text hash ∷ [];
      says = bytes-says (Some kind.Tx) hash h.bytes;
      counted = refl;
      formed = rw (hash-form hash h);
      read = hash-put (hex_text hash) ∙ rw (hex-back hash h.bytes);
    }

-- lines of inputs, outputs and deps
pub input-says : (i : Input) → InputHolds i → Says (input_text i) (Some kind.Input) (input_fields i)
unfolding input_text
input-says i h = line-says (Some kind.Input) (input_fields i) (input-high i h)

pub input-prints : (i : Input) → InputHolds i → Prints (input_text i) (Some kind.Input) (input_line i)
unfolding input_fields cell_fields
input-prints i h =
    record {
      fields = input_fields i;
      says = input-says i h;
      counted = refl;
      formed = input-form i h;
      read = input-put _ _ _ _ _ _ _ ∙ ap input_line (input-fields-back i h);
    }

pub output-says : (o : Output) → OutputHolds o → Says (output_text o) (Some kind.Output) (output_fields o)
unfolding output_text output_fields
output-says o h = line-says (Some kind.Output) (output_fields o) (output-high o h)

pub output-prints : (o : Output) → OutputHolds o → Prints (output_text o) (Some kind.Output) (output_line o)
unfolding output_fields cell_fields
output-prints o h =
    record {
      fields = output_fields o;
      says = output-says o h;
      counted = refl;
      formed = output-form o h;
      read = output-put _ _ _ _ _ ∙ ap output_line (output-back o h);
    }

pub dep-says : (c : Cell) → CellHolds c → Says (dep_text c) (Some kind.Dep) (cell_fields c)
unfolding dep_text cell_fields every
dep-says c h = line-says (Some kind.Dep) (cell_fields c) (cell-high c h [] refl)

pub dep-back : (c : Cell) → CellHolds c → cell_of 0 (cell_fields c) ≡ c
unfolding cell_fields
dep-back c h = cell-back c h []

pub dep-prints : (c : Cell) → CellHolds c → Prints (dep_text c) (Some kind.Dep) (cell_line c)
unfolding cell_fields forms_ok
dep-prints c h =
    record {
      fields = cell_fields c;
      says = dep-says c h;
      counted = refl;
      formed = cell-form c h [] (λ b. refl);
      read = cell-put _ _ _ _ ∙ ap cell_line (dep-back c h);
    }

pub record DigitsHold (ds : List ℕ) : Type 0 where
  pub few : length ds ≤ 16
  pub each : every (λ (d : ℕ). ltb d 3) ds ≡ true

pub digits-says : (ds : List ℕ) → DigitsHold ds → Says (line_text verdicts (digits_text ds ∷ [])) (Some kind.Verdicts) (digits_text ds ∷ [])
unfolding every
digits-says ds h = line-says (Some kind.Verdicts) (digits_text ds ∷ []) (rw (digits-high 3 (omega arith) ds h.each))

pub digits-prints : (ds : List ℕ) → DigitsHold ds → Prints (line_text verdicts (digits_text ds ∷ [])) (Some kind.Verdicts) (digits_line ds)
unfolding forms_ok
digits-prints ds h =
    record {
      fields = digits_text ds ∷ [];
      says = digits-says ds h;
      counted = refl;
      formed = rw (digits-length ds, le-leb (length ds) 16 h.few, digits-form 3 (omega arith) ds h.each);
      read = digits-put (digits_text ds) ∙ rw (digits-back 3 (omega arith) ds h.each);
    }

-- lines one by one, with their kinds and with what they hold
pub data EachPrints : List (List ℕ) → List (Option Kind) → List Line → Type 0 where
  none : EachPrints [] [] []
  more : {l : List ℕ} {k : Option Kind} {line : Line} {ls : List (List ℕ)} {ks : List (Option Kind)} {lines : List Line}
      → Prints l k line → EachPrints ls ks lines → EachPrints (l ∷ ls) (k ∷ ks) (line ∷ lines)

pub each-prints-append : {ls ls' : List (List ℕ)} {ks ks' : List (Option Kind)} {xs xs' : List Line}
    → EachPrints ls ks xs → EachPrints ls' ks' xs' → EachPrints (ls ++ ls') (ks ++ ks') (xs ++ xs')
each-prints-append none q = q
each-prints-append (more p r) q = more p (each-prints-append r q)

-- n lines of one kind
pub each_map : {A : Type 0} (ok : A → Bool) (text : A → List ℕ) (k : Option Kind) (line : A → Line) → ((x : A) → ok x ≡ true → Prints (text x) k (line x))
    → (xs : List A) → every ok xs ≡ true → EachPrints (map text xs) (replicate (length xs) k) (map line xs)
unfolding every
each_map ok text k line p [] h = none
each_map ok text k line p (x ∷ xs) h =
    more (p x (and_left (ok x) (every ok xs) h)) (each_map ok text k line p xs (and_right (ok x) (every ok xs) h))

-- what the line rows ask of all of them, and what the reader puts down of them
pub record LinesPrinted (ls : List (List ℕ)) (ks : List (Option Kind)) (lines : List Line) : Type 0 where
  pub ended : every (without line_end) ls ≡ true
  pub ordered : map kind_of_line ls ≡ ks
  pub counted : every count_ok ls ≡ true
  pub formed : every form_ok ls ≡ true
  pub read : map line_read ls ≡ lines

pub each-printed : {ls : List (List ℕ)} {ks : List (Option Kind)} {lines : List Line} → EachPrints ls ks lines → LinesPrinted ls ks lines
unfolding every count_ok form_ok line_read
each-printed none = record { ended = refl; ordered = refl; counted = refl; formed = refl; read = refl }
each-printed (more p r) =
    let h = each-printed r in
    let k = p.says.kind in
    let f = p.says.fields in
    record {
      ended = rw (p.says.ended, h.ended);
      ordered = rw (k, h.ordered);
      counted = rw (k, f, p.counted, h.counted);
      formed = rw (k, f, p.formed, h.formed);
      read = rw (k, f, p.read, h.read);
    }
