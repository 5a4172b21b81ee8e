-- A line that no row refuses is the print of what it says.
-- Assumes nothing.
use Rattle.std.specs.Prelude.{Option, Some, None}
use Prim.Native.Nat.{ℕ, ◌<◌}
use mathlib.Core.Path.{◌≡◌, refl, sym, ap, ap₂, ◌∙◌}
use mathlib.Core.Bool.{Bool, true, false, cond, ◌&&◌}
use mathlib.Core.List.{List, [], ◌∷◌, ◌++◌, map}
use native.Mathlib.Omega.{arith}
use borrow.Author.Tests.{eqb-true}
use lib.ListN.{length, length-map, get_or}
use lib.Dec.{lit<, eqb, leb}
use Rattle.octets.specs.Lists.{same, every}
use Rattle.octets.proofs.Same.{same-eq}
use Rattle.text.specs.Text.{in_range, before, pieces, hex_ok, hex_val, hex_bytes, line_end, comma}
use Rattle.text.proofs.Pieces.{before-none}
use Rattle.scene_line.specs.declared.kind.Kind.{Kind}
use Rattle.scene_line.specs.declared.kind.Kind.TheVariants as kind
use Rattle.scene_line.specs.declared.form.Form.TheVariants.{Hex}
use Rattle.scene_line.specs.Kind.{rank, kind_of, field_count, first_form, line_fields, script, tx, input, output, dep, witness, verdicts}
use Rattle.scene_line.specs.Line.{forms_ok}
use Rattle.scene_table.specs.Valid.{bytes_ok, hash_bytes_ok, cell_ok, input_ok, output_ok, digits_ok}
use Rattle.octets.proofs.Truth.{and_left, and_right}
use Rattle.text.specs.Print.{parted_by, line_text, digits_text, ended_lines}
use Rattle.scene_reading.specs.Lines.{word_of, kind_of_line, fields_of_line, count_ok, form_ok}
use Rattle.scene_reading.specs.Print.{cell_fields, input_fields, output_fields, input_text, output_text, dep_text, bytes_text}
use Rattle.scene_reading.specs.Reading.{cell_of, input_of, output_of}
use Rattle.scene_reading.proofs.PrintLines.{kind_word}
use Rattle.scene_reading.proofs.PrintBackDigits.{hex-print, digits-print}
use Rattle.scene_reading.proofs.PrintBackFields.{fields_from, fields-from, hash-print, cell-print, output-print, input-print}

-- pieces joined again, with c between them
rejoined : ℕ → List (List ℕ) → List ℕ
rejoined c [] = []
rejoined c (p ∷ ps) = p ++ parted_by c ps

no_pieces : {A : Type 0} → [] ≡ before [] [] → A
unfolding before
no_pieces e = absurd (let z : ◌≡◌ {A = ℕ} 0 1 = ap length e in omega arith)

pieces-rejoined : (c : ℕ) (s : List ℕ) → rejoined c (pieces c s) ≡ s
unfolding rejoined parted_by pieces before
pieces-rejoined c [] = refl
pieces-rejoined c (x ∷ s) = go (eqb x c) refl (pieces c s) (before-none c s) (pieces-rejoined c s)
  where
    go : (b : Bool) → eqb x c ≡ b → (ps : List (List ℕ)) → ps ≡ before [] ps → rejoined c ps ≡ s → rejoined c (cond b ([] ∷ ps) (before (x ∷ []) ps)) ≡ x ∷ s
    go b e [] n h = no_pieces n
    go true e (p ∷ ps) n h = ap₂ (λ (y : ℕ) (l : List ℕ). y ∷ l) (sym (eqb-true x c e)) h
    go false e (p ∷ ps) n h = ap (λ (l : List ℕ). x ∷ l) h

-- lines with their endings
ended-parted : (ls : List (List ℕ)) → parted_by line_end (ls ++ ([] ∷ [])) ≡ line_end ∷ ended_lines ls
unfolding parted_by ended_lines
ended-parted [] = refl
ended-parted (l ∷ ls) = rw (ended-parted ls)

pub text-back : (text : List ℕ) (ls : List (List ℕ)) → pieces line_end text ≡ ls ++ ([] ∷ []) → ended_lines ls ≡ text
unfolding rejoined ended_lines parted_by
text-back text ls e = go ls ∙ (ap (rejoined line_end) (sym e) ∙ pieces-rejoined line_end text)
  where
    go : (ls : List (List ℕ)) → ended_lines ls ≡ rejoined line_end (ls ++ ([] ∷ []))
    go [] = refl
    go (l ∷ ls) = rw (ended-parted ls)

-- a line's word and fields
line-rejoined : (ps : List (List ℕ)) → line_text (word_of ps) (line_fields ps) ≡ rejoined comma ps
unfolding line_text word_of line_fields rejoined parted_by
line-rejoined [] = refl
line-rejoined (w ∷ fs) = refl

-- a word names the kind whose word it is, or none
module _ (w : List ℕ) where
  -- w is the word of a kind, if that has one
  abbrev Named : Option Kind → Type 0
  Named k = 0 < rank k → w ≡ kind_word k

  -- one word tested
  pick : (b : Bool) (k other : Option Kind) → (b ≡ true → w ≡ kind_word k) → Named other → Named (cond b k other)
  pick true k other h o = λ n. h refl
  pick false k other h o = o

  -- all words tested
  kind-named : Named (kind_of w)
  unfolding kind_of
  kind-named =
      pick (same w script) (Some kind.Script) _ (same-eq w script)
      (pick (same w tx) (Some kind.Tx) _ (same-eq w tx)
      (pick (same w input) (Some kind.Input) _ (same-eq w input)
      (pick (same w output) (Some kind.Output) _ (same-eq w output)
      (pick (same w dep) (Some kind.Dep) _ (same-eq w dep)
      (pick (same w witness) (Some kind.Witness) _ (same-eq w witness) (pick (same w verdicts) (Some kind.Verdicts) None (same-eq w verdicts) (λ n. absurd (omega arith))))))))

-- what a line l is the print of
pub record PrintOf {A : Type 0} (ok : A → Bool) (text : A → List ℕ) (l : List ℕ) : Type 0 where
  pub value : A
  pub fits : ok value ≡ true
  pub print : text value ≡ l

-- a line of kind k that no row refuses
pub record LinePasses (l : List ℕ) (k : Option Kind) : Type 0 where
  pub is : kind_of_line l ≡ k
  pub counted : count_ok l ≡ true
  pub formed : form_ok l ≡ true

module _ (l : List ℕ) (k : Option Kind) (p : LinePasses l k) where
  named : 0 < rank k → word_of (pieces comma l) ≡ kind_word k
  unfolding kind_of_line
  named = rw p.is at (kind-named (word_of (pieces comma l)))

  field-count : length (fields_of_line l) ≡ field_count k
  unfolding count_ok
  field-count = rw p.is at (eqb-true (length (fields_of_line l)) (field_count (kind_of_line l)) p.counted)

  field-forms : forms_ok true (first_form k) (fields_of_line l) ≡ true
  unfolding form_ok
  field-forms = rw p.is at p.formed

  line-whole : (word : List ℕ) (fs : List (List ℕ)) → word_of (pieces comma l) ≡ word → fs ≡ fields_of_line l → line_text word fs ≡ l
  unfolding fields_of_line
  line-whole word fs w e = rw (← w, e) (line-rejoined (pieces comma l) ∙ pieces-rejoined comma l)

  one_field : field_count k ≡ 1 → fields_of_line l ≡ get_or (fields_of_line l) 0 [] ∷ []
  unfolding fields_from
  one_field e = fields-from (fields_of_line l) 1 (field-count ∙ e)

  bytes-line : (word : List ℕ) → word_of (pieces comma l) ≡ word → field_count k ≡ 1 → first_form k ≡ Hex → PrintOf bytes_ok (bytes_text word) l
  unfolding bytes_text forms_ok
  bytes-line word w n f =
      let e = one_field n in
      let field = get_or (fields_of_line l) 0 [] in
      let h : (hex_ok field && true) ≡ true = rw (f, e) at field-forms in
      let x = hex-print field (and_left (hex_ok field) true h) in
      record { value = hex_bytes field; fits = x.bytes; print = rw x.text (line-whole word (field ∷ []) w (sym e)) }

  -- a line whose fields are those that x is printed with is the print of x
  fields-line : {A : Type 0} (ok : A → Bool) (fields : A → List (List ℕ)) (x : A) → ok x ≡ true → fields x ≡ fields_of_line l → 0 < rank k
      → PrintOf ok (λ (y : A). line_text (kind_word k) (fields y)) l
  fields-line ok fields x fits e r = record { value = x; fits = fits; print = line-whole (kind_word k) (fields x) (named r) e }

module _ (l : List ℕ) where
  pub script-line : LinePasses l (Some kind.Script) → PrintOf bytes_ok (bytes_text script) l
  script-line p = bytes-line l (Some kind.Script) p script (named l (Some kind.Script) p (lit< tt)) refl refl

  pub tx-line : LinePasses l (Some kind.Tx) → PrintOf hash_bytes_ok (bytes_text tx) l
  unfolding bytes_text forms_ok
  tx-line p =
      let e = one_field l (Some kind.Tx) p refl in
      let field = get_or (fields_of_line l) 0 [] in
      let h : (eqb (length field) 64 && hex_ok field && true) ≡ true = rw e at (field-forms l (Some kind.Tx) p) in
      let x = hash-print field (and_left (eqb (length field) 64 && hex_ok field) true h) in
      record { value = hex_bytes field; fits = x.ok; print = rw x.text (line-whole l (Some kind.Tx) p tx (field ∷ []) (named l (Some kind.Tx) p (lit< tt)) (sym e)) }

  pub input-line : LinePasses l (Some kind.Input) → PrintOf input_ok input_text l
  unfolding input_text
  input-line p =
      let i = input-print (fields_of_line l) (field-count l (Some kind.Input) p) (field-forms l (Some kind.Input) p) in
      fields-line l (Some kind.Input) p input_ok input_fields (input_of (fields_of_line l)) i.ok i.text (lit< tt)

  pub output-line : LinePasses l (Some kind.Output) → PrintOf output_ok output_text l
  unfolding output_text output_fields
  output-line p =
      let o = output-print (fields_of_line l) (field-count l (Some kind.Output) p) (field-forms l (Some kind.Output) p) in
      fields-line l (Some kind.Output) p output_ok output_fields (output_of (fields_of_line l)) o.ok o.text (lit< tt)

  pub dep-line : LinePasses l (Some kind.Dep) → PrintOf cell_ok dep_text l
  unfolding dep_text
  dep-line p =
      let c = cell-print (fields_of_line l) (field-count l (Some kind.Dep) p) (field-forms l (Some kind.Dep) p) in
      fields-line l (Some kind.Dep) p cell_ok cell_fields (cell_of 0 (fields_of_line l)) c.ok c.text (lit< tt)

  pub witness-line : LinePasses l (Some kind.Witness) → PrintOf bytes_ok (bytes_text witness) l
  witness-line p = bytes-line l (Some kind.Witness) p witness (named l (Some kind.Witness) p (lit< tt)) refl refl

  pub verdicts-line : LinePasses l (Some kind.Verdicts) → PrintOf digits_ok (λ (ds : List ℕ). line_text verdicts (digits_text ds ∷ [])) l
  unfolding forms_ok digits_ok
  verdicts-line p =
      let e = one_field l (Some kind.Verdicts) p refl in
      let field = get_or (fields_of_line l) 0 [] in
      let few = leb (length field) 16 in
      let digits = every (in_range 48 50) field in
      let h : (few && digits && true) ≡ true = rw e at (field-forms l (Some kind.Verdicts) p) in
      let h₁ = and_left (few && digits) true h in
      let x = digits-print 3 (omega arith) field (and_right few digits h₁) in
      record {
        value = map hex_val field;
        fits = rw (length-map field hex_val, and_left few digits h₁) x.each;
        print = rw x.text (line-whole l (Some kind.Verdicts) p verdicts (field ∷ []) (named l (Some kind.Verdicts) p (lit< tt)) (sym e));
      }
