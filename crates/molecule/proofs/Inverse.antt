-- A table of three fields, and a vector of bytes: what passes is the written form of its parts, and a written form passes
-- and is read as its parts.
-- Assumes nothing.
use mathlib.Core.Path.{◌≡◌, refl, sym, ap, ◌∙◌}
use mathlib.Core.List.{List, [], ◌∷◌, ◌++◌, append_assoc, append-nil}
use Prim.Native.Nat.{ℕ, ◌+◌, ◌-◌, ◌^◌, ◌≤◌, ◌<◌}
use native.Mathlib.Omega.{arith}
use borrow.Author.Tests.{eqb-true, le-leb, eq-eqb}
use lib.ListN.{length, take, drop, length-append, length-drop, take-append-drop}
use lib.Seq.{take_all, drop_at, drop-drop}
use Rattle.octets.specs.Le.{to_le, from_le, number_at, Bytes}
use Rattle.octets.specs.Layout.{Field, layout_bytes, layout_at, field_value}
use Rattle.octets.proofs.LeLaws.{length_to, from-to-fit}
use Rattle.octets.proofs.LayoutLaws.{length-numbers, number-back, layout-back, numbers-back}
use Rattle.octets.proofs.Parts.{part-back, part_length}
use Rattle.protocol.specs.Rows.{AllPass}
use Rattle.protocol.specs.declared.error.ProtocolError.{ProtocolError}
use Rattle.molecule.specs.Molecule.{bytes_vector, table_bytes}
use Rattle.molecule.specs.Table3.{between, field1, field2, field3, second_offset_of, table_total_of, third_offset_of}
use Rattle.molecule.specs.Bytes.{bytes_rows}
use Rattle.molecule.proofs.Form.{head3, three-layout, length_three, TablePasses, length-field1, length-field2, length-field3}
use Rattle.molecule.proofs.CanonicalForm.{fields-end}

-- a table that passes is the written form of its fields
module _ (s : List ℕ) (b : Bytes s) (z : TablePasses s) where
  head-back : layout_bytes (head3 (table_total_of s) (second_offset_of s) (third_offset_of s)) ≡ take 16 s
  unfolding layout_at
  head-back = rw z.first at (layout-back (4 ∷ 4 ∷ 4 ∷ 4 ∷ []) s 0 b (omega arith))

  fields-behind : field1 s ++ (field2 s ++ field3 s) ≡ drop 16 s
  unfolding field1 between
  fields-behind =
      let x = second_offset_of s in
      let e : 16 + (x - 16) ≡ x = omega arith in
      let d : drop (x - 16) (drop 16 s) ≡ drop x s = drop-drop (x - 16) 16 s ∙ ap (λ (k : ℕ). drop k s) e in
      rw (fields-end s z, ← d) (take-append-drop (x - 16) (drop 16 s))

  pub table-written : table_bytes (field1 s ∷ field2 s ∷ field3 s ∷ []) ≡ s
  table-written =
      let l₁ : length (field1 s) ≡ second_offset_of s - 16 = length-field1 s z in
      let l₂ : length (field2 s) ≡ third_offset_of s - second_offset_of s = length-field2 s z in
      let l₃ : length (field3 s) ≡ length s - third_offset_of s = length-field3 s z in
      let e₁ : 16 + length (field1 s) + length (field2 s) + length (field3 s) ≡ table_total_of s = omega arith in
      let e₂ : 16 + length (field1 s) + length (field2 s) ≡ third_offset_of s = omega arith in
      let e₃ : 16 + length (field1 s) ≡ second_offset_of s = omega arith in
      three-layout (field1 s) (field2 s) (field3 s) ∙ rw (e₁, e₂, e₃, head-back, fields-behind) (take-append-drop 16 s)

-- a written table whose size fits its field passes, and its fields are those written
module _ (a b c : List ℕ) (small : 16 + length a + length b + length c < 2 ^ 32) where
  abbrev Whole : List ℕ
  Whole = table_bytes (a ∷ b ∷ c ∷ [])

  abbrev Head : List Field
  Head = head3 (16 + length a + length b + length c) (16 + length a) (16 + length a + length b)

  length-head : length (layout_bytes Head) ≡ 16
  length-head = length-numbers Head

  head_read : layout_at (4 ∷ 4 ∷ 4 ∷ 4 ∷ []) Whole 0 ≡ Head
  head_read = numbers-back Head Whole [] (a ++ (b ++ c)) 0 (omega arith) (three-layout a b c) refl

  second-read : second_offset_of Whole ≡ 16 + length a
  unfolding layout_at
  second-read = ap (field_value 2) head_read

  third-read : third_offset_of Whole ≡ 16 + length a + length b
  unfolding layout_at
  third-read = ap (field_value 3) head_read

  pub written-passes : TablePasses Whole
  unfolding layout_at
  written-passes =
      let n : length Whole ≡ 16 + length a + length b + length c = length_three a b c in
      let e₀ : table_total_of Whole ≡ 16 + length a + length b + length c = ap (field_value 0) head_read in
      let e₂ : second_offset_of Whole ≡ 16 + length a = second-read in
      let e₃ : third_offset_of Whole ≡ 16 + length a + length b = third-read in
      record {
        header = omega arith;
        total = e₀ ∙ sym n;
        first = ap (field_value 1) head_read;
        second = omega arith;
        third = omega arith;
        end = omega arith;
      }

  pub field1-read : field1 Whole ≡ a
  unfolding field1 between
  field1-read =
      let e : 16 + length a - 16 ≡ length a = omega arith in
      rw (second-read, e) (part-back Whole (layout_bytes Head) a (b ++ c) 16 (length a) (three-layout a b c) length-head refl)

  pub field2-read : field2 Whole ≡ b
  unfolding field2 between
  field2-read =
      let e : 16 + length a + length b - (16 + length a) ≡ length b = omega arith in
      let n : length (layout_bytes Head ++ a) ≡ 16 + length a = simp (length-append, length-head) in
      rw (second-read, third-read, e)
      (part-back Whole (layout_bytes Head ++ a) b c (16 + length a) (length b) (three-layout a b c ∙ simp append_assoc) n refl)

  pub field3-read : field3 Whole ≡ c
  unfolding field3
  field3-read =
      let n : length (layout_bytes Head ++ a ++ b) ≡ 16 + length a + length b = simp (length-append, length-head) in
      let w : Whole ≡ (layout_bytes Head ++ a ++ b) ++ c = three-layout a b c ∙ simp append_assoc in
      rw (third-read, w) (drop_at (layout_bytes Head ++ a ++ b) c (16 + length a + length b) n)

-- a vector of bytes that passes is the written form of its bytes
module _ (e : ProtocolError) (v : List ℕ) (h : AllPass (bytes_rows e v)) where
  pub vector-length : 4 + table_total_of v ≡ length v
  unfolding bytes_rows
  vector-length = eqb-true _ _ h.1.0

  pub vector-written : Bytes v → bytes_vector (take (table_total_of v) (drop 4 v)) ≡ v
  unfolding bytes_vector
  vector-written b =
      let n : 4 + table_total_of v ≡ length v = vector-length in
      let l : length (drop 4 v) ≤ table_total_of v = rw (length-drop 4 v) (omega arith) in
      rw (part_length v 4 (table_total_of v) (omega arith), number-back v 0 4 b (omega arith), take_all (table_total_of v) (drop 4 v) l) (take-append-drop 4 v)

vector-items : (items : List ℕ) → take (length items) (drop 4 (bytes_vector items)) ≡ items
unfolding bytes_vector
vector-items items =
    part-back (to_le 4 (length items) ++ items) (to_le 4 (length items)) items [] 4 (length items) (simp append-nil) (length_to 4 (length items)) refl

-- a written vector whose length fits its field passes, and its bytes are those written
module _ (items : List ℕ) (small : length items < 2 ^ 32) where
  count-read : table_total_of (bytes_vector items) ≡ length items
  unfolding bytes_vector number_at
  count-read =
      ap from_le (part-back (to_le 4 (length items) ++ items) [] (to_le 4 (length items)) items 0 4 refl refl (length_to 4 (length items)))
      ∙ from-to-fit 4 (length items) small

  pub vector-passes : (e : ProtocolError) → AllPass (bytes_rows e (bytes_vector items))
  unfolding bytes_rows bytes_vector
  vector-passes e =
      let n : length (bytes_vector items) ≡ 4 + length items = simp (length-append, length_to) in
      let c : table_total_of (bytes_vector items) ≡ length items = count-read in
      let l : 4 ≤ length (bytes_vector items) = omega arith in
      let t : 4 + table_total_of (bytes_vector items) ≡ length (bytes_vector items) = omega arith in
      (le-leb _ _ l, (eq-eqb _ _ t, tt))

  pub vector-read : take (table_total_of (bytes_vector items)) (drop 4 (bytes_vector items)) ≡ items
  vector-read = rw count-read (vector-items items)
