-- The canonical witness: 20 bytes, and then fields 2 and 3, which of a table whose rows pass are the witness from field 2 on.
-- Assumes nothing.
use Rattle.std.specs.Prelude.{Err, Ok}
use mathlib.Core.Path.{◌≡◌, refl, sym, ap, ◌∙◌}
use mathlib.Core.List.{List, [], ◌∷◌, ◌++◌, append_assoc, append-nil}
use Prim.Native.Nat.{ℕ, ◌+◌, ◌-◌, ◌≤◌}
use native.Mathlib.Omega.{arith}
use lib.Dec.{leb}
use lib.ListN.{length, take, drop, length-append, length-take, length-drop, take-append-drop}
use lib.Seq.{sets, take_at, drop-drop}
use Rattle.octets.specs.Layout.{Field, layout_bytes}
use Rattle.octets.proofs.LeLaws.{length_to}
use Rattle.octets.proofs.Stores.{sets-append, sets-front}
use Rattle.octets.proofs.LayoutLaws.{length-numbers}
use Rattle.protocol.specs.Rows.{row, ◌▷◌, decide, AllPass, Check}
use Rattle.protocol.specs.Write.{write_fault, write_answer, after_write}
use Rattle.protocol.specs.declared.error.ProtocolError.TheVariants.{BufferTooShort, InvalidWitness}
use Rattle.protocol.proofs.AllPass.{passed-all-pass, decide-append}
use Rattle.protocol.proofs.Back.{write-passed}
use Rattle.molecule.specs.Molecule.{bytes_vector, table_bytes}
use Rattle.molecule.specs.Table3.{table_rows, between, field2, field3, second_offset_of, third_offset_of}
use Rattle.molecule.specs.Canonical.{canonical_of, canonical_room, canonical_written, canonical_stored, canonical_head}
use Rattle.molecule.proofs.Form.{three-layout, TablePasses, table-passes}

-- a table whose first field is an empty vector
pub canonical-layout : (b c : List ℕ) → table_bytes (bytes_vector [] ∷ b ∷ c ∷ []) ≡ layout_bytes (canonical_head (20 + length b + length c) (20 + length b)) ++ (b ++ c)
unfolding bytes_vector canonical_head layout_bytes
canonical-layout b c =
    let n : length (bytes_vector []) ≡ 4 = rw append-nil (length_to 4 0) in
    let e₁ : 16 + length (bytes_vector []) + length b + length c ≡ 20 + length b + length c = omega arith in
    let e₂ : 16 + length (bytes_vector []) + length b ≡ 20 + length b = omega arith in
    let e₃ : 16 + length (bytes_vector []) ≡ 20 = omega arith in
    three-layout (bytes_vector []) b c ∙ rw (e₁, e₂, e₃) (simp (append_assoc, append-nil))

module _ (s : List ℕ) where
  -- the 20 bytes, as numbers
  abbrev Front : List Field
  Front = canonical_head (20 + length (field2 s) + length (field3 s)) (20 + length (field2 s))

  length_front : length (layout_bytes Front) ≡ 20
  unfolding canonical_head
  length_front = length-numbers Front

  canonical-form : canonical_of s ≡ layout_bytes Front ++ (field2 s ++ field3 s)
  unfolding canonical_of
  canonical-form = canonical-layout (field2 s) (field3 s)

  pub canonical_first : take 20 (canonical_of s) ≡ layout_bytes Front
  canonical_first = rw canonical-form (take_at (layout_bytes Front) (field2 s ++ field3 s) 20 length_front)

  -- the first 20 bytes, and fields 2 and 3, are the canonical witness
  pub canonical-whole : take 20 (canonical_of s) ++ (field2 s ++ field3 s) ≡ canonical_of s
  canonical-whole = ap (λ (l : List ℕ). l ++ (field2 s ++ field3 s)) canonical_first ∙ sym canonical-form

  pub length-canonical : length (canonical_of s) ≡ 20 + length (field2 s) + length (field3 s)
  length-canonical =
      let n = length-append (layout_bytes Front) (field2 s ++ field3 s) in
      let m = length-append (field2 s) (field3 s) in
      let f = length_front in
      ap length canonical-form ∙ (omega arith)

-- fields 2 and 3 overlap nowhere
pub fields_within : (s : List ℕ) → length (field2 s) + length (field3 s) ≤ length s
unfolding field2 field3 between
fields_within s =
    let x = second_offset_of s in
    let y = third_offset_of s in
    let a = length-take (y - x) (drop x s) in
    let b = length-drop x s in
    let d = length-drop y s in
    omega arith

module _ (s : List ℕ) (z : TablePasses s) where
  -- fields 2 and 3 of a table whose rows pass stand end to end
  pub fields-end : field2 s ++ field3 s ≡ drop (second_offset_of s) s
  unfolding field2 field3 between
  fields-end =
      let x = second_offset_of s in
      let y = third_offset_of s in
      let e : x + (y - x) ≡ y = omega arith in
      let d : drop (y - x) (drop x s) ≡ drop y s = drop-drop (y - x) x s ∙ ap (λ (k : ℕ). drop k s) e in
      rw (← d) (take-append-drop (y - x) (drop x s))

  pub length-from-second : length (canonical_of s) ≡ 20 + length (drop (second_offset_of s) s)
  length-from-second =
      let n : length (field2 s ++ field3 s) ≡ length (field2 s) + length (field3 s) = length-append (field2 s) (field3 s) in
      let m : length (field2 s ++ field3 s) ≡ length (drop (second_offset_of s) s) = ap length fields-end in
      length-canonical s ∙ (omega arith)

  -- stored one behind the other
  pub parts-stored : (out : List ℕ) → sets (sets out 0 (take 20 (canonical_of s))) 20 (drop (second_offset_of s) s) ≡ sets out 0 (canonical_of s)
  parts-stored out =
      let n : length (take 20 (canonical_of s)) ≡ 20 = ap length (canonical_first s) ∙ length_front s in
      sets-append out 0 (take 20 (canonical_of s)) (drop (second_offset_of s) s) 20 (omega arith)
      ∙ ap (sets out 0) whole
    where
      whole : take 20 (canonical_of s) ++ drop (second_offset_of s) s ≡ canonical_of s
      whole = ap (λ (l : List ℕ). take 20 (canonical_of s) ++ l) (sym fields-end) ∙ canonical-whole s

-- the room for the parts is the room for the whole
module _ (s : List ℕ) (room : ℕ) where
  room_by : (k : Check) → decide (Ok tt) (table_rows InvalidWitness s) ≡ k
      → canonical_room s room ≡ decide (Ok tt) (table_rows InvalidWitness s) ▷ row (leb (20 + length (drop (second_offset_of s) s)) room) BufferTooShort
  unfolding canonical_room write_fault decide
  room_by (Ok _) h =
      let p : AllPass (table_rows InvalidWitness s) = passed-all-pass (table_rows InvalidWitness s) h in
      rw (← length-from-second s (table-passes InvalidWitness s p))
      (decide-append (Ok tt) (table_rows InvalidWitness s) (row (leb (length (canonical_of s)) room) BufferTooShort ∷ []))
  room_by (Err e) h =
      rw h (decide-append (Ok tt) (table_rows InvalidWitness s) (row (leb (length (canonical_of s)) room) BufferTooShort ∷ []) ∙ rw h)

  pub room_found : canonical_room s room ≡ decide (Ok tt) (table_rows InvalidWitness s) ▷ row (leb (20 + length (drop (second_offset_of s) s)) room) BufferTooShort
  room_found = room_by (decide (Ok tt) (table_rows InvalidWitness s)) refl

-- with a table that passes, and room, the parts stored one behind the other are the whole
module _ (s out : List ℕ) (found : canonical_room s (length out) ≡ Ok tt) where
  Passes : AllPass (table_rows InvalidWitness s) × (length (canonical_of s) ≤ length out)
  unfolding canonical_room
  Passes = write-passed (table_rows InvalidWitness s) (length (canonical_of s)) (length out) found

  abbrev Table : TablePasses s
  Table = table-passes InvalidWitness s Passes.0

  pub size_written : canonical_written s out ≡ Ok (20 + length (drop (second_offset_of s) s))
  unfolding canonical_written write_answer
  size_written = rw found (ap Ok (length-from-second s Table))

  pub parts_written : canonical_stored s out ≡ sets (sets out 0 (take 20 (canonical_of s))) 20 (drop (second_offset_of s) s)
  unfolding canonical_stored after_write
  parts_written = rw found (sym (sets-front out (canonical_of s) Passes.1) ∙ sym (parts-stored s Table out))
