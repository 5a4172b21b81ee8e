-- What the slices say of an entry, as its bytes; and the types and lengths of all.
-- Assumes nothing.
use mathlib.Core.Path.{◌≡◌, refl, sym, ap, ◌∙◌}
use mathlib.Core.List.{List, [], ◌∷◌, ◌++◌, append_assoc, append-nil}
use Prim.Native.Nat.{ℕ, zero, suc, ◌+◌, ◌-◌, ◌*◌, ◌≤◌, ◌<◌}
use native.Mathlib.Omega.{arith}
use lib.ListN.{length, take, drop, get_or, length-append, length-drop}
use lib.Seq.{get_or-drop, sets, take_all, take_at}
use Rattle.octets.specs.Le.{to_le, number_at, Bytes}
use Rattle.octets.specs.Layout.{Field, layout_bytes}
use Rattle.octets.proofs.LayoutLaws.{number-back, length-numbers}
use Rattle.octets.proofs.LeLaws.{length_to, bytes_drop, number_lt}
use Rattle.octets.proofs.Parts.{join, part_length}
use Rattle.octets.proofs.Stores.{sets-append, sets-lent}
use borrow.Rule.Slice.PartMut.{mid_of, put_mid}
use Rattle.account_state.specs.Reading.{EntryReading, EntryTyped, EntriesTyped, entry_head_fields, entry_length_fields, entry_bytes, entries_bytes, state_header_fields}
use Rattle.account_state.proofs.Inverse.{Keys}
use Rattle.account_state.proofs.Unique.{length-entry-bytes}
use Rattle.account_state.proofs.StateLaws.{front-part}
use Rattle.account_state_writer.specs.Slices.{lent_width, lent_slot, lent_algorithm, lent_capabilities, lent_weight, lent_aux_length, lent_bytes}
use Rattle.account_state_writer.specs.Writer.{entry_from, entries_from, needed_bytes}

-- the 48 bytes before an entry's key, by its five numbers and its verifier: numbers, the verifier's 34 bytes, and two lengths
unfoldable pub field_numbers : List ℕ → List Field
field_numbers fields =
    record { width = 2; value = 80 + lent_aux_length fields }
    ∷ record { width = 2; value = lent_slot fields }
    ∷ record { width = 2; value = lent_algorithm fields }
    ∷ record { width = 2; value = lent_capabilities fields }
    ∷ record { width = 2; value = lent_weight fields }
    ∷ []

abbrev pub length_numbers : List ℕ → List Field
length_numbers fields = record { width = 2; value = 32 } ∷ record { width = 2; value = lent_aux_length fields } ∷ []

abbrev pub entry_front : List ℕ → List ℕ → List ℕ
entry_front fields verifier = layout_bytes (field_numbers fields) ++ (verifier ++ layout_bytes (length_numbers fields))

length-field-numbers : (fields : List ℕ) → length (layout_bytes (field_numbers fields)) ≡ 10
unfolding field_numbers
length-field-numbers fields = length-numbers (field_numbers fields)

-- the 48 bytes before an entry's key
length_front : (fields verifier : List ℕ) → length verifier ≡ 34 → length (entry_front fields verifier) ≡ 48
length_front fields verifier h =
    rw (length-append, length-field-numbers fields, length-append, h, length-numbers (length_numbers fields))

front-stored : (fields verifier l : List ℕ) → length verifier ≡ 34
    → sets (sets (sets (sets l 0 (layout_bytes (field_numbers fields))) 10 verifier) 44 (to_le 2 32)) 46 (to_le 2 (lent_aux_length fields)) ≡ sets l 0 (entry_front fields verifier)
unfolding layout_bytes
front-stored fields verifier l h =
    let f = layout_bytes (field_numbers fields) in
    rw (
      sets-append (sets (sets l 0 f) 10 verifier) 44 (to_le 2 32) (to_le 2 (lent_aux_length fields)) 46 (rw (length_to 2 32)),
      sets-append (sets l 0 f) 10 verifier (to_le 2 32 ++ to_le 2 (lent_aux_length fields)) 44 (rw h),
      sets-append l 0 f (verifier ++ (to_le 2 32 ++ to_le 2 (lent_aux_length fields))) 10 (rw (length-field-numbers fields)),
      append-nil (to_le 2 (lent_aux_length fields)),
    )

-- the length of an entry
pub length-from : (fields bytes : List ℕ) → lent_bytes fields ≤ length bytes → length (entry_bytes (entry_from fields bytes)) ≡ 80 + lent_aux_length fields
unfolding entry_from
length-from fields bytes h =
    let a = lent_aux_length fields in
    let c : length (take 32 (drop 2 bytes)) ≡ 32 = part_length bytes 2 32 (omega arith) in
    let k : length (take 32 (drop 34 bytes)) ≡ 32 = part_length bytes 34 32 (omega arith) in
    let x : length (take a (drop 66 bytes)) ≡ a = part_length bytes 66 a (omega arith) in
    length-entry-bytes (entry_from fields bytes) c ∙ omega arith

-- the bytes of an entry
module _ (fields bytes : List ℕ) (whole : length bytes ≡ lent_bytes fields) where
  abbrev a : ℕ
  a = lent_aux_length fields

  abbrev e : EntryReading
  e = entry_from fields bytes

  -- the key and aux are the bytes behind its verifier, as they are lent
  behind : e.key ++ e.aux ≡ drop 34 bytes
  unfolding entry_from
  behind =
      let l : length (drop 34 bytes) ≡ length bytes - 34 = length-drop 34 bytes in
      join bytes 34 32 a 66 refl ∙ take_all (32 + a) (drop 34 bytes) (omega arith)

  hash-length : length e.code_hash ≡ 32
  unfolding entry_from
  hash-length = part_length bytes 2 32 (omega arith)

  pub length-entry : length (entry_bytes e) ≡ 14 + length bytes
  length-entry = let l = length-from fields bytes (omega arith) in omega arith

  -- before them are 48 bytes
  parted : entry_bytes e ≡ (layout_bytes (entry_head_fields e) ++ (e.code_hash ++ layout_bytes (entry_length_fields e))) ++ drop 34 bytes
  unfolding entry_bytes
  parted = rw (← behind) (simp append_assoc)

  before : length (layout_bytes (entry_head_fields e) ++ (e.code_hash ++ layout_bytes (entry_length_fields e))) ≡ 48
  unfolding entry_head_fields entry_length_fields
  before = rw (length-append, length-append, hash-length, length-numbers (entry_head_fields e), length-numbers (entry_length_fields e))

  front-bytes : take 48 (entry_bytes e) ≡ layout_bytes (entry_head_fields e) ++ (e.code_hash ++ layout_bytes (entry_length_fields e))
  front-bytes = rw parted (take_at _ (drop 34 bytes) 48 before)

  -- which are those that are stored,
  byte-back : (v : List ℕ) (at : ℕ) → v ≡ take 34 bytes → Bytes v → at < 34 → to_le 1 (number_at bytes at 1) ≡ take 1 (drop at bytes)
  unfolding number_at
  byte-back v at h b k =
      let l : length (take 34 bytes) ≡ 34 = part_length bytes 0 34 (omega arith) in
      rw (← front-part 34 at 1 bytes (omega arith)) (number-back (take 34 bytes) at 1 (rw h at b) (omega arith))

  front-form : (v : List ℕ) → v ≡ take 34 bytes → Bytes v → entry_front fields v ≡ take 48 (entry_bytes e)
  unfolding entry_from field_numbers entry_head_fields entry_length_fields layout_bytes
  front-form v h b =
      rw (
        front-bytes,
        part_length bytes 34 32 (omega arith),
        part_length bytes 66 a (omega arith),
        byte-back v 0 h b (omega arith),
        byte-back v 1 h b (omega arith),
        h,
        ← join bytes 0 2 32 2 refl,
        ← join bytes 0 1 1 1 refl,
      )
      (simp append_assoc)

  pub front-whole : (v l : List ℕ) → v ≡ take 34 bytes → Bytes v
      → sets (sets (sets (sets l 0 (layout_bytes (field_numbers fields))) 10 v) 44 (to_le 2 32)) 46 (to_le 2 a) ≡ sets l 0 (take 48 (entry_bytes e))
  front-whole v l h b = front-stored fields v l (rw h (part_length bytes 0 34 (omega arith))) ∙ ap (sets l 0) (front-form v h b)

  -- in a part that is lent for them; the key and aux behind
  pub entry-stored : (w l ys : List ℕ) (at n : ℕ) → n ≡ 48 → w ≡ drop 34 bytes → at + 14 + length bytes ≤ length l
      → ys ≡ sets (mid_of at n l) 0 (take 48 (entry_bytes e)) → sets (put_mid at n l ys) (at + 48) w ≡ sets l at (entry_bytes e)
  entry-stored w l ys at n m h room given =
      let f : length (take 48 (entry_bytes e)) ≡ 48 = ap length front-bytes ∙ before in
      rw (
        sets-lent l (take 48 (entry_bytes e)) ys at n (f ∙ sym m) (omega arith) given,
        sets-append l at (take 48 (entry_bytes e)) w (at + 48) (rw f),
        h,
        front-bytes,
        ← parted,
      )

-- a turn of the loop that stores the entries
pub store-next : (all left : List EntryReading) (e : EntryReading) (l m whole : List ℕ) (at next : ℕ) → all ≡ e ∷ left
    → m ≡ sets l at (entry_bytes e) → next ≡ at + length (entry_bytes e) → sets l at (entries_bytes all) ≡ whole
    → sets m next (entries_bytes left) ≡ whole
unfolding entries_bytes
store-next all left e l m whole at next h k n given =
    rw (k, sets-append l at (entry_bytes e) (entries_bytes left) next n) (rw h at given)

pub store-none : (left : List EntryReading) (l : List ℕ) (at : ℕ) → left ≡ [] → sets l at (entries_bytes left) ≡ l
unfolding entries_bytes
store-none left l at h = rw h

-- how many bytes are left to store
pub length-first : (all left : List EntryReading) (e : EntryReading) → all ≡ e ∷ left
    → length (entries_bytes all) ≡ length (entry_bytes e) + length (entries_bytes left)
unfolding entries_bytes
length-first all left e h = rw (h, length-append)

pub length-none : (left : List EntryReading) → left ≡ [] → length (entries_bytes left) ≡ 0
unfolding entries_bytes
length-none left h = rw h

-- the entries are values of their types, and each key has 32 bytes
pub entries-typed : (n : ℕ) (fields bytes : List ℕ) → ((i : ℕ) → get_or fields i 0 < 65536) → Bytes bytes → needed_bytes n fields ≤ length bytes → length bytes ≤ 16384
    → EntriesTyped (entries_from n fields bytes) × Keys (entries_from n fields bytes)
unfolding entries_from entry_from needed_bytes
entries-typed zero fields bytes f b h k = (tt, tt)
entries-typed (suc n) fields bytes f b h k =
    let a = lent_aux_length fields in
    let l : length (drop (66 + a) bytes) ≡ length bytes - (66 + a) = length-drop (66 + a) bytes in
    let m : length (take 32 (drop 34 bytes)) ≡ 32 = part_length bytes 34 32 (omega arith) in
    let x : length (take a (drop 66 bytes)) ≡ a = part_length bytes 66 a (omega arith) in
    let r = entries-typed n (drop lent_width fields) (drop (66 + a) bytes) (λ i. rw (get_or-drop lent_width fields i 0) (f (lent_width + i))) (bytes_drop (66 + a) bytes b) (omega arith) (omega arith) in
    let y : EntryTyped (entry_from fields bytes) =
    record {
      slot = f 0;
      algorithm = f 1;
      capabilities = f 2;
      weight = f 3;
      hash_type = number_lt bytes 0 1 b;
      abi = number_lt bytes 1 1 b;
      code_hash = part_length bytes 2 32 (omega arith);
      size = omega arith;
    } in
    ((y, r.0), (m, r.1))

pub length-entries-from : (n : ℕ) (fields bytes : List ℕ) → length (entries_from n fields bytes) ≡ n
unfolding entries_from
length-entries-from zero fields bytes = refl
length-entries-from (suc n) fields bytes = ap suc (length-entries-from n (drop lent_width fields) (drop (lent_bytes fields) bytes))

-- the length of what is written
pub length-all : (n : ℕ) (fields bytes : List ℕ) → needed_bytes n fields ≤ length bytes
    → length (entries_bytes (entries_from n fields bytes)) ≡ 14 * n + needed_bytes n fields
unfolding entries_from entries_bytes needed_bytes
length-all zero fields bytes h = refl
length-all (suc n) fields bytes h =
    let g = drop (lent_bytes fields) bytes in
    let l : length g ≡ length bytes - (lent_bytes fields) = length-drop (lent_bytes fields) bytes in
    let e : length (entry_bytes (entry_from fields bytes)) ≡ 80 + lent_aux_length fields = length-from fields bytes (omega arith) in
    let r = length-all n (drop lent_width fields) g (omega arith) in
    rw (length-append, e, r) (omega arith)

pub length-head : (flags sequence spend rotate recovery count since : ℕ) → length (layout_bytes (state_header_fields flags sequence spend rotate recovery count since)) ≡ 32
unfolding state_header_fields
length-head flags sequence spend rotate recovery count since = length-numbers (state_header_fields flags sequence spend rotate recovery count since)
