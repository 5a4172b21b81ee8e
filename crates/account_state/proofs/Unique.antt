-- A reading whose fields fit is read back from its written form, so a state has one reading.
-- Assumes nothing.
use mathlib.Core.Path.{◌≡◌, refl, sym, ap, ◌∙◌}
use mathlib.Core.List.{List, [], ◌∷◌, ◌++◌, append_assoc}
use Prim.Native.Nat.{ℕ, ◌+◌}
use native.Mathlib.Omega.{arith}
use lib.ListN.{length, take, drop, length-append}
use lib.Seq.{drop_at}
use Rattle.octets.specs.Layout.{layout_bytes, layout_at, field_value}
use Rattle.octets.proofs.LayoutLaws.{numbers-back, length-numbers}
use Rattle.octets.proofs.Parts.{part-back}
use Rattle.account_state.specs.Fields.{state_magic_of, state_version_of, state_header_length_of, state_reserved_of, abi_of, algorithm_of, aux_length_of, entry_count_of, entry_length_of, entry_slot_of, flags_of, hash_type_of, key_length_of, recovery_since_of, recovery_threshold_of, rotate_threshold_of, sequence_of, spend_threshold_of, capabilities_of, weight_of}
use Rattle.account_state.specs.Reading.{EntryReading, StateReading, state_magic, entry_size, entry_head_fields, entry_length_fields, entry_bytes, entries_bytes, state_header_fields, state_head, state_bytes, entry_of, entries_of, state_reading, EntryTyped, EntriesTyped, StateTyped}
use Rattle.account_state.specs.State.{behind_entries}

-- the length of an entry's bytes
pub length-entry-bytes : (e : EntryReading) → length e.code_hash ≡ 32 → length (entry_bytes e) ≡ entry_size e
unfolding entry_bytes entry_head_fields entry_length_fields
length-entry-bytes e h =
    let n : length (layout_bytes (entry_head_fields e)) ≡ 12 = length-numbers (entry_head_fields e) in
    let m : length (layout_bytes (entry_length_fields e)) ≡ 4 = length-numbers (entry_length_fields e) in
    simp length-append (omega (arith, n, m, h))

-- an entry at the front of bytes s
module _ (e : EntryReading) (t s : List ℕ) (y : EntryTyped e) (q : s ≡ entry_bytes e ++ t) where
  tables : (length (layout_bytes (entry_head_fields e)) ≡ 12) × (length (layout_bytes (entry_length_fields e)) ≡ 4)
  unfolding entry_head_fields entry_length_fields
  tables = (length-numbers (entry_head_fields e), length-numbers (entry_length_fields e))

  head_read : layout_at (2 ∷ 2 ∷ 2 ∷ 2 ∷ 2 ∷ 1 ∷ 1 ∷ []) s 0 ≡ entry_head_fields e
  unfolding entry_bytes entry_head_fields
  head_read =
      numbers-back (entry_head_fields e) s [] (e.code_hash ++ (layout_bytes (entry_length_fields e) ++ (e.key ++ (e.aux ++ t)))) 0 (omega arith) (q ∙ simp append_assoc) refl

  pub lengths_read : layout_at (2 ∷ 2 ∷ []) s 44 ≡ entry_length_fields e
  unfolding entry_bytes entry_length_fields
  lengths_read =
      numbers-back (entry_length_fields e) s (layout_bytes (entry_head_fields e) ++ e.code_hash) (e.key ++ (e.aux ++ t)) 44 (omega arith)
      (q ∙ simp append_assoc) (simp (length-append, tables.0, y.code_hash))

  hash-read : take 32 (drop 12 s) ≡ e.code_hash
  unfolding entry_bytes
  hash-read =
      part-back s (layout_bytes (entry_head_fields e)) e.code_hash (layout_bytes (entry_length_fields e) ++ (e.key ++ (e.aux ++ t))) 12 32 (q ∙ simp append_assoc) tables.0 y.code_hash

  key-read : take (length e.key) (drop 48 s) ≡ e.key
  unfolding entry_bytes
  key-read =
      part-back s (layout_bytes (entry_head_fields e) ++ (e.code_hash ++ layout_bytes (entry_length_fields e))) e.key (e.aux ++ t) 48 _ (q ∙ simp append_assoc)
      (simp (length-append, tables.0, tables.1, y.code_hash)) refl

  aux-read : take (length e.aux) (drop (48 + length e.key) s) ≡ e.aux
  unfolding entry_bytes
  aux-read =
      part-back s (layout_bytes (entry_head_fields e) ++ (e.code_hash ++ (layout_bytes (entry_length_fields e) ++ e.key))) e.aux t (48 + length e.key) _
      (q ∙ simp append_assoc) (simp (length-append, tables.0, tables.1, y.code_hash) (omega arith)) refl

  pub size-read : entry_length_of s ≡ length (entry_bytes e)
  unfolding entry_head_fields layout_at
  size-read = ap (field_value 0) head_read ∙ sym (length-entry-bytes e y.code_hash)

  pub entry_read : entry_of s ≡ e
  unfolding entry_of entry_head_fields entry_length_fields layout_at
  entry_read =
      let e₁ : entry_slot_of s ≡ e.slot = ap (field_value 1) head_read in
      let e₂ : algorithm_of s ≡ e.algorithm = ap (field_value 2) head_read in
      let e₃ : capabilities_of s ≡ e.capabilities = ap (field_value 3) head_read in
      let e₄ : weight_of s ≡ e.weight = ap (field_value 4) head_read in
      let e₅ : hash_type_of s ≡ e.hash_type = ap (field_value 5) head_read in
      let e₆ : abi_of s ≡ e.abi = ap (field_value 6) head_read in
      let e₇ : key_length_of s ≡ length e.key = ap (field_value 0) lengths_read in
      let e₈ : aux_length_of s ≡ length e.aux = ap (field_value 1) lengths_read in
      rw (e₁, e₂, e₃, e₄, e₅, e₆, e₇, e₈, hash-read, key-read, aux-read)

-- what follows an entry at the front of bytes, and its slot
module _ (e : EntryReading) (t : List ℕ) (y : EntryTyped e) where
  pub rest_read : drop (entry_length_of (entry_bytes e ++ t)) (entry_bytes e ++ t) ≡ t
  rest_read = rw (size-read e t (entry_bytes e ++ t) y refl) (drop_at (entry_bytes e) t (length (entry_bytes e)) refl)

  pub slot_read : entry_slot_of (entry_bytes e ++ t) ≡ e.slot
  unfolding entry_of
  slot_read = ap (λ (x : EntryReading). x.slot) (entry_read e t (entry_bytes e ++ t) y refl)

pub entries-read : (es : List EntryReading) → EntriesTyped es → entries_of (length es) (entries_bytes es) ≡ es
unfolding entries_of entries_bytes
entries-read [] y = refl
entries-read (e ∷ es) y =
    let s = entry_bytes e ++ entries_bytes es in
    rw (
      entry_read e (entries_bytes es) s y.0 refl,
      size-read e (entries_bytes es) s y.0 refl,
      drop_at (entry_bytes e) (entries_bytes es) (length (entry_bytes e)) refl,
      entries-read es y.1,
    )

-- no byte follows the last of them
pub entries-behind : (es : List EntryReading) → EntriesTyped es → behind_entries (length es) (entries_bytes es) ≡ []
unfolding behind_entries entries_bytes
entries-behind [] y = refl
entries-behind (e ∷ es) y = ap (behind_entries (length es)) (rest_read e (entries_bytes es) y.0) ∙ entries-behind es y.1

-- the numbers of a state's header
head-numbers : (r : StateReading) → StateTyped r → layout_at (4 ∷ 1 ∷ 1 ∷ 2 ∷ 8 ∷ 2 ∷ 2 ∷ 2 ∷ 1 ∷ 1 ∷ 8 ∷ []) (state_bytes r) 0 ≡ state_head r
unfolding state_bytes state_head state_header_fields
head-numbers r y =
    numbers-back (state_head r) (layout_bytes (state_head r) ++ entries_bytes r.entries) [] (entries_bytes r.entries) 0 (omega arith) refl refl

-- by their names
pub record HeaderRead (r : StateReading) : Type 0 where
  pub magic : state_magic_of (state_bytes r) ≡ state_magic
  pub version : state_version_of (state_bytes r) ≡ 1
  pub flags : flags_of (state_bytes r) ≡ r.flags
  pub size : state_header_length_of (state_bytes r) ≡ 32
  pub sequence : sequence_of (state_bytes r) ≡ r.sequence
  pub spend : spend_threshold_of (state_bytes r) ≡ r.spend
  pub rotate : rotate_threshold_of (state_bytes r) ≡ r.rotate
  pub recovery : recovery_threshold_of (state_bytes r) ≡ r.recovery
  pub count : entry_count_of (state_bytes r) ≡ length r.entries
  pub reserved : state_reserved_of (state_bytes r) ≡ 0
  pub since : recovery_since_of (state_bytes r) ≡ r.since

pub state-header-read : (r : StateReading) → StateTyped r → HeaderRead r
unfolding state_head state_header_fields layout_at
state-header-read r y =
    let h = head-numbers r y in
    record {
      magic = ap (field_value 0) h;
      version = ap (field_value 1) h;
      flags = ap (field_value 2) h;
      size = ap (field_value 3) h;
      sequence = ap (field_value 4) h;
      spend = ap (field_value 5) h;
      rotate = ap (field_value 6) h;
      recovery = ap (field_value 7) h;
      count = ap (field_value 8) h;
      reserved = ap (field_value 9) h;
      since = ap (field_value 10) h;
    }

-- and what follows them
pub behind-head : (r : StateReading) → drop 32 (state_bytes r) ≡ entries_bytes r.entries
unfolding state_bytes state_head state_header_fields
behind-head r = drop_at (layout_bytes (state_head r)) (entries_bytes r.entries) 32 (length-numbers (state_head r))

pub state-read : (r : StateReading) → StateTyped r → state_reading (state_bytes r) ≡ r
unfolding state_reading
state-read r y =
    let h = state-header-read r y in
    rw (h.flags, h.sequence, h.spend, h.rotate, h.recovery, h.since, h.count, behind-head r, entries-read r.entries y.entries)
