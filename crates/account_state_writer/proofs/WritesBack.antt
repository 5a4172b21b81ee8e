-- The writer can be lent an accepted state's reading, and then writes the state back or refuses a buffer that is too short with 5.
-- Assumes nothing.
use mathlib.Core.Path.{◌≡◌, refl, sym, ap, ◌∙◌}
use mathlib.Core.List.{List, [], ◌∷◌, ◌++◌, append_assoc}
use Prim.Native.Nat.{ℕ, zero, suc, ◌+◌, ◌*◌, ◌%◌, ◌^◌, ◌<◌}
use native.Mathlib.Omega.{arith}
use borrow.Author.Tests.{eq-eqb, le-leb}
use lib.Dec.{lit<}
use lib.ListN.{length, take, drop, get_or, length-append}
use lib.Seq.{drop_at}
use Rattle.octets.specs.Le.{Bytes}
use Rattle.octets.specs.Layout.{layout_bytes}
use Rattle.octets.proofs.LeLaws.{number-one, number_lt, bytes_take, bytes_drop, bytes-append}
use Rattle.octets.proofs.Parts.{part-back}
use Rattle.protocol.specs.Rows.{AllPass}
use Rattle.protocol.specs.Reading.{WritesBack}
use Rattle.protocol.proofs.AllPass.{all-pass-append}
use Rattle.protocol.proofs.Back.{writes-back}
use Rattle.account_state.specs.Fields.{aux_length_of, entry_length_of, key_length_of, entry_count_of}
use Rattle.account_state.specs.Reading.{EntryReading, StateReading, EntryTyped, EntriesTyped, entries_bytes, state_head, state_bytes, entry_of, entries_of, state_reading}
use Rattle.account_state.specs.State.{state_rows}
use Rattle.account_state.proofs.Unique.{length-entry-bytes}
use Rattle.account_state.proofs.Inverse.{Keys, state-back, state-typed, state-keys, state-limits}
use Rattle.account_state_writer.specs.Slices.{lent_count, lent_width}
use Rattle.account_state_writer.specs.Writer.{entry_from, entries_from, needed_bytes, state_total, slice_rows, written_rows, state_writer_rows, state_from, state_written, state_stored, entries_fields, entries_payload, StateFits}
use Rattle.account_state_writer.proofs.Lent.{length-head}
use Rattle.account_state_writer.proofs.Limit.{written_read}

-- the first entry's part of the bytes
module _ (e : EntryReading) (es : List EntryReading) (y : EntryTyped e) (k : length e.key ≡ 32) where
  abbrev s : List ℕ
  s = entries_payload (e ∷ es)

  abbrev h : List ℕ
  h = e.hash_type ∷ e.abi ∷ []

  hash-lent : take 32 (drop 2 s) ≡ e.code_hash
  unfolding entries_payload
  hash-lent = part-back s h e.code_hash (e.key ++ (e.aux ++ entries_payload es)) 2 32 refl refl y.code_hash

  key-lent : take 32 (drop 34 s) ≡ e.key
  unfolding entries_payload
  key-lent =
      part-back s (h ++ e.code_hash) e.key (e.aux ++ entries_payload es) 34 32 (simp append_assoc) (simp length-append (omega (arith, y.code_hash))) k

  aux-lent : take (length e.aux) (drop 66 s) ≡ e.aux
  unfolding entries_payload
  aux-lent =
      part-back s (h ++ (e.code_hash ++ e.key)) e.aux (entries_payload es) 66 _ (simp append_assoc) (simp length-append (omega (arith, y.code_hash, k))) refl

  rest-lent : drop (66 + length e.aux) s ≡ entries_payload es
  unfolding entries_payload
  rest-lent =
      let q : s ≡ (h ++ (e.code_hash ++ (e.key ++ e.aux))) ++ entries_payload es = simp append_assoc in
      rw q (drop_at (h ++ (e.code_hash ++ (e.key ++ e.aux))) (entries_payload es) (66 + length e.aux) (simp length-append (omega (arith, y.code_hash, k))))

  entry-lent : entry_from (entries_fields (e ∷ es)) s ≡ e
  unfolding entry_from entries_fields entries_payload
  entry-lent = rw (number-one s 0, number-one s 1, hash-lent, key-lent, aux-lent)

  length-lent : length s ≡ 66 + length e.aux + length (entries_payload es)
  unfolding entries_payload
  length-lent = simp length-append (omega (arith, y.code_hash, k))

entries-lent : (es : List EntryReading) → EntriesTyped es → Keys es → entries_from (length es) (entries_fields es) (entries_payload es) ≡ es
unfolding entries_from entries_fields entries_payload
entries-lent [] y k = refl
entries-lent (e ∷ es) y k = rw (entry-lent e es y.0 k.0, rest-lent e es y.0 k.0, entries-lent es y.1 k.1)

needed-lent : (es : List EntryReading) → EntriesTyped es → Keys es → needed_bytes (length es) (entries_fields es) ≡ length (entries_payload es)
unfolding needed_bytes entries_fields entries_payload
needed-lent [] y k = refl
needed-lent (e ∷ es) y k = rw (needed-lent es y.1 k.1) (sym (length-lent e es y.0 k.0))

length_fields : (es : List EntryReading) → length (entries_fields es) ≡ lent_width * length es
unfolding entries_fields
length_fields [] = refl
length_fields (e ∷ es) = let r = length_fields es in omega arith

-- an entry's numbers take 14 bytes more in the state than in the slices
length-written : (es : List EntryReading) → EntriesTyped es → Keys es → length (entries_bytes es) ≡ 14 * length es + length (entries_payload es)
unfolding entries_bytes entries_payload
length-written [] y k = refl
length-written (e ∷ es) y k =
    let r = length-written es y.1 k.1 in
    let n = length-entry-bytes e y.0.code_hash in
    simp length-append (omega (arith, r, n, y.0.code_hash, k.0))

-- the fields of entries whose numbers fit are u16
fields_fit : (es : List EntryReading) → EntriesTyped es → (i : ℕ) → get_or (entries_fields es) i 0 < 2 ^ 16
unfolding entries_fields
fields_fit [] y i = lit< tt
fields_fit (e ∷ es) y zero = y.0.slot
fields_fit (e ∷ es) y (suc zero) = y.0.algorithm
fields_fit (e ∷ es) y (suc (suc zero)) = y.0.capabilities
fields_fit (e ∷ es) y (suc (suc (suc zero))) = y.0.weight
fields_fit (e ∷ es) y (suc (suc (suc (suc zero)))) = omega (arith, y.0.size)
fields_fit (e ∷ es) y (suc (suc (suc (suc (suc i))))) = fields_fit es y.1 i

-- what entries that are read from bytes lend are bytes
two_bytes : (x y : ℕ) → x < 256 → y < 256 → Bytes (x ∷ y ∷ [])
two_bytes x y h k zero = h
two_bytes x y h k (suc zero) = k
two_bytes x y h k (suc (suc i)) = lit< tt

entries-bytes : (n : ℕ) (e : List ℕ) → Bytes e → Bytes (entries_payload (entries_of n e))
unfolding entries_payload entries_of entry_of
entries-bytes zero e b = λ i. lit< tt
entries-bytes (suc n) e b =
    let part : (k at : ℕ) → Bytes (take k (drop at e)) = λ k at. bytes_take k (drop at e) (bytes_drop at e b) in
    let later = entries_payload (entries_of n (drop (entry_length_of e) e)) in
    let l : Bytes later = entries-bytes n (drop (entry_length_of e) e) (bytes_drop (entry_length_of e) e b) in
    let x = entry_of e in
    let a : Bytes (x.aux ++ later) = bytes-append x.aux later (part (aux_length_of e) (48 + key_length_of e)) l in
    let k : Bytes (x.key ++ (x.aux ++ later)) = bytes-append x.key (x.aux ++ later) (part (key_length_of e) 48) a in
    let c : Bytes (x.code_hash ++ (x.key ++ (x.aux ++ later))) = bytes-append x.code_hash (x.key ++ (x.aux ++ later)) (part 32 12) k in
    bytes-append (x.hash_type ∷ x.abi ∷ []) (x.code_hash ++ (x.key ++ (x.aux ++ later))) (two_bytes x.hash_type x.abi (number_lt e 10 1 b) (number_lt e 11 1 b)) c

module _ (s : List ℕ) (b : Bytes s) (h : AllPass (state_rows s)) where
  abbrev r : StateReading
  r = state_reading s

  abbrev fields : List ℕ
  fields = entries_fields r.entries

  abbrev bytes : List ℕ
  bytes = entries_payload r.entries

  count : lent_count fields ≡ length r.entries
  unfolding lent_count
  count = let l = length_fields r.entries in omega arith

  -- the slices say the reading
  pub state-lent : state_from r.flags r.sequence r.spend r.rotate r.recovery r.since fields bytes ≡ r
  unfolding state_from
  state-lent = rw (count, entries-lent r.entries (state-typed s b h).entries (state-keys s b h))

  total : state_total fields bytes ≡ length s
  unfolding state_total state_bytes state_head
  total =
      let n : length (layout_bytes (state_head r)) ≡ 32 = length-head r.flags r.sequence r.spend r.rotate r.recovery (length r.entries) r.since in
      let w = length-written r.entries (state-typed s b h).entries (state-keys s b h) in
      let l : length (layout_bytes (state_head r)) + length (entries_bytes r.entries) ≡ length s = sym (length-append (layout_bytes (state_head r)) (entries_bytes r.entries)) ∙ ap length (state-back s b h) in
      rw count (omega arith)

  slices-hold : AllPass (slice_rows fields bytes)
  unfolding slice_rows
  slices-hold =
      let l = length_fields r.entries in
      let t = total in
      let m = state-limits s b h in
      let n = needed-lent r.entries (state-typed s b h).entries (state-keys s b h) in (
        eq-eqb (length fields % lent_width) 0 (omega arith),
        (
          eq-eqb (needed_bytes (lent_count fields) fields) (length bytes) (rw count n),
          (le-leb (lent_count fields) 255 (rw count (omega arith)), (le-leb (state_total fields bytes) 16384 (omega arith), tt)),
        ),
      )

  rows-hold : AllPass (state_writer_rows r fields bytes)
  unfolding state_writer_rows
  rows-hold = all-pass-append (slice_rows fields bytes) (written_rows r) slices-hold ((written_read r (state-typed s b h)).1 (rw (state-back s b h) h))

  -- what the reading lends fits the writer's types
  fits : StateFits r
  unfolding state_total state_reading
  fits =
      let y = state-typed s b h in
      let m = state-limits s b h in
      let l = length_fields r.entries in
      let t = total in
      record {
        numbers = y.numbers;
        fields = fields_fit r.entries y.entries;
        bytes = entries-bytes (entry_count_of s) (drop 32 s) (bytes_drop 32 s b);
        lengths = (omega arith, omega arith);
      }

  -- The writer can be lent what the reading says, and writes the state back.
  pub state-writes-back : StateFits r
      × WritesBack
      (state_written (state_from r.flags r.sequence r.spend r.rotate r.recovery r.since fields bytes) fields bytes)
      (state_stored (state_from r.flags r.sequence r.spend r.rotate r.recovery r.since fields bytes) fields bytes)
      s
  unfolding state_written state_stored
  state-writes-back =
      (fits, rw state-lent (writes-back (state_writer_rows r fields bytes) (state_bytes r) (state_total fields bytes) s rows-hold (state-back s b h) total))
