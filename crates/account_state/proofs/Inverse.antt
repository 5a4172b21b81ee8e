-- A state that passes every check is the written form of its reading.
-- Assumes nothing.
use mathlib.Core.Path.{◌≡◌, refl, sym, ap, ◌∙◌}
use mathlib.Core.List.{List, [], ◌∷◌, ◌++◌, append_assoc, append-nil}
use Prim.Native.Nat.{ℕ, zero, suc, ◌+◌, ◌≤◌}
use native.Mathlib.Omega.{arith}
use lib.ListN.{length, take, drop, take-append-drop}
use Rattle.octets.specs.Le.{Bytes}
use Rattle.octets.specs.Layout.{layout_at}
use Rattle.octets.proofs.LeLaws.{number_lt, bytes_drop}
use Rattle.octets.proofs.LayoutLaws.{layout-back}
use Rattle.octets.proofs.Parts.{join, part_length}
use Rattle.protocol.specs.Rows.{AllPass}
use Rattle.protocol.proofs.AllPass.{all-pass-split}
use Rattle.account_state.proofs.Passed.{EntryPassed, entry-passed, state-passed}
use Rattle.account_state.specs.Fields.{aux_length_of, entry_count_of, entry_length_of, entry_slot_of, key_length_of, entry_bytes_of}
use Rattle.account_state.specs.Reading.{EntryReading, entry_head_fields, entry_length_fields, entry_bytes, entries_bytes, state_header_fields, state_head, state_bytes, entry_of, entries_of, state_reading, EntryTyped, EntriesTyped, StateTyped}
use Rattle.account_state.specs.State.{entry_rows, entries_rows, behind_entries, state_rows}

module _ (e : List ℕ) (least : ℕ) (b : Bytes e) (z : EntryPassed e least) where
  abbrev k : ℕ
  k = key_length_of e

  abbrev a : ℕ
  a = aux_length_of e

  -- an entry's bytes, from its fields
  entry-back : entry_bytes (entry_of e) ≡ take (entry_length_of e) e
  unfolding entry_bytes entry_of entry_head_fields entry_length_fields layout_at
  entry-back =
      let s = z.sum in
      let i = z.inside in
      let head = layout-back (2 ∷ 2 ∷ 2 ∷ 2 ∷ 2 ∷ 1 ∷ 1 ∷ []) e 0 b (omega arith) in
      let tail = layout-back (2 ∷ 2 ∷ []) e 44 b (omega arith) in
      rw (
        part_length e 48 k (omega arith),
        part_length e (48 + k) a (omega arith),
        ← s,
        head,
        tail,
        join e 0 12 32 12 refl,
        join e 0 44 4 44 refl,
        join e 0 48 k 48 refl,
        join e 0 (48 + k) a (48 + k) (omega arith),
      )
      (ap (λ (n : ℕ). take n e) (sym s))

  entry-typed : EntryTyped (entry_of e)
  unfolding entry_of
  entry-typed =
      let s = z.sum in
      let i = z.inside in
      let lk = part_length e 48 k (omega arith) in
      let la = part_length e (48 + k) a (omega arith) in
      let small = number_lt e 0 2 b in
      record {
        slot = number_lt e 2 2 b;
        algorithm = number_lt e 4 2 b;
        capabilities = number_lt e 6 2 b;
        weight = number_lt e 8 2 b;
        hash_type = number_lt e 10 1 b;
        abi = number_lt e 11 1 b;
        code_hash = part_length e 12 32 (omega arith);
        size = omega arith;
      }

-- entries that pass are written back, and what follows them is left
entries-back : (n : ℕ) (e : List ℕ) (least : ℕ) → Bytes e → AllPass (entries_rows n e least)
    → (entries_bytes (entries_of n e) ++ behind_entries n e ≡ e) × EntriesTyped (entries_of n e)
unfolding entries_bytes entries_of entries_rows behind_entries
entries-back zero e least b h = (refl, tt)
entries-back (suc n) e least b h =
    let p = all-pass-split (entry_rows e least) _ h in
    let z = entry-passed e least p.0 in
    let r = entries-back n (drop (entry_length_of e) e) _ (bytes_drop (entry_length_of e) e b) p.1 in
    (append_assoc (entry_bytes (entry_of e)) _ _ ∙ rw (r.0, entry-back e least b z) (take-append-drop (entry_length_of e) e), (entry-typed e least b z, r.1))

-- and each of their keys has 32 bytes
abbrev pub Keys : List EntryReading → Type 0
Keys [] = Unit {0}
Keys (e ∷ es) = (length e.key ≡ 32) × Keys es

entry_key : (e : List ℕ) (least : ℕ) → AllPass (entry_rows e least) → length (entry_of e).key ≡ 32
unfolding entry_of
entry_key e least h =
    let z = entry-passed e least h in
    let s = z.sum in
    let i = z.inside in
    part_length e 48 (key_length_of e) (omega arith) ∙ z.key

entries-keys : (n : ℕ) (e : List ℕ) (least : ℕ) → AllPass (entries_rows n e least) → Keys (entries_of n e)
unfolding entries_of entries_rows
entries-keys zero e least h = tt
entries-keys (suc n) e least h =
    let p = all-pass-split (entry_rows e least) (entries_rows n (drop (entry_length_of e) e) (entry_slot_of e + 1)) h in
    (entry_key e least p.0, entries-keys n (drop (entry_length_of e) e) (entry_slot_of e + 1) p.1)

pub length-entries : (n : ℕ) (e : List ℕ) → length (entries_of n e) ≡ n
unfolding entries_of
length-entries zero e = refl
length-entries (suc n) e = ap suc (length-entries n (drop (entry_length_of e) e))

module _ (s : List ℕ) (b : Bytes s) (h : AllPass (state_rows s)) where
  abbrev n : ℕ
  n = entry_count_of s

  pub state-back : state_bytes (state_reading s) ≡ s
  unfolding state_bytes state_reading state_head state_header_fields layout_at
  state-back =
      let p = state-passed s h in
      let z = p.header in
      let l = z.present in
      let r = entries-back n (entry_bytes_of s) 0 (bytes_drop 32 s b) p.entries in
      let t = rw (z.magic, z.version, z.size, z.reserved) at (layout-back (4 ∷ 1 ∷ 1 ∷ 2 ∷ 8 ∷ 2 ∷ 2 ∷ 2 ∷ 1 ∷ 1 ∷ 8 ∷ []) s 0 b (omega arith)) in
      let e : entries_bytes (entries_of n (entry_bytes_of s)) ≡ drop 32 s = sym (append-nil _) ∙ (rw p.ended at r.0) in
      rw (length-entries n (entry_bytes_of s), t, e) (take-append-drop 32 s)

  pub state-keys : Keys (state_reading s).entries
  unfolding state_reading
  state-keys = entries-keys n (entry_bytes_of s) 0 (state-passed s h).entries

  -- its length and its count stay within their limits
  pub state-limits : (length s ≤ 16384) × (length (state_reading s).entries ≤ 16)
  unfolding state_reading
  state-limits =
      let z = (state-passed s h).header in
      (z.limit, rw (length-entries n (entry_bytes_of s)) z.count)

  pub state-typed : StateTyped (state_reading s)
  unfolding state_reading
  state-typed =
      record {
        numbers = record {
          flags = number_lt s 5 1 b;
          sequence = number_lt s 8 8 b;
          spend = number_lt s 16 2 b;
          rotate = number_lt s 18 2 b;
          recovery = number_lt s 20 2 b;
          since = number_lt s 24 8 b;
        };
        count = rw (length-entries n (entry_bytes_of s)) (number_lt s 22 1 b);
        entries = (entries-back n (entry_bytes_of s) 0 (bytes_drop 32 s b) (state-passed s h).entries).1;
      }
