-- Lent entries one by one: the first of them has its own bytes, and the others those behind.
-- Assumes nothing.
use mathlib.Core.Path.{◌≡◌, refl, ap}
use mathlib.Core.List.{List, [], ◌∷◌}
use Prim.Native.Nat.{ℕ, zero, suc, ◌+◌, ◌-◌, ◌*◌, ◌≤◌, ◌<◌}
use native.Mathlib.Omega.{arith}
use lib.ListN.{length-append, length-drop, length, take, drop, get_or, drop_of_length-le}
use Rattle.std.proofs.Common.{add-one, drop-cons}
use Rattle.std.proofs.lemmas.List.{get_or-take}
use Rattle.octets.specs.Le.{number_at}
use Rattle.octets.proofs.LeLaws.{number-one}
use Rattle.octets.proofs.Parts.{part_length}
use Rattle.protocol.proofs.AllPass.{decide-failed}
use Rattle.account_state.proofs.StateLaws.{front-part}
use Rattle.account_state_writer.specs.Slices.{lent_aux_length, lent_bytes}
use Rattle.account_state_writer.specs.Writer.{entry_from, entries_from, needed_bytes}
use Rattle.account_state_writer.specs.Lent.{numbers_lent, entry_lent, entries_lent}
use Rattle.account_state_writer.proofs.Lent.{length-from, length-entry, length-first, length-none, store-next, store-none}
use Rattle.account_state.specs.Reading.{entry_bytes, entries_bytes}
use Rattle.account_state_writer.specs.Checks.{reading_fields}
use Rattle.account_state_writer.specs.declared.slices.LentEntry.{LentEntry}
use Rattle.account_state_writer.specs.declared.slices.LentEntries.{LentEntries}
use Rattle.account_state_writer.specs.Entries.{bytes_needed, entries_in}
use Rattle.std.specs.Simd.{first_chunks}

-- an entry says what its own bytes say
pub entry-own : (f b : List ℕ) → entry_from f (take (lent_bytes f) b) ≡ entry_from f b
unfolding entry_from number_at
entry-own f b =
    let n = lent_bytes f in
    rw (
      front-part n 0 1 b (omega arith),
      front-part n 1 1 b (omega arith),
      front-part n 2 32 b (omega arith),
      front-part n 34 32 b (omega arith),
      front-part n 66 (lent_aux_length f) b (omega arith),
    )

-- the bytes of the entries from the i-th on
pub needed-more : (fs : List (List ℕ)) (i : ℕ) → i < length fs
    → bytes_needed (drop i fs) ≡ lent_bytes (get_or fs i []) + bytes_needed (drop (i + 1) fs)
unfolding bytes_needed
needed-more fs i h = rw (add-one, drop-cons fs i [])

pub needed-end : (fs : List (List ℕ)) (i : ℕ) → length fs ≤ i → bytes_needed (drop i fs) ≡ 0
unfolding bytes_needed
needed-end fs i h = rw (drop_of_length-le fs h)

-- entries as they stand in the fields, five numbers each
pub needed-chunks : (n : ℕ) (f : List ℕ) → bytes_needed (first_chunks 5 n f) ≡ needed_bytes n f
unfolding bytes_needed needed_bytes
needed-chunks zero f = refl
needed-chunks (suc n) f = rw (get_or-take 5 f 4 0 (omega arith), needed-chunks n (drop 5 f))

pub entries-chunks : (n : ℕ) (f b : List ℕ) → entries_in (first_chunks 5 n f) b ≡ entries_from n f b
unfolding entries_in entries_from entry_from
entries-chunks zero f b = refl
entries-chunks (suc n) f b =
    rw (
      get_or-take 5 f 0 0 (omega arith),
      get_or-take 5 f 1 0 (omega arith),
      get_or-take 5 f 2 0 (omega arith),
      get_or-take 5 f 3 0 (omega arith),
      get_or-take 5 f 4 0 (omega arith),
      entries-chunks n (drop 5 f) (drop (lent_bytes f) b),
    )

pub length-in : (fs : List (List ℕ)) (b : List ℕ) → length (entries_in fs b) ≡ length fs
unfolding entries_in
length-in [] b = refl
length-in (f ∷ fs) b = ap suc (length-in fs (drop (lent_bytes f) b))

-- how long the state of the entries is, behind its header
length-all : (fs : List (List ℕ)) (b : List ℕ) → bytes_needed fs ≡ length b → length (entries_bytes (entries_in fs b)) ≡ 14 * length fs + length b
unfolding entries_bytes bytes_needed entries_in
length-all [] b h = omega arith
length-all (f ∷ fs) b h =
    let d : length (drop (lent_bytes f) b) ≡ length b - lent_bytes f = length-drop (lent_bytes f) b in
    let e : length (entry_bytes (entry_from f b)) ≡ 80 + lent_aux_length f = length-from f b (omega arith) in
    let r = length-all fs (drop (lent_bytes f) b) (omega arith) in
    rw (length-append, e, r) (omega arith)

pub length-left : (s : LentEntries) → length (entries_bytes (entries_lent s)) ≡ 14 * length s.numbers.now + length s.bytes.now
unfolding entries_lent
length-left s = length-all s.numbers.now s.bytes.now s.agree

-- what an entry says, by its own numbers and bytes
module _ (e : LentEntry) where
  pub length-key : length (entry_lent e).key ≡ 32
  unfolding entry_lent entry_from
  length-key = part_length e.bytes.now 34 32 (omega (arith, e.whole))

  pub length-aux : length (entry_lent e).aux ≡ e.aux_len
  unfolding entry_lent entry_from
  length-aux = part_length e.bytes.now 66 e.aux_len (omega (arith, e.whole))

  pub length-stored : length (entry_bytes (entry_lent e)) ≡ 14 + length e.bytes.now
  unfolding entry_lent
  length-stored = length-entry (numbers_lent e) e.bytes.now e.whole

  pub fields-own : reading_fields (entry_lent e)
      ≡ record {
        algorithm_id = e.algorithm_id;
        capabilities = e.capabilities;
        weight = e.weight;
        verifier_hash_type = get_or e.bytes.now 0 0;
        verifier_abi = get_or e.bytes.now 1 0;
        key_len = 32;
        aux_len = e.aux_len;
      }
  unfolding entry_lent entry_from
  fields-own = rw (number-one e.bytes.now 0, number-one e.bytes.now 1, length-key, length-aux)

-- for the check's own search
pub ruleset firsts = (entry-own)

pub ruleset needs = (needed-more, needed-end)

pub ruleset chunks = (needed-chunks, entries-chunks, length-in)

pub ruleset stores = (length-stored, length-first, length-none, store-next, store-none)

pub ruleset lengths = (length-left)

pub ruleset parts = (fields-own)

pub ruleset limits = (length-aux, decide-failed)
