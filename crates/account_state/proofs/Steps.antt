-- The walk unrolled: the i-th step hands out the i-th entry of the reading, and the last cursor is at the end.
-- Assumes nothing.
use mathlib.Core.Path.{◌≡◌, sym, ap, ◌∙◌}
use mathlib.Core.List.{List, ◌∷◌, ◌++◌}
use Prim.Native.Nat.{ℕ, zero, suc, ◌+◌, ◌-◌, ◌≤◌, ◌<◌}
use native.Mathlib.Nat.{add_assoc, add-zero, zero-add}
use native.Mathlib.Omega.{arith}
use lib.ListN.{length, drop, get_or, length-drop}
use lib.Seq.{drop-drop}
use Rattle.protocol.specs.Rows.{AllPass}
use Rattle.protocol.proofs.AllPass.{all-pass-split}
use Rattle.account_state.specs.Fields.{entry_count_of, entry_length_of, code_hash_offset, key_offset, key_length_of}
use Rattle.account_state.specs.Reading.{EntryReading, entry_of, entries_of, state_reading}
use Rattle.account_state.specs.State.{state_rows, entry_rows, entries_rows, entry_at, entry_cursor_behind, entry_reading, entry_cursor_at, EntryStepGives, behind_entries}
use Rattle.account_state.proofs.Passed.{entry-passed, state-passed}
use Rattle.account_state.proofs.Accepted.{entry-step-accepts}

-- the entry at a place reads as the one at the front of the bytes there
given : (s : List ℕ) (at : ℕ) → entry_reading s (entry_at s at) ≡ entry_of (drop at s)
unfolding entry_of entry_reading entry_at
given s at = rw (drop-drop code_hash_offset at s, drop-drop key_offset at s, drop-drop (key_offset + key_length_of (drop at s)) at s, add_assoc at key_offset (key_length_of (drop at s)))

module _ (s : List ℕ) where
  -- the bytes from the cursor after k entries on
  abbrev pub from : ℕ → List ℕ
  from k = drop (entry_cursor_at s k).offset s

  -- the rows of suc n entries: those of the entry at the cursor, then those of n entries from the next cursor on
  pub rows-unrolled : (n k : ℕ) → entries_rows (suc n) (from k) (entry_cursor_at s k).least
      ≡ entry_rows (from k) (entry_cursor_at s k).least ++ entries_rows n (from (suc k)) (entry_cursor_at s (suc k)).least
  unfolding entries_rows entry_cursor_at entry_cursor_behind
  rows-unrolled n k = rw (drop-drop (entry_length_of (from k)) (entry_cursor_at s k).offset s)

  -- and so their readings
  readings-unrolled : (n k : ℕ) → entries_of (suc n) (from k) ≡ entry_reading s (entry_at s (entry_cursor_at s k).offset) ∷ entries_of n (from (suc k))
  unfolding entries_of entry_cursor_at entry_cursor_behind
  readings-unrolled n k = rw (drop-drop (entry_length_of (from k)) (entry_cursor_at s k).offset s, given s (entry_cursor_at s k).offset)

  -- and what follows them
  behind-unrolled : (n k : ℕ) → behind_entries (suc n) (from k) ≡ behind_entries n (from (suc k))
  unfolding behind_entries entry_cursor_at entry_cursor_behind
  behind-unrolled n k = rw (drop-drop (entry_length_of (from k)) (entry_cursor_at s k).offset s)

  -- the i-th of n readings is that of the entry at the cursor after i entries, whatever the bytes
  readings-from : (d : EntryReading) (n k i : ℕ) → i < n → get_or (entries_of n (from k)) i d ≡ entry_reading s (entry_at s (entry_cursor_at s (k + i)).offset)
  readings-from d zero k i h = absurd (omega arith)
  readings-from d (suc n) k zero h = rw (readings-unrolled n k, add-zero k)
  readings-from d (suc n) k (suc i) h =
      let e : k + suc i ≡ suc k + i = omega arith in
      let l : i < n = omega arith in
      rw (readings-unrolled n k, e) (readings-from d n (suc k) i l)

  -- where the rows of n entries pass, so do those of each,
  rows-from : (n k i : ℕ) → AllPass (entries_rows n (from k) (entry_cursor_at s k).least) → i < n
      → AllPass (entry_rows (from (k + i)) (entry_cursor_at s (k + i)).least)
  rows-from zero k i h l = absurd (omega arith)
  rows-from (suc n) k zero h l = rw (add-zero k) (all-pass-split (entry_rows (from k) (entry_cursor_at s k).least) _ (rw (rows-unrolled n k) at h)).0
  rows-from (suc n) k (suc i) h l =
      let e : k + suc i ≡ suc k + i = omega arith in
      let m : i < n = omega arith in
      rw e (rows-from n (suc k) i (all-pass-split (entry_rows (from k) (entry_cursor_at s k).least) _ (rw (rows-unrolled n k) at h)).1 m)

  -- the cursor after them stays inside,
  inside-next : (k : ℕ) → AllPass (entry_rows (from k) (entry_cursor_at s k).least) → (entry_cursor_at s k).offset ≤ length s
      → (entry_cursor_at s (suc k)).offset ≤ length s
  unfolding entry_cursor_at entry_cursor_behind
  inside-next k h l =
      let p = (entry-passed (from k) (entry_cursor_at s k).least h).inside in
      let n : length (from k) ≡ length s - (entry_cursor_at s k).offset = length-drop (entry_cursor_at s k).offset s in
      omega arith

  inside-from : (n k : ℕ) → AllPass (entries_rows n (from k) (entry_cursor_at s k).least) → (entry_cursor_at s k).offset ≤ length s
      → (entry_cursor_at s (k + n)).offset ≤ length s
  inside-from zero k h l = rw (add-zero k) l
  inside-from (suc n) k h l =
      let e : k + suc n ≡ suc k + n = omega arith in
      let p = all-pass-split (entry_rows (from k) (entry_cursor_at s k).least) _ (rw (rows-unrolled n k) at h) in
      rw e (inside-from n (suc k) p.1 (inside-next k p.0 l))

  -- and what follows it is what follows them
  behind-from : (n k : ℕ) → behind_entries n (from k) ≡ from (k + n)
  unfolding behind_entries
  behind-from zero k = rw (add-zero k)
  behind-from (suc n) k =
      let e : k + suc n ≡ suc k + n = omega arith in
      rw (behind-unrolled n k, e) (behind-from n (suc k))

-- in an accepted state each step hands out its entry of the reading
pub steps : (s : List ℕ) → AllPass (state_rows s) → (i : ℕ) → i < entry_count_of s → EntryStepGives s i
unfolding entry_cursor_at state_reading
steps s h i l =
    record {
      step = (entry-step-accepts s (entry_cursor_at s i)).1 (rw zero-add at (rows-from s (entry_count_of s) 0 i (state-passed s h).entries l));
      reading = λ d. rw zero-add at (readings-from s d (entry_count_of s) 0 i l);
    }

-- after them the cursor is at the end
pub steps-end : (s : List ℕ) → AllPass (state_rows s) → (entry_cursor_at s (entry_count_of s)).offset ≡ length s
unfolding entry_cursor_at
steps-end s h =
    let p = state-passed s h in
    let inside = rw zero-add at (inside-from s (entry_count_of s) 0 p.entries p.header.present) in
    let none = sym (rw zero-add at (behind-from s (entry_count_of s) 0)) ∙ p.ended in
    let n : length (drop (entry_cursor_at s (entry_count_of s)).offset s) ≡ length s - (entry_cursor_at s (entry_count_of s)).offset = length-drop (entry_cursor_at s (entry_count_of s)).offset s in
    let z : length (drop (entry_cursor_at s (entry_count_of s)).offset s) ≡ 0 = ap length none in
    omega arith
