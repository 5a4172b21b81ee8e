-- The walk over the entries: a step checks one entry, and what is left to walk gives the whole.
-- Assumes nothing.
use Rattle.std.specs.Prelude.{Err, Ok}
use mathlib.Core.Path.{◌≡◌, refl, sym, ap, ◌∙◌}
use mathlib.Core.Bool.{Bool, true, false, cond}
use mathlib.Core.List.{List, ◌∷◌}
use Prim.Native.Nat.{ℕ, suc, ◌+◌, ◌-◌, ◌*◌, ◌≤◌, ◌<◌}
use native.Mathlib.Nat.{add_assoc, zero-add, add-zero}
use native.Mathlib.Omega.{arith}
use lib.ListN.{length, drop, length-drop}
use Rattle.protocol.specs.Policy.{has_capability}
use Rattle.protocol.specs.Rows.{decide}
use Rattle.protocol.specs.declared.error.ProtocolError.{ProtocolError}
use Rattle.protocol.proofs.AllPass.{passed-all-pass, decide-append, decide-failed}
use Rattle.account_state.proofs.Inverse.{length-entries}
use Rattle.account_state.proofs.Passed.{entry-passed}
use Rattle.account_state.proofs.Weighing.{Weighing, weigh-first, weigh-next, weigh-light, weigh-done}
use Rattle.account_state.specs.Fields.{aux_length_of, aux_max_length, entry_length_of, entry_slot_of, capabilities_of, weight_of, entry_bytes_of}
use Rattle.account_state.specs.Reading.{entry_of, entries_of, capable_share, capable_weight}
use Rattle.account_state.specs.State.{entry_rows, entries_rows, behind_entries, summary_of, Light, with_entry}
use Rattle.account_state.specs.EntriesWalk.{entries_walk_of, walk_entries}
use Rattle.account_state.specs.declared.walk.StateSummary.{StateSummary}

-- an entry that passes has its 48 bytes
pub entry-room : (s : List ℕ) (at least : ℕ) → decide (Ok tt) (entry_rows (drop at s) least) ≡ Ok tt → at + 48 ≤ length s
entry-room s at least h =
    let p = (entry-passed (drop at s) least (passed-all-pass _ h)).present in
    let l : length (drop at s) ≡ length s - at = length-drop at s in
    omega arith

-- it ends inside them, and its aux keeps the limit
pub entry-inside : (e : List ℕ) (least : ℕ) → decide (Ok tt) (entry_rows e least) ≡ Ok tt → entry_length_of e ≤ length e
entry-inside e least h = (entry-passed e least (passed-all-pass _ h)).inside

pub entry-limit : (e : List ℕ) (least : ℕ) → decide (Ok tt) (entry_rows e least) ≡ Ok tt → aux_length_of e ≤ aux_max_length
entry-limit e least h = (entry-passed e least (passed-all-pass _ h)).limit

-- for the check's own search
pub ruleset passing = (entry-room, entry-inside, entry-limit)

-- the entry at the front, and those behind it
pub entries-first : (e : List ℕ) (left : ℕ) → 0 < left → entries_of left e ≡ entry_of e ∷ entries_of (left - 1) (drop (entry_length_of e) e)
unfolding entries_of
entries-first e left h = let l : left ≡ suc (left - 1) = omega arith in ap (λ (n : ℕ). entries_of n e) l

-- the rows of one entry, and of the rest of them
pub rows-passed : (n : ℕ) (e : List ℕ) (least : ℕ) → decide (Ok tt) (entry_rows e least) ≡ Ok tt
    → decide (Ok tt) (entries_rows (suc n) e least) ≡ decide (Ok tt) (entries_rows n (drop (entry_length_of e) e) (entry_slot_of e + 1))
unfolding entries_rows
rows-passed n e least h = decide-append (Ok tt) (entry_rows e least) _ ∙ rw h

pub rows-failed : (n : ℕ) (e : List ℕ) (least : ℕ) (x : ProtocolError) → decide (Ok tt) (entry_rows e least) ≡ Err x
    → decide (Ok tt) (entries_rows (suc n) e least) ≡ Err x
unfolding entries_rows
rows-failed n e least x h = decide-append (Ok tt) (entry_rows e least) _ ∙ rw h (decide-failed _ x)

-- what is left to walk, the entries from the bytes e on, gives the whole
pub record Walking (s : List ℕ) (count left : ℕ) (e : List ℕ) (least : ℕ) (t : StateSummary) : Type 0 where
  pub rows : decide (Ok tt) (entries_rows left e least) ≡ decide (Ok tt) (entries_rows count (entry_bytes_of s) 0)
  pub tail : behind_entries left e ≡ behind_entries count (entry_bytes_of s)
  pub weights : Weighing (entries_of count (entry_bytes_of s)) (entries_of left e) t

pub walking-first : (s : List ℕ) (count : ℕ) (t : StateSummary) → count ≤ 16
    → t.spend_weight ≡ 0 → t.rotate_weight ≡ 0 → t.recovery_weight ≡ 0 → Walking s count count (entry_bytes_of s) 0 t
walking-first s count t k x y z =
    record {
      rows = refl;
      tail = refl;
      weights = weigh-first (entries_of count (entry_bytes_of s)) t (rw (length-entries count (entry_bytes_of s)) k) x y z;
    }

-- every entry is walked
pub walking-done : (s : List ℕ) (count left : ℕ) (e : List ℕ) (least : ℕ) (t : StateSummary) → left ≡ 0 → Walking s count left e least t
    → walk_entries count (entry_bytes_of s) ≡ Ok (record { tail = length e; summary = t })
unfolding walk_entries entries_walk_of entries_rows behind_entries entries_of decide
walking-done s count left e least t z w =
    let r : (Ok tt) ≡ decide (Ok tt) (entries_rows count (entry_bytes_of s) 0) = rw z at w.rows in
    let b : e ≡ behind_entries count (entry_bytes_of s) = rw z at w.tail in
    let y : t ≡ summary_of (entries_of count (entry_bytes_of s)) = weigh-done _ _ t w.weights (rw z) in
    rw (← r, ← b, ← y)

module _ (s : List ℕ) (count left next : ℕ) (e : List ℕ) (least : ℕ) (t : StateSummary) (one : left ≡ suc next) (w : Walking s count left e least t) where
  -- a refused entry refuses the whole
  pub walking-failed : (x : ProtocolError) → decide (Ok tt) (entry_rows e least) ≡ Err x → walk_entries count (entry_bytes_of s) ≡ Err x
  unfolding walk_entries
  walking-failed x h =
      let r : decide (Ok tt) (entries_rows (suc next) e least) ≡ decide (Ok tt) (entries_rows count (entry_bytes_of s) 0) = rw one at w.rows in
      rw (← r, rows-failed next e least x h)

  -- an entry that passes leaves the rest to walk
  pub walking-next : decide (Ok tt) (entry_rows e least) ≡ Ok tt → (u : StateSummary) → u ≡ with_entry t (capabilities_of e) (weight_of e)
      → ((n : ℕ) → Light (n + 1) t → Light n u) → Walking s count next (drop (entry_length_of e) e) (entry_slot_of e + 1) u
  unfolding behind_entries entries_of entry_of
  walking-next h u q room =
      record {
        rows = sym (rows-passed next e least h) ∙ (rw one at w.rows);
        tail = rw one at w.tail;
        weights = weigh-next _ _ (entries_of next (drop (entry_length_of e) e)) (entry_of e) t u w.weights (rw one) q room;
      }

  -- of whose weight there is room
  pub walking-light : Light 1 t
  unfolding entries_of
  walking-light = weigh-light _ _ (entries_of next (drop (entry_length_of e) e)) (entry_of e) t w.weights (rw one)
