-- The place of a slot's entry: what is there is what the entries say of the slot, and the search for it, an entry a turn.
-- Assumes nothing.
use Rattle.std.specs.Prelude.{None, Some, is_some}
use mathlib.Core.Path.{◌≡◌, refl, ◌∙◌}
use mathlib.Core.Bool.{Bool, true, false, cond}
use mathlib.Core.List.{List, []}
use Prim.Native.Nat.{ℕ, zero, suc, ◌+◌, ◌-◌, ◌*◌, ◌≤◌, ◌<◌}
use native.Mathlib.Omega.{arith}
use lib.Dec.{eqb}
use lib.ListN.{drop}
use lib.Seq.{drop-drop}
use borrow.Author.Tests.{eq-eqb, ne_eqb}
use Rattle.octets.specs.Le.{number_at, from_le}
use Rattle.account_state.specs.Fields.{entry_count_of, entry_length_of, entry_slot_of}
use Rattle.account_state.specs.Reading.{entry_of, entries_of, state_entries}
use Rattle.quorum.specs.Slots.{known_slot, entry_for, no_entry}
use Rattle.quorum.specs.Places.{place_from, entry_place, entry_in}

-- no bytes read as no entry
none_read : entry_of [] ≡ no_entry
unfolding entry_of no_entry number_at from_le
none_read = refl

module _ (slot : ℕ) (state : List ℕ) where
  -- among n entries: there is a place exactly where there is an entry,
  place-known-from : (n at : ℕ) → is_some (place_from slot state n at) ≡ known_slot slot (entries_of n (drop at state))
  unfolding place_from known_slot entries_of entry_of
  place-known-from zero at = refl
  place-known-from (suc n) at = go (eqb (entry_slot_of (drop at state)) slot) (place-known-from n (at + entry_length_of (drop at state)))
    where
      go : (b : Bool) → is_some (place_from slot state n (at + entry_length_of (drop at state))) ≡ known_slot slot (entries_of n (drop (at + entry_length_of (drop at state)) state))
          → is_some (cond b (Some at) (place_from slot state n (at + entry_length_of (drop at state))))
          ≡ cond b true (known_slot slot (entries_of n (drop (entry_length_of (drop at state)) (drop at state))))
      go true h = refl
      go false h = rw (drop-drop (entry_length_of (drop at state)) at state) h

  -- and the entry there is the slot's
  place-entry-from : (n at : ℕ) → entry_of (entry_in state (place_from slot state n at)) ≡ entry_for slot (entries_of n (drop at state))
  unfolding place_from entry_for entries_of entry_of
  place-entry-from zero at = none_read
  place-entry-from (suc n) at = go (eqb (entry_slot_of (drop at state)) slot) (place-entry-from n (at + entry_length_of (drop at state)))
    where
      go : (b : Bool) → entry_of (entry_in state (place_from slot state n (at + entry_length_of (drop at state)))) ≡ entry_for slot (entries_of n (drop (at + entry_length_of (drop at state)) state))
          → entry_of (entry_in state (cond b (Some at) (place_from slot state n (at + entry_length_of (drop at state)))))
          ≡ cond b (entry_of (drop at state)) (entry_for slot (entries_of n (drop (entry_length_of (drop at state)) (drop at state))))
      go true h = refl
      go false h = rw (drop-drop (entry_length_of (drop at state)) at state) h

  -- the state has an entry for the slot exactly where the place of one is found,
  pub place-known : is_some (entry_place slot state) ≡ known_slot slot (state_entries state)
  unfolding entry_place
  place-known = place-known-from _ 32

  -- and the entry at that place is the slot's
  pub place-entry : entry_of (entry_in state (entry_place slot state)) ≡ entry_for slot (state_entries state)
  unfolding entry_place
  place-entry = place-entry-from _ 32

-- the search stands at `at` with `left` entries to look at: what it finds there is what is found
pub record Seeking (slot : ℕ) (state : List ℕ) (left at : ℕ) : Type 0 where
  pub small : at + 65535 * left ≤ 16711457
  pub finds : entry_place slot state ≡ place_from slot state left at

pub seek-first : (slot : ℕ) (state : List ℕ) (left : ℕ) → left ≤ 255 → left ≡ entry_count_of state → Seeking slot state left 32
unfolding entry_place
seek-first slot state left h e = record { small = omega arith; finds = rw e }

-- its slot is this one
pub seek_hit : {slot : ℕ} {state : List ℕ} {left at : ℕ} → Seeking slot state left at → 0 < left → entry_slot_of (drop at state) ≡ slot
    → entry_place slot state ≡ Some at
unfolding place_from
seek_hit {left = left} z h e = let one : left ≡ suc (left - 1) = omega arith in z.finds ∙ rw (one, eq-eqb _ _ e)

-- it is another
pub seek-next : {slot : ℕ} {state : List ℕ} {left next at : ℕ} → Seeking slot state left at → left ≡ suc next
    → (entry_slot_of (drop at state) ≡ slot → ⊥) → entry_length_of (drop at state) ≤ 65535
    → Seeking slot state next (at + entry_length_of (drop at state))
unfolding place_from
seek-next z one e m = record { small = omega arith; finds = z.finds ∙ rw (one, ne_eqb _ _ e) }

-- no entry is left
pub seek-none : {slot : ℕ} {state : List ℕ} {left at : ℕ} → Seeking slot state left at → left ≡ 0 → entry_place slot state ≡ None
unfolding place_from
seek-none z h = z.finds ∙ rw h

-- for the check's own search
pub ruleset seeks = (seek-first, seek_hit, seek-next, seek-none)
