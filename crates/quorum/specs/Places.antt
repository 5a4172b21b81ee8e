-- The place of a slot's entry in the bytes of a state, on any bytes: entries are walked by their lengths, as many as are counted.
use Rattle.std.specs.Prelude.{ℕ, zero, suc, ◌+◌, cond, List, [], eqb, drop, None, Option, Some}
use Rattle.account_state.specs.Fields.{entry_count_of, entry_length_of, entry_slot_of}

-- where the first of n entries that has the slot begins, the first of the n being at `at`; 01: "The account in a state has one entry
-- per slot." Other bytes may have several
unfoldable pub place_from : ℕ → List ℕ → ℕ → ℕ → Option ℕ
place_from slot state zero at = None
place_from slot state (suc n) at =
    cond (eqb (entry_slot_of (drop at state)) slot) (Some at) (place_from slot state n (at + entry_length_of (drop at state)))

-- of all the state's, which follow its header of 32 bytes
unfoldable pub entry_place : ℕ → List ℕ → Option ℕ
entry_place slot state = place_from slot state (entry_count_of state) 32

-- the bytes from the entry on
abbrev pub entry_in : List ℕ → Option ℕ → List ℕ
entry_in state (Some at) = drop at state
entry_in state None = []
