-- The slots of an accepted state's entries rise strictly.
-- Assumes nothing.
use mathlib.Core.List.{List}
use Prim.Native.Nat.{ℕ, zero, suc, ◌+◌}
use lib.ListN.{drop}
use Rattle.octets.specs.Lists.{Rising}
use Rattle.protocol.specs.Rows.{AllPass}
use Rattle.protocol.proofs.AllPass.{all-pass-split}
use Rattle.account_state.specs.Fields.{entry_count_of, entry_length_of, entry_slot_of, entry_bytes_of}
use Rattle.account_state.specs.Reading.{entry_of, entries_of, state_reading, entry_slots}
use Rattle.account_state.specs.State.{state_rows, entry_rows, entries_rows}
use Rattle.account_state.proofs.Passed.{entry-passed, state-passed}

-- the slots of entries whose rows pass rise strictly
entries-rising : (n : ℕ) (e : List ℕ) (least : ℕ) → AllPass (entries_rows n e least) → Rising least (entry_slots (entries_of n e))
unfolding entries_of entries_rows entry_of
entries-rising zero e least h = tt
entries-rising (suc n) e least h =
    let p = all-pass-split (entry_rows e least) (entries_rows n (drop (entry_length_of e) e) (entry_slot_of e + 1)) h in
    ((entry-passed e least p.0).slot, entries-rising n (drop (entry_length_of e) e) (entry_slot_of e + 1) p.1)

-- the slots of an accepted state rise strictly; 01, host/src/lib.rs: "The account in a state has one entry per slot."
pub state-slots : (s : List ℕ) → AllPass (state_rows s) → Rising 0 (entry_slots (state_reading s).entries)
unfolding state_reading
state-slots s h =
    entries-rising (entry_count_of s) (entry_bytes_of s) 0 (state-passed s h).entries
