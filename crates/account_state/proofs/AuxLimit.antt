-- 02, change 6: no entry that a step hands out, and none of an accepted state, has an aux above the limit; so the readers promise it.
-- Assumes nothing.
use Rattle.std.specs.Prelude.{Err, Ok, Result}
use Rattle.account_state.specs.declared.walk.StateSummary.{StateSummary}
use Rattle.account_state.specs.declared.header.StateHeader.{StateHeader}
use Rattle.protocol.specs.declared.error.ProtocolError.{ProtocolError}
use Rattle.account_state.specs.declared.entry.AuthenticatorEntry.{AuthenticatorEntry}
use mathlib.Core.Path.{◌≡◌, refl, sym}
use mathlib.Core.List.{List}
use Prim.Native.Nat.{ℕ, zero, suc, ◌+◌, ◌≤◌}
use native.Mathlib.Omega.{arith}
use lib.ListN.{length, drop, length-take}
use Rattle.protocol.specs.Rows.{◌then◌, decide, AllPass, Check}
use Rattle.protocol.proofs.AllPass.{passed-all-pass, all-pass-split}
use Rattle.account_state.specs.Fields.{aux_length_of, aux_max_length, entry_count_of, entry_length_of, entry_slot_of, key_length_of, key_offset, entry_bytes_of}
use Rattle.account_state.specs.Reading.{entry_of, entries_of, state_entries, state_reading, AuxWithin}
use Rattle.account_state.specs.State.{state_rows, state_fault, state_header_of, summary_of, read_state, StateWithin, CheckWithin, entry_rows, entries_rows, entry_at, entry_cursor_behind, entry_step, StepWithin}
use Rattle.account_state.specs.declared.entry.EntryCursor.{EntryCursor}
use Rattle.account_state.proofs.Passed.{entry-passed, state-passed}

-- a step
pub step-within : (s : List ℕ) (c : EntryCursor) → StepWithin (entry_step s c)
unfolding entry_step entry_at
step-within s c = go (decide (Ok tt) (entry_rows (drop c.offset s) c.least)) refl
  where
    go : (k : Check) → decide (Ok tt) (entry_rows (drop c.offset s) c.least) ≡ k
        → StepWithin (k then Ok (entry_at s c.offset, entry_cursor_behind s c.offset))
    go (Ok _) h = (entry-passed (drop c.offset s) c.least (passed-all-pass _ h)).limit
    go (Err x) h = tt

-- so an answer that is the step's keeps the limit
pub step-promised : (s : List ℕ) (c : EntryCursor) {r : Result (AuthenticatorEntry × EntryCursor) ProtocolError} → r ≡ entry_step s c → (r ≡ entry_step s c) × StepWithin r
step-promised s c e = (e, rw e (step-within s c))

-- the entry at the front of the bytes
entry-within : (e : List ℕ) (least : ℕ) → AllPass (entry_rows e least) → length (entry_of e).aux ≤ aux_max_length
unfolding entry_of
entry-within e least h =
    let l = (entry-passed e least h).limit in
    let t = length-take (aux_length_of e) (drop (key_offset + key_length_of e) e) in
    omega arith

-- entries one behind another
entries-within : (n : ℕ) (e : List ℕ) (least : ℕ) → AllPass (entries_rows n e least) → AuxWithin (entries_of n e)
unfolding entries_of entries_rows
entries-within zero e least h = tt
entries-within (suc n) e least h =
    let p = all-pass-split (entry_rows e least) (entries_rows n (drop (entry_length_of e) e) (entry_slot_of e + 1)) h in
    (entry-within e least p.0, entries-within n (drop (entry_length_of e) e) (entry_slot_of e + 1) p.1)

-- the entries of a state that passes every check
pub state-within : (s : List ℕ) → AllPass (state_rows s) → AuxWithin (state_reading s).entries
unfolding state_reading
state-within s h = entries-within (entry_count_of s) (entry_bytes_of s) 0 (state-passed s h).entries

-- so an answer that is the reader's keeps the limit
pub state-promised : (s : List ℕ) {r : Result (StateHeader × StateSummary) ProtocolError} → r ≡ read_state s → (r ≡ read_state s) × StateWithin s r
unfolding read_state state_fault
state-promised s e = (e, rw e (go (decide (Ok tt) (state_rows s)) refl))
  where
    go : (k : Check) → decide (Ok tt) (state_rows s) ≡ k → StateWithin s (k then Ok (state_header_of s, summary_of (state_entries s)))
    go (Ok _) h = state-within s (passed-all-pass (state_rows s) h)
    go (Err x) h = tt

-- and so does what the checks find
pub check-promised : (s : List ℕ) {k : Check} → k ≡ decide (Ok tt) (state_rows s) → (k ≡ decide (Ok tt) (state_rows s)) × CheckWithin s k
check-promised s {k} e = (e, go k e)
  where
    go : (j : Check) → j ≡ decide (Ok tt) (state_rows s) → CheckWithin s j
    go (Ok _) h = state-within s (passed-all-pass (state_rows s) (sym h))
    go (Err x) h = tt
