-- The writer's rows and the reader's are the same checks, the limit of aux in another place: a state passes the ones where it passes
-- the others.
-- Assumes nothing.
use mathlib.Core.Path.{◌≡◌}
use mathlib.Core.List.{List, [], ◌∷◌}
use mathlib.Core.Logic.{◌↔◌}
use Prim.Native.Nat.{ℕ, zero, suc, ◌+◌}
use native.Mathlib.Omega.{arith}
use borrow.Author.Tests.{leb-true, le-leb, eqb-true}
use lib.ListN.{length, drop}
use Rattle.octets.proofs.Parts.{part_length}
use Rattle.protocol.specs.Rows.{AllPass}
use Rattle.protocol.proofs.AllPass.{all-pass-append, all-pass-split}
use Rattle.account_state.specs.Fields.{aux_length_of, aux_max_length, entry_bytes_of, entry_count_of, entry_length_of, entry_slot_of, key_length_of, key_offset}
use Rattle.account_state.specs.Reading.{EntryReading, StateReading, StateTyped, AuxWithin, state_bytes, entry_of, entries_of, state_reading}
use Rattle.account_state.specs.State.{state_header_rows, entry_layout_rows, entry_field_rows, entry_fields_of, original_entry_rows, aux_limit_row, entry_rows, entries_rows, state_tail_rows, state_rows}
use Rattle.account_state.proofs.AuxLimit.{state-within}
use Rattle.account_state.proofs.Unique.{state-read}
use Rattle.account_state_writer.specs.Writer.{original_entries_rows, original_state_rows, aux_limit_rows, written_rows}

-- the rows of the limit pass exactly where no aux is above it
limits-pass : (es : List EntryReading) → AuxWithin es → AllPass (aux_limit_rows es)
unfolding aux_limit_rows
limits-pass [] h = tt
limits-pass (e ∷ es) h = (le-leb (length e.aux) aux_max_length h.0, limits-pass es h.1)

limits-within : (es : List EntryReading) → AllPass (aux_limit_rows es) → AuxWithin es
unfolding aux_limit_rows
limits-within [] h = tt
limits-within (e ∷ es) h = (leb-true (length e.aux) aux_max_length h.0, limits-within es h.1)

-- an entry that passes the original's rows has the aux that it says
aux-there : (e : List ℕ) (least : ℕ) → AllPass (original_entry_rows e least) → length (entry_of e).aux ≡ aux_length_of e
unfolding original_entry_rows entry_layout_rows entry_of
aux-there e least h =
    let z = (all-pass-split (entry_layout_rows e least) (entry_field_rows (entry_fields_of e)) h).0 in
    let sum = eqb-true (entry_length_of e) _ z.1.0 in
    let inside = leb-true (entry_length_of e) (length e) z.1.1.0 in
    part_length e (key_offset + key_length_of e) (aux_length_of e) (omega arith)

-- entries one behind another
entries-original : (n : ℕ) (e : List ℕ) (least : ℕ) → AllPass (entries_rows n e least) → AllPass (original_entries_rows n e least)
unfolding entries_rows original_entries_rows entry_rows
entries-original zero e least h = tt
entries-original (suc n) e least h =
    let p = all-pass-split (entry_rows e least) (entries_rows n (drop (entry_length_of e) e) (entry_slot_of e + 1)) h in
    all-pass-append (original_entry_rows e least) _
    (all-pass-split (original_entry_rows e least) (aux_limit_row (aux_length_of e) ∷ []) p.0).0
    (entries-original n (drop (entry_length_of e) e) (entry_slot_of e + 1) p.1)

entries-limited : (n : ℕ) (e : List ℕ) (least : ℕ) → AllPass (original_entries_rows n e least) → AuxWithin (entries_of n e)
    → AllPass (entries_rows n e least)
unfolding entries_rows original_entries_rows entry_rows entries_of
entries-limited zero e least h w = tt
entries-limited (suc n) e least h w =
    let p = all-pass-split (original_entry_rows e least) (original_entries_rows n (drop (entry_length_of e) e) (entry_slot_of e + 1)) h in
    let a = aux-there e least p.0 in
    let l = w.0 in
    all-pass-append (entry_rows e least) _
    (all-pass-append (original_entry_rows e least) (aux_limit_row (aux_length_of e) ∷ []) p.0 (le-leb (aux_length_of e) aux_max_length (omega arith), tt))
    (entries-limited n (drop (entry_length_of e) e) (entry_slot_of e + 1) p.1 w.1)

-- a state
state-original : (s : List ℕ) → AllPass (state_rows s) → AllPass (original_state_rows s)
unfolding state_rows original_state_rows
state-original s h =
    let p = all-pass-split (state_header_rows s) _ h in
    let q = all-pass-split (entries_rows (entry_count_of s) (entry_bytes_of s) 0) _ p.1 in
    all-pass-append (state_header_rows s) _ p.0
    (all-pass-append (original_entries_rows (entry_count_of s) (entry_bytes_of s) 0) (state_tail_rows s (entry_count_of s) (entry_bytes_of s))
    (entries-original (entry_count_of s) (entry_bytes_of s) 0 q.0) q.1)

state-limited : (s : List ℕ) → AllPass (original_state_rows s) → AuxWithin (state_reading s).entries → AllPass (state_rows s)
unfolding state_rows original_state_rows state_reading
state-limited s h w =
    let p = all-pass-split (state_header_rows s) _ h in
    let q = all-pass-split (original_entries_rows (entry_count_of s) (entry_bytes_of s) 0) _ p.1 in
    all-pass-append (state_header_rows s) _ p.0
    (all-pass-append (entries_rows (entry_count_of s) (entry_bytes_of s) 0) (state_tail_rows s (entry_count_of s) (entry_bytes_of s))
    (entries-limited (entry_count_of s) (entry_bytes_of s) 0 q.0 w) q.1)

-- what the writer's checks pass is what the reader accepts of the bytes that are written
pub written_read : (r : StateReading) → StateTyped r → AllPass (written_rows r) ↔ AllPass (state_rows (state_bytes r))
unfolding written_rows
written_read r y = (there, back)
  where
    there : AllPass (written_rows r) → AllPass (state_rows (state_bytes r))
    there h =
        let p = all-pass-split (original_state_rows (state_bytes r)) (aux_limit_rows r.entries) h in
        state-limited (state_bytes r) p.0 (rw (state-read r y) (limits-within r.entries p.1))

    back : AllPass (state_rows (state_bytes r)) → AllPass (written_rows r)
    back h =
        all-pass-append (original_state_rows (state_bytes r)) (aux_limit_rows r.entries) (state-original (state_bytes r) h)
        (limits-pass r.entries (rw (state-read r y) at (state-within (state_bytes r) h)))
