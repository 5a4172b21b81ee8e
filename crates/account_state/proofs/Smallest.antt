-- 01: "The smallest state has 113 bytes." No accepted state has fewer: 32 of the header, and of its first entry 48, a key of 32
-- and an aux that is not empty.
-- Assumes nothing.
use mathlib.Core.Path.{◌≡◌}
use mathlib.Core.List.{List}
use Prim.Native.Nat.{ℕ, zero, suc, ◌+◌, ◌-◌, ◌≤◌}
use native.Mathlib.Omega.{arith}
use lib.ListN.{length, length-drop}
use Rattle.protocol.specs.Rows.{AllPass}
use Rattle.protocol.proofs.AllPass.{all-pass-split}
use Rattle.account_state.specs.Fields.{aux_length_of, entry_count_of, entry_length_of, key_length_of, entry_bytes_of}
use Rattle.account_state.specs.State.{entry_rows, entries_rows, state_rows}
use Rattle.account_state.proofs.Passed.{entry-passed, state-passed}

-- an entry that passes has 81 bytes
entry-smallest : (e : List ℕ) (least : ℕ) → AllPass (entry_rows e least) → 81 ≤ length e
entry-smallest e least h =
    let z = entry-passed e least h in
    let whole : entry_length_of e ≡ 48 + key_length_of e + aux_length_of e = z.sum in
    let inside : entry_length_of e ≤ length e = z.inside in
    let key : key_length_of e ≡ 32 = z.key in
    let aux : 1 ≤ aux_length_of e = z.aux in
    omega arith

-- so have the entries that pass, if there is one
entries-smallest : (n : ℕ) (e : List ℕ) (least : ℕ) → 1 ≤ n → AllPass (entries_rows n e least) → 81 ≤ length e
unfolding entries_rows
entries-smallest zero e least some h = absurd (omega arith)
entries-smallest (suc n) e least some h = entry-smallest e least (all-pass-split (entry_rows e least) _ h).0

-- The theorem: a state that passes its rows has at least 113 bytes.
pub state-smallest : (s : List ℕ) → AllPass (state_rows s) → 113 ≤ length s
state-smallest s h =
    let p = state-passed s h in
    let e = entry_bytes_of s in
    let l : 81 ≤ length e = entries-smallest (entry_count_of s) e 0 p.header.some p.entries in
    let n : length e ≡ length s - 32 = length-drop 32 s in
    omega arith
