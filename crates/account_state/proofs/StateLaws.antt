-- The rows of a state, part by part: header, entries, end.
-- Assumes nothing.
use Rattle.std.specs.Prelude.{Err, Ok}
use mathlib.Core.Path.{◌≡◌, refl, ap, ◌∙◌}
use mathlib.Core.List.{List, [], ◌∷◌}
use Prim.Native.Nat.{ℕ, zero, suc, ◌+◌, ◌≤◌}
use native.Mathlib.Omega.{arith}
use lib.ListN.{length, take, drop}
use lib.Seq.{take-take}
use Rattle.octets.specs.Le.{from_le, number_at}
use Rattle.protocol.specs.Rows.{decide}
use Rattle.protocol.specs.declared.error.ProtocolError.{ProtocolError}
use Rattle.protocol.proofs.AllPass.{passed-all-pass, decide-both, decide-failed}
use Rattle.protocol.proofs.Answers.{then-given, then-refused}
use Rattle.account_state.proofs.AuxLimit.{state-within}
use Rattle.account_state.proofs.Passed.{header-passed}
use Rattle.account_state.specs.Fields.{entry_count_of, entry_bytes_of}
use Rattle.account_state.specs.Reading.{entries_of, state_reading, AuxWithin}
use Rattle.account_state.specs.State.{state_header_rows, entries_rows, state_end_rows, state_tail_rows, state_rows, state_fault, summary_of}
use Rattle.account_state.specs.EntriesWalk.{entries_walk_of, walk_entries}
use Rattle.account_state.specs.declared.walk.EntriesWalk.{EntriesWalk}

-- a number at the front of the bytes
pub front-part : (n at k : ℕ) (s : List ℕ) → at + k ≤ n → take k (drop at (take n s)) ≡ take k (drop at s)
front-part n zero k s h = take-take k n s (omega arith)
front-part zero (suc at) k s h = absurd (omega arith)
front-part (suc n) (suc at) k [] h = refl
front-part (suc n) (suc at) k (x ∷ s) h = front-part n at k s (omega arith)

pub front-number : (s : List ℕ) (n at k : ℕ) → at + k ≤ n → number_at (take n s) at k ≡ number_at s at k
unfolding number_at
front-number s n at k h = ap from_le (front-part n at k s h)

-- what the header tells of the walk
pub head-room : (s : List ℕ) → decide (Ok tt) (state_header_rows s) ≡ Ok tt → (32 ≤ length s) × (entry_count_of s ≤ 16)
head-room s h = let z = header-passed s (passed-all-pass _ h) in (z.present, z.count)

pub fault-head : (s : List ℕ) (e : ProtocolError) → decide (Ok tt) (state_header_rows s) ≡ Err e → state_fault s ≡ Err e
unfolding state_fault state_rows
fault-head s e h = rw (decide-both, h)

pub fault-entries : (s : List ℕ) (e : ProtocolError) → walk_entries (entry_count_of s) (entry_bytes_of s) ≡ Err e
    → decide (Ok tt) (state_header_rows s) ≡ Ok tt → state_fault s ≡ Err e
unfolding state_fault state_rows walk_entries
fault-entries s e w h =
    let k = then-refused _ _ e w in
    rw (decide-both, decide-both, h, k)

pub fault-end : (s : List ℕ) (w : EntriesWalk) → walk_entries (entry_count_of s) (entry_bytes_of s) ≡ Ok w
    → decide (Ok tt) (state_header_rows s) ≡ Ok tt
    → (state_fault s ≡ decide (Ok tt) (state_end_rows s w.tail w.summary)) × (summary_of (entries_of (entry_count_of s) (entry_bytes_of s)) ≡ w.summary)
unfolding state_fault state_rows state_tail_rows walk_entries entries_walk_of summary_of
fault-end s w k h =
    let z = then-given _ _ w k in
    (rw (decide-both, decide-both, h, z.0, ← z.1), ap (λ (v : EntriesWalk). v.summary) z.1)

-- a state without a fault keeps the limit of aux
pub fault-within : (s : List ℕ) → state_fault s ≡ Ok tt → AuxWithin (state_reading s).entries
unfolding state_fault
fault-within s h = state-within s (passed-all-pass (state_rows s) h)

-- for the check's own search
pub ruleset fronts = (front-number)

pub ruleset heads = (head-room)

pub ruleset faults = (head-room, fault-head, fault-entries, fault-end, fault-within)
