-- An accepted state has exactly one reading, and the readers give that one. Where a state is accepted is in Accepted; that the steps
-- hand out the reading's entries in order, in Steps.
-- Assumes nothing.
use Rattle.std.specs.Prelude.{Err, Ok}
use mathlib.Core.Path.{◌≡◌, refl, sym, ap, ◌∙◌}
use mathlib.Core.List.{List}
use Prim.Native.Nat.{ℕ}
use Rattle.octets.specs.Le.{Bytes}
use Rattle.protocol.specs.Rows.{AllPass}
use Rattle.protocol.specs.Reading.{OneReading}
use Rattle.protocol.proofs.AllPass.{passed-all-pass}
use Rattle.protocol.proofs.Answers.{then-given}
use Rattle.account_state.specs.Fields.{entry_count_of, entry_bytes_of}
use Rattle.account_state.specs.Reading.{state_bytes, state_entries, state_reading, StateTyped}
use Rattle.account_state.specs.State.{state_rows, state_fault, state_header_of, summary_of, read_state, read_state_header, StateHeaderGives, StateGives}
use Rattle.account_state.specs.declared.header.StateHeader.{StateHeader}
use Rattle.account_state.specs.declared.walk.StateSummary.{StateSummary}
use Rattle.account_state.proofs.Accepted.{valid-fault}
use Rattle.account_state.proofs.Steps.{steps, steps-end}
use Rattle.account_state.proofs.Inverse.{state-back, state-typed, length-entries}
use Rattle.account_state.proofs.Unique.{state-read}

-- the one reading
pub state-one : (s : List ℕ) → Bytes s → AllPass (state_rows s) → OneReading StateTyped state_bytes s (state_reading s)
state-one s b h =
    record { typed = state-typed s b h; written = state-back s b h; unique = λ r y e. sym (state-read r y) ∙ ap state_reading e }

-- the fields at the front of the bytes are the reading's
header_of : (s : List ℕ) → StateHeaderGives s (state_header_of s)
unfolding state_header_of state_reading
header_of s =
    record {
      flags = refl;
      sequence = refl;
      spend = refl;
      rotate = refl;
      recovery = refl;
      since = refl;
      count = sym (length-entries (entry_count_of s) (entry_bytes_of s));
    }

-- the header that the header's reader hands out has the reading's fields
pub state-header-gives : (s : List ℕ) (h : StateHeader) → read_state_header s ≡ Ok h → StateHeaderGives s h
unfolding read_state_header
state-header-gives s h e = rw (sym (then-given _ _ h e).1) (header_of s)

-- a state that the reader accepts passes every check, and what the readers hand out is its one reading
pub state-given : (s : List ℕ) (h : StateHeader) (t : StateSummary) → read_state s ≡ Ok (h, t) → AllPass (state_rows s) × StateGives s h t
unfolding read_state state_fault state_reading state_header_of
state-given s h t e =
    let z : (state_header_of s, summary_of (state_entries s)) ≡ (h, t) = (then-given _ _ (h, t) e).1 in
    let p = passed-all-pass (state_rows s) (valid-fault s h t e) in
    (p, rw (ap (λ (x : StateHeader × StateSummary). x.0) (sym z)) (record { header = header_of s; weights = ap (λ (x : StateHeader × StateSummary). x.1) z; entries = steps s p; ended = steps-end s p }))
