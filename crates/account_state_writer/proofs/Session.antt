-- 02, change 10: "States with flag 2 or capability 0x0008 are still .. written": an accepted state to which they are added is written
-- back, or refused with 5 where the buffer is too short for it.
-- Assumes nothing.
use mathlib.Core.Bool.{Bool}
use mathlib.Core.List.{List}
use Prim.Native.Nat.{ℕ}
use Rattle.octets.specs.Le.{Bytes}
use Rattle.protocol.specs.Rows.{AllPass}
use Rattle.protocol.specs.Reading.{WritesBack}
use Rattle.account_state.specs.Reading.{StateReading, state_bytes, state_reading}
use Rattle.account_state.specs.Session.{session_added}
use Rattle.account_state.specs.State.{state_rows}
use Rattle.account_state.proofs.Session.{session-accepted, session-read, session-bytes}
use Rattle.account_state_writer.specs.Writer.{state_from, state_written, state_stored, entries_fields, entries_payload, StateFits}
use Rattle.account_state_writer.proofs.WritesBack.{state-writes-back}

module _ (s : List ℕ) (b : Bytes s) (h : AllPass (state_rows s)) (flag : Bool) (issues : ℕ → Bool) where
  abbrev r : StateReading
  r = session_added flag issues (state_reading s)

  abbrev fields : List ℕ
  fields = entries_fields r.entries

  abbrev bytes : List ℕ
  bytes = entries_payload r.entries

  -- The writer can be lent what such a reading says, and writes the state that it is of.
  pub session-writes-back : StateFits r
      × WritesBack
      (state_written (state_from r.flags r.sequence r.spend r.rotate r.recovery r.since fields bytes) fields bytes)
      (state_stored (state_from r.flags r.sequence r.spend r.rotate r.recovery r.since fields bytes) fields bytes)
      (state_bytes r)
  session-writes-back =
      rw (session-read s b h flag issues) at (state-writes-back (state_bytes r) (session-bytes s b h flag issues) (session-accepted s b h flag issues))
