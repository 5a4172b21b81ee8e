-- Private: no public contract cites this file.
-- The readings of a lent entry and of those that are left.
use Rattle.std.specs.Prelude.{◌≡◌, ℕ, ◌+◌, List, [], ◌∷◌, length, leb, Ok, Err, Result}
use Rattle.protocol.specs.Rows.{row, ◌▷◌, decide, AllPass, Check}
use Rattle.protocol.specs.declared.error.ProtocolError.TheVariants.{BufferTooShort}
use Rattle.protocol.specs.declared.error.ProtocolError.{ProtocolError}
use Rattle.account_state.specs.Reading.{EntryReading, StateReading, entries_bytes}
use Rattle.account_state.specs.declared.header.StateHeader.{StateHeader}
use Rattle.account_state_writer.specs.Slices.{lent_count}
use Rattle.account_state_writer.specs.Writer.{entry_from, entries_from, slice_rows}
use Rattle.account_state_writer.specs.Checks.{written_checks}
use Rattle.account_state_writer.specs.Entries.{entries_in}
use Rattle.account_state_writer.specs.declared.slices.LentEntry.{LentEntry}
use Rattle.account_state_writer.specs.declared.slices.LentEntries.{LentEntries}

abbrev pub numbers_lent : LentEntry → List ℕ
numbers_lent e = e.slot ∷ e.algorithm_id ∷ e.capabilities ∷ e.weight ∷ e.aux_len ∷ []

unfoldable pub entry_lent : LentEntry → EntryReading
entry_lent e = entry_from (numbers_lent e) e.bytes.now

unfoldable pub entries_lent : LentEntries → List EntryReading
entries_lent e = entries_in e.numbers.now e.bytes.now

-- the state of a header and entries
unfoldable pub state_lent : StateHeader → List EntryReading → StateReading
state_lent h es =
    record {
      flags = h.flags;
      sequence = h.sequence;
      spend = h.spend_threshold;
      rotate = h.rotate_threshold;
      recovery = h.recovery_threshold;
      since = h.recovery_since;
      entries = es;
    }

-- what the checks of that state find, and then the room
unfoldable pub found : StateHeader → List EntryReading → ℕ → Check
found h es room =
    decide (Ok tt) (written_checks h.flags h.spend_threshold h.rotate_threshold h.recovery_threshold h.recovery_since es)
    ▷ row (leb (32 + length (entries_bytes es)) room) BufferTooShort

-- what the slices say, or which of their rows fails
abbrev pub LentOf : List ℕ → List ℕ → Result LentEntries ProtocolError → Type 0
LentOf fields bytes (Ok e) =
    AllPass (slice_rows fields bytes)
    × (length e.numbers.now ≡ lent_count fields) × (e.bytes.now ≡ bytes) × (entries_lent e ≡ entries_from (lent_count fields) fields bytes)
LentOf fields bytes (Err x) = decide (Ok tt) (slice_rows fields bytes) ≡ Err x
