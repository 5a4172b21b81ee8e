-- Private: no public contract cites this file.
-- The state in the code beside its definition, one line by its rows, and what private functions keep so that all that is written
-- fits.
use Rattle.std.specs.Prelude.{ℕ, ◌+◌, ◌*◌, ◌≤◌, List, [], ◌∷◌, ◌≡◌, length, get_or, Err, Ok, Option, Result}
use Rattle.protocol.specs.declared.error.ProtocolError.{ProtocolError}
use Rattle.protocol.specs.Rows.{decide, Check}
use Rattle.scene_line.specs.declared.kind.Kind.{Kind}
use Rattle.protocol.specs.Limits.{scene_max_length, table_min_entries, kind_max_lines}
use Rattle.scene_line.specs.Line.{line_bytes}
use Rattle.scene_line.specs.Kind.{rank, first_form}
use Rattle.scene_reader.specs.declared.state.State.{State}
use Rattle.scene_reader.specs.Reader.{ReaderState, ReaderOutcome, reader_refuses, reader_holds, outcome_after, line_rows, rows_of_line, scene_end_rows, line_put_as, line_put}

-- the state in the code, with the store and the table
abbrev pub state_holding : State → List ℕ → List ℕ → ReaderState
state_holding s store table = record { last = rank s.last; seen = s.seen; used = s.used; filled = s.filled; store = store; table = table }

-- what a step of the code leaves
abbrev pub step_outcome : Result State ProtocolError → List ℕ → List ℕ → ReaderOutcome
step_outcome (Ok s) store table = reader_holds (state_holding s store table)
step_outcome (Err e) store table = reader_refuses e

-- a line of kind k with the fields fs: its rows, and then it is put down
abbrev pub line_outcome_as : ReaderState → Option Kind → List (List ℕ) → ReaderOutcome
line_outcome_as h k fs = outcome_after (decide (Ok tt) (line_rows h k fs)) (line_put_as h k fs)

-- how many bytes the fields of a line have that its rows let pass
abbrev pub line_size : Check → ℕ → Result ℕ ProtocolError
line_size (Ok _) n = Ok n
line_size (Err e) n = Err e

-- what the checks of a line of kind k with the fields fs find, with every store of room bytes
abbrev pub LineChecked : Option Kind → State → List (List ℕ) → ℕ → Result ℕ ProtocolError → Type 0
LineChecked k s fs room r =
    (store table : List ℕ) → room ≡ length store
    → r ≡ line_size (decide (Ok tt) (line_rows (state_holding s store table) k fs)) (length (line_bytes (first_form k) fs))

-- a line of the text
abbrev pub line_outcome : ReaderState → List ℕ → ReaderOutcome
line_outcome h line = outcome_after (decide (Ok tt) (rows_of_line h line)) (line_put h line)

-- what follows the last line's ending
abbrev pub scene_end_outcome : ReaderState → List ℕ → ReaderOutcome
scene_end_outcome h rest = outcome_after (decide (Ok tt) (scene_end_rows h rest)) h

-- how many entries of the table are in use, at most, with all lines before the kind of rank last, and where only one line may be
-- of that kind with it: 8 counts, 2 for script, 1 for tx, then 64 of 8, 5, 3 and 2 for inputs, outputs, deps and witnesses,
-- 18 for verdicts
unfoldable pub entries_before : ℕ → ℕ
entries_before last = get_or (8 ∷ 10 ∷ 11 ∷ 11 ∷ 523 ∷ 843 ∷ 1035 ∷ 1181 ∷ []) last 0

-- how many each further line of that kind takes
unfoldable pub entries_each : ℕ → ℕ
entries_each last = get_or (0 ∷ 0 ∷ 0 ∷ 8 ∷ 5 ∷ 3 ∷ 2 ∷ 0 ∷ []) last 0

-- the table's entries in use after lines up to the seen-th of the kind of rank last, at most
unfoldable pub entries_limit : ℕ → ℕ → ℕ
entries_limit last seen = entries_before last + entries_each last * seen

-- a state with n bytes of text to come, a store of that many bytes and a table of that many entries
pub record ReaderReady (s : State) (n store table : ℕ) : Type 0 where
  pub few : s.seen ≤ kind_max_lines
  pub inside : s.used ≤ store
  pub small : s.used + n ≤ scene_max_length
  pub enough : table_min_entries ≤ table
  pub fits : s.filled ≤ entries_limit (rank s.last) s.seen

-- what a step over n bytes leaves is ready
abbrev pub ReadyAfter : State → ℕ → ℕ → ℕ → Result State ProtocolError → Type 0
ReadyAfter s n store table (Ok t) = ReaderReady t 0 store table × (t.used ≤ s.used + n)
ReadyAfter s n store table (Err e) = Unit {0}
