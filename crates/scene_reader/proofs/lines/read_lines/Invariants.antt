-- `scene_reader::lines::read_lines` meets its contract. Assumes nothing.
use Rattle.std.proofs.Common.{◌≡◌, length}
use Rattle.scene_reader.specs.Reader.{reader_start, lines_outcome}
use Rattle.scene_reader.specs.Room.{ReaderReady, state_holding}
use Rattle.text.specs.Text.{pieces, line_end}
use Rattle.scene_reader.proofs.lines.read_lines.Given as goal

abbrev pub invariant-loop-line : goal.invariant-loop-line
invariant-loop-line l = (lines_outcome (reader_start (length l.initial.store) (length l.initial.table)) (pieces line_end l.scene) ≡ lines_outcome (state_holding l.state l.store l.table) (pieces line_end l.rest)) × ReaderReady l.state (length l.rest) (length l.initial.store) (length l.initial.table)

abbrev pub decreases-loop-line : goal.decreases-loop-line
decreases-loop-line l = length l.rest
