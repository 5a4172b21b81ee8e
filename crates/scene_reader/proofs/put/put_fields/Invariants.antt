-- `scene_reader::put::put_fields` meets its contract: what is left to put down gives the whole. Assumes nothing.
use Rattle.std.proofs.Common.{◌≡◌, ◌+◌, ◌≤◌, length, drop}
use Rattle.std.proofs.lemmas.List.Edits.{sets}
use Rattle.octets.specs.Lists.{joined}
use Rattle.text.specs.Text.{pieces, comma}
use Rattle.scene_line.specs.Line.{line_bytes, line_entries}
use Rattle.scene_reader.proofs.put.put_fields.Given as goal

abbrev pub invariant-loop-field : goal.invariant-loop-field
invariant-loop-field l = (l.at + length (joined (drop (length l.yielded) (pieces comma l.fields))) ≤ l.used + length l.fields)
    × (length (joined (drop (length l.yielded) (pieces comma l.fields))) ≤ length l.fields)
    × (l.entry + length (line_entries l.form (drop (length l.yielded) (pieces comma l.fields))) ≡ l.filled + length (line_entries l.fn.first (pieces comma l.fields)))
    × (sets l.fn.store l.used (line_bytes l.fn.first (pieces comma l.fields)) ≡ sets l.store l.at (line_bytes l.form (drop (length l.yielded) (pieces comma l.fields))))
    × (sets l.fn.table l.filled (line_entries l.fn.first (pieces comma l.fields)) ≡ sets l.table l.entry (line_entries l.form (drop (length l.yielded) (pieces comma l.fields))))
