-- `scene_line::fields::check_fields` meets its contract: what the fields so far and the rest give is what all give. Assumes
-- nothing.
use Rattle.std.proofs.Common.{◌≡◌, ◌+◌, true, length, drop}
use Rattle.text.specs.Text.{pieces, comma}
use Rattle.scene_line.specs.Line.{forms_ok, line_bytes}
use Rattle.scene_line.proofs.fields.check_fields.Given as goal

abbrev pub invariant-loop-field : goal.invariant-loop-field
invariant-loop-field l = (forms_ok true l.fn.first (pieces comma l.fields) ≡ forms_ok l.bare l.form (drop (length l.yielded) (pieces comma l.fields)))
    × (l.bytes + length (line_bytes l.form (drop (length l.yielded) (pieces comma l.fields))) ≡ length (line_bytes l.fn.first (pieces comma l.fields)))
