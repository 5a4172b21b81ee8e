-- The fields of a line of a test's list, and their numbers: a line is cut at its commas, as a scene's is.
use Rattle.std.specs.Prelude.{ℕ, ◌+◌, ◌-◌, ◌^◌, List, [], length, drop, slice_index_or, None, Option, Some}
use Rattle.text.specs.Text.{pieces, comma}

unfoldable pub first_field : List ℕ → List ℕ
first_field line = slice_index_or (pieces comma line) 0 []

-- what follows the first field and its comma
unfoldable pub fields_after : List ℕ → List ℕ
fields_after line = drop (length (first_field line) + 1) line

-- a field's number; a bad field has the largest u64, which no answer has
abbrev pub field_number : Option ℕ → ℕ
field_number (Some v) = v
field_number None = 2 ^ 64 - 1
