-- The scene reader: what a line puts down, the rows of a line and of a scene, and what the reader answers and leaves.
use Rattle.std.specs.Prelude.{ℕ, ◌+◌, true, cond, not, List, [], ◌∷◌, ◌++◌, length, set, replicate, leb, eqb, Err, Ok, Option, Some}
use Rattle.std.proofs.lemmas.List.Edits.{sets}
use Rattle.protocol.specs.Rows.{Row, row, decide, Check}
use Rattle.protocol.specs.declared.error.ProtocolError.{ProtocolError}
use Rattle.protocol.specs.declared.error.ProtocolError.TheVariants.{SceneTooLong, InvalidLine, InvalidField, TooManyLines, StoreTooShort}
use Rattle.text.specs.Text.{pieces, comma, line_end}
use Rattle.scene_line.specs.declared.kind.Kind.{Kind}
use Rattle.scene_line.specs.Line.{forms_ok, line_bytes, line_entries}
use Rattle.scene_line.specs.Kind.{rank, first_form, line_kind, line_fields}
use Rattle.protocol.specs.Limits.{scene_max_length, table_min_entries, kind_max_lines}
use Rattle.scene_line.specs.declared.kind.Kind.TheVariants.{Verdicts}

-- 01: "Lines are tested one by one": what is held between two lines. The rank of the last kind and how many lines of it were
-- read, the store with its count of bytes, the table with its count of entries
pub record ReaderState : Type 0 where
  pub last : ℕ
  pub seen : ℕ
  pub used : ℕ
  pub filled : ℕ
  pub store : List ℕ
  pub table : List ℕ

-- a refusal, or what is held
pub data ReaderOutcome : Type 0 where
  reader_refuses : ProtocolError → ReaderOutcome
  reader_holds : ReaderState → ReaderOutcome

-- how many lines of kind k were read, with this one
abbrev pub seen_with : ℕ → ℕ → ℕ → ℕ
seen_with last seen k = cond (eqb k last) (seen + 1) 1

-- 01: "The reader puts the bytes of all hexadecimal fields end to end into a lent store, the rest into a lent u32 table": a line
-- put down. Its kind's count stands at the table's entry `rank k`; after the table's entries the offset of its bytes in the
-- store and its numbers; after the store's bytes its bytes
unfoldable pub line_put_as : ReaderState → Option Kind → List (List ℕ) → ReaderState
line_put_as h k fs = record {
  last = rank k;
  seen = seen_with h.last h.seen (rank k);
  used = h.used + length (line_bytes (first_form k) fs);
  filled = h.filled + 1 + length (line_entries (first_form k) fs);
  store = sets h.store h.used (line_bytes (first_form k) fs);
  table = sets (set h.table (rank k) (seen_with h.last h.seen (rank k))) h.filled (h.used ∷ line_entries (first_form k) fs);
}

-- 01, "Where each refusal is raised", the line rows, of a line of kind k with the fields fs: "kind, order, field count", 2, where
-- the kind has no rank; "65th of a kind", 4; "a field's form, or just one of TYPEHASH and TYPESCRIPT empty", 3; "store too short
-- for the field", 6
unfoldable pub line_rows : ReaderState → Option Kind → List (List ℕ) → List Row
line_rows h k fs =
    row (not (eqb (rank k) 0)) InvalidLine
    ∷ row (leb (seen_with h.last h.seen (rank k)) kind_max_lines) TooManyLines
    ∷ row (forms_ok true (first_form k) fs) InvalidField
    ∷ row (leb (h.used + length (line_bytes (first_form k) fs)) (length h.store)) StoreTooShort
    ∷ []

-- the line rows of a line of the text, by its word and its fields
unfoldable pub rows_of_line : ReaderState → List ℕ → List Row
rows_of_line h line = line_rows h (line_kind h.last (pieces comma line)) (line_fields (pieces comma line))

-- what is held once it is put down
unfoldable pub line_put : ReaderState → List ℕ → ReaderState
line_put h line = line_put_as h (line_kind h.last (pieces comma line)) (line_fields (pieces comma line))

-- 01: "ending, or a needed line missing", 2; "A needed line is missing at the line that stands in its place, or at the end of the
-- scene": nothing follows the last line's ending, and verdicts was read
unfoldable pub scene_end_rows : ReaderState → List ℕ → List Row
scene_end_rows h rest = row (eqb (length rest) 0) InvalidLine ∷ row (eqb h.last (rank (Some Verdicts))) InvalidLine ∷ []

-- 01: "Lines are tested one by one, each through the line rows below in their order, a row over all fields of the line before the
-- next row": the rows of all lines, each line's over what is held once those before it are put down; the last piece, and a text has
-- at least one, is what follows the last ending
unfoldable pub lines_rows : ReaderState → List (List ℕ) → List Row
lines_rows h [] = scene_end_rows h []
lines_rows h (l ∷ []) = scene_end_rows h l
lines_rows h (l ∷ m ∷ ls) = rows_of_line h l ++ lines_rows (line_put h l) (m ∷ ls)

-- what is held once all lines are put down
unfoldable pub lines_put : ReaderState → List (List ℕ) → ReaderState
lines_put h [] = h
lines_put h (l ∷ []) = h
lines_put h (l ∷ m ∷ ls) = lines_put (line_put h l) (m ∷ ls)

-- the refusal that rows found, or else what is held after them
abbrev pub outcome_after : Check → ReaderState → ReaderOutcome
outcome_after (Err e) h = reader_refuses e
outcome_after (Ok _) h = reader_holds h

-- what the lines alone give, the reader's own two rows aside
unfoldable pub lines_outcome : ReaderState → List (List ℕ) → ReaderOutcome
lines_outcome h ls = outcome_after (decide (Ok tt) (lines_rows h ls)) (lines_put h ls)

-- the table's entry where the first line's record begins: its first eight entries are for the counts of the kinds
abbrev pub first_record_at : ℕ
first_record_at = 8

-- 01: "both are zeroed first": a store of n bytes and a table of m entries
unfoldable pub reader_start : ℕ → ℕ → ReaderState
reader_start n m = record { last = 0; seen = 0; used = 0; filled = first_record_at; store = replicate n 0; table = replicate m 0 }

-- 01: "reader: above 1,048,576 bytes", 1; "reader: table below 2,048 entries", 6
unfoldable pub scene_limit_rows : List ℕ → ℕ → List Row
scene_limit_rows scene m = row (leb (length scene) scene_max_length) SceneTooLong ∷ row (leb table_min_entries m) StoreTooShort ∷ []

-- 01, "Where each refusal is raised": the reader rows, then the line rows
unfoldable pub scene_rows : List ℕ → ℕ → ℕ → List Row
scene_rows scene n m = scene_limit_rows scene m ++ lines_rows (reader_start n m) (pieces line_end scene)

-- what the reader finds, with a store of n bytes and a table of m entries: the first row that fails refuses the scene
unfoldable pub read_of : List ℕ → ℕ → ℕ → ReaderOutcome
read_of scene n m = outcome_after (decide (Ok tt) (scene_rows scene n m)) (lines_put (reader_start n m) (pieces line_end scene))

-- the same with a store and a table as long as these
abbrev pub read_into : List ℕ → List ℕ → List ℕ → ReaderOutcome
read_into scene store table = read_of scene (length store) (length table)

-- what the reader answers
abbrev pub reader_check : ReaderOutcome → Check
reader_check (reader_refuses e) = Err e
reader_check (reader_holds h) = (Ok tt)

-- 01: "both are zeroed first, and are all zero after a refusal": the store of n bytes afterwards
abbrev pub reader_store : ℕ → ReaderOutcome → List ℕ
reader_store n (reader_refuses e) = replicate n 0
reader_store n (reader_holds h) = h.store

-- the table of m entries afterwards
abbrev pub reader_table : ℕ → ReaderOutcome → List ℕ
reader_table m (reader_refuses e) = replicate m 0
reader_table m (reader_holds h) = h.table
