-- Private: no public contract cites this file.
-- The checks of a state that its writer laid out: the writer's rows in their order, without those on the layout, said of what the
-- slices say. `written-checked` equates them with the writer's own rows.
use Rattle.std.specs.Prelude.{ℕ, ◌+◌, List, [], ◌∷◌, ◌++◌, leb, length}
use Rattle.protocol.specs.Rows.{Row, row}
use Rattle.protocol.specs.declared.error.ProtocolError.TheVariants.{InvalidState}
use Rattle.account_state.specs.Fields.{state_flags_known_mask}
use Rattle.account_state.specs.Reading.{EntryReading}
use Rattle.account_state.specs.State.{entry_field_rows, threshold_rows, summary_of}
use Rattle.account_state.specs.declared.entry.EntryFields.{EntryFields}
use Rattle.account_state_writer.specs.Writer.{aux_limit_rows}

unfoldable pub head_checks : ℕ → ℕ → List Row
head_checks flags count =
    row (leb flags state_flags_known_mask) InvalidState ∷ row (leb 1 count) InvalidState ∷ row (leb count 16) InvalidState ∷ []

-- the fields of an entry that its reading says
abbrev pub reading_fields : EntryReading → EntryFields
reading_fields e =
    record {
      algorithm_id = e.algorithm;
      capabilities = e.capabilities;
      weight = e.weight;
      verifier_hash_type = e.hash_type;
      verifier_abi = e.abi;
      key_len = length e.key;
      aux_len = length e.aux;
    }

unfoldable pub entry_checks : EntryReading → ℕ → List Row
entry_checks e least =
    row (leb least e.slot) InvalidState ∷ entry_field_rows (reading_fields e)

unfoldable pub entries_checks : List EntryReading → ℕ → List Row
entries_checks [] least = []
entries_checks (e ∷ es) least = entry_checks e least ++ entries_checks es (e.slot + 1)

unfoldable pub state_checks : ℕ → ℕ → ℕ → ℕ → ℕ → List EntryReading → List Row
state_checks flags spend rotate recovery since es =
    head_checks flags (length es)
    ++ (entries_checks es 0 ++ threshold_rows flags spend rotate recovery since (summary_of es))

-- those, then the limit
unfoldable pub written_checks : ℕ → ℕ → ℕ → ℕ → ℕ → List EntryReading → List Row
written_checks flags spend rotate recovery since es =
    state_checks flags spend rotate recovery since es ++ aux_limit_rows es
