-- `writer-limits` (specs/WriterLimits): each row computed from the definitions. Assumes nothing.
use Rattle.std.specs.Prelude.{refl}
use Rattle.octets.specs.Le.{to_le, from_le, number_at}
use Rattle.octets.specs.Lists.{every, joined, tabulate, is_rising, sum}
use Rattle.octets.specs.Layout.{layout_bytes}
use Rattle.protocol.specs.Rows.{◌▷◌, decide}
use Rattle.protocol.specs.Policy.{is_supported_algorithm, is_operation, has_capability}
use Rattle.protocol.specs.Write.{write_fault, write_answer, after_write}
use Rattle.account_state.specs.Reading.{entry_head_fields, entry_length_fields, entry_bytes, entries_bytes, state_header_fields, state_head, state_bytes, entry_of, entries_of, capable_share, capable_weight}
use Rattle.account_state.specs.State.{state_header_rows, entry_layout_rows, entry_field_rows, original_entry_rows, behind_entries, recovery_threshold_rows, threshold_rows, state_end_rows, summary_of, state_tail_rows}
use Rattle.account_state_writer.specs.Slices.{lent_count}
use Rattle.account_state_writer.specs.Writer.{entry_from, entries_from, needed_bytes, state_total, slice_rows, original_entries_rows, original_state_rows, aux_limit_rows, written_rows, state_writer_rows, state_from, state_written, state_stored}
use Rattle.account_witness.specs.Header.{witness_header_fields}
use Rattle.account_witness.specs.Reading.{proof_fields, proof_bytes, proofs_bytes, witness_bytes}
use Rattle.account_witness_writer.specs.Writer.{lent_proofs, witness_from, lent_proof_rows, witness_writer_rows, witness_writer_fault, witness_written, witness_stored}
use Rattle.limit_rows.specs.WriterLimits.{WriterLimits, slice_numbers, slice_bytes, sliced_state}

pub writer-limits : WriterLimits
unfolding to_le from_le number_at every joined tabulate layout_bytes decide is_supported_algorithm is_operation has_capability write_fault write_answer after_write entry_head_fields entry_length_fields entry_bytes entries_bytes state_header_fields state_head state_bytes entry_of entries_of capable_share capable_weight state_header_rows entry_layout_rows entry_field_rows original_entry_rows behind_entries recovery_threshold_rows threshold_rows state_end_rows summary_of state_tail_rows lent_count entry_from entries_from needed_bytes state_total slice_rows original_entries_rows original_state_rows aux_limit_rows written_rows state_writer_rows state_from state_written state_stored witness_header_fields proof_fields proof_bytes proofs_bytes witness_bytes sum lent_proofs witness_from is_rising lent_proof_rows witness_writer_rows witness_writer_fault witness_written witness_stored slice_numbers slice_bytes sliced_state
writer-limits =
    record {
      state = refl;
      sessions = refl;
      room = refl;
      aux = refl;
      disagree = refl;
      state-16384 = λ bytes h. rw h;
      state-16385 = λ bytes h. rw h;
      witness = refl;
      operations = refl;
      counts = refl;
      witness-131072 = λ bytes h. rw h;
      witness-131073 = λ bytes h. rw h;
    }
