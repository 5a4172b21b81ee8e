-- `marked-rows` (specs/MarkedRows): each row computed from the definitions. Assumes nothing.
use Rattle.std.specs.Prelude.{refl}
use Rattle.std.proofs.Common.{ap, inl}
use Rattle.octets.specs.Le.{to_le, from_le, number_at}
use Rattle.octets.specs.Lists.{joined}
use Rattle.octets.specs.Layout.{layout_bytes}
use Rattle.protocol.specs.Write.{write_fault, write_answer, after_write}
use Rattle.protocol.specs.declared.error.ProtocolError.TheVariants.{InvalidState}
use Rattle.molecule.specs.Molecule.{bytes_vector, offsets_from, head_size, table_head, table_bytes}
use Rattle.molecule.specs.Table3.{table_rows, between, field2, field3}
use Rattle.molecule.specs.Canonical.{canonical_of, canonical_room, canonical_written, canonical_stored}
use Rattle.protocol.specs.Rows.{◌▷◌, decide, check_number}
use Rattle.protocol.specs.Policy.{is_supported_algorithm, is_operation, has_capability}
use Rattle.protocol.specs.Args.{args_rows, read_args}
use Rattle.account_state.specs.Reading.{entry_of, entries_of, capable_share, capable_weight}
use Rattle.account_state.specs.State.{state_header_rows, entry_layout_rows, entry_field_rows, original_entry_rows, entry_rows, entries_rows, behind_entries, recovery_threshold_rows, threshold_rows, state_end_rows, state_tail_rows, state_rows, state_fault, state_header_of, summary_of, read_state}
use Rattle.account_state.proofs.Accepted.{state-refuses}
use Rattle.account_witness.specs.Header.{witness_header_rows, witness_header_of}
use Rattle.account_witness.specs.Walk.{proof_layout_rows, proofs_layout_rows}
use Rattle.account_witness.specs.Witness.{witness_rows, witness_fault, read_witness}
use Rattle.public_key_proof.specs.Reader.{public_key_proof_rows, public_key_proof_fault, public_key_proof_places, read_public_key_proof}
use Rattle.marked_rows.specs.MarkedRows.{MarkedRows, smallest_state, empty_witness, lock_of_one, lock_of_none}

pub marked-rows : MarkedRows
unfolding from_le number_at decide is_supported_algorithm is_operation has_capability args_rows read_args entry_of entries_of capable_share capable_weight state_header_rows entry_layout_rows entry_field_rows original_entry_rows entry_rows entries_rows behind_entries recovery_threshold_rows threshold_rows state_end_rows state_tail_rows state_rows state_fault state_header_of summary_of read_state witness_header_rows witness_header_of proof_layout_rows proofs_layout_rows witness_rows witness_fault read_witness public_key_proof_rows public_key_proof_fault public_key_proof_places read_public_key_proof smallest_state empty_witness to_le layout_bytes joined bytes_vector offsets_from head_size table_head table_bytes table_rows between field2 field3 canonical_of write_fault write_answer after_write canonical_room canonical_written canonical_stored lock_of_one lock_of_none
marked-rows =
    record {
      args-of-32 = λ s h. rw h;
      args-version = λ id h. rw h;
      state-of-31 = λ s h. ap check_number ((state-refuses s InvalidState).1 (inl (rw h, refl)));
      smallest = refl;
      smallest-length = refl;
      spend-2 = refl;
      version-2 = refl;
      since-1 = refl;
      flags-4 = refl;
      proof-read = refl;
      proof-short = refl;
      witness-empty = refl;
      witness-operation = refl;
      canonical = refl;
      canonical-bytes = refl;
    }
