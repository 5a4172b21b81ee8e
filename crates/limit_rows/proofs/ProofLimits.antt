-- `proof-limits` (specs/ProofLimits): each row computed from the definitions. Assumes nothing.
use Rattle.std.specs.Prelude.{refl}
use Rattle.octets.specs.Le.{to_le, from_le, number_at}
use Rattle.octets.specs.Lists.{same, every, tabulate, array_of}
use Rattle.octets.specs.Places.{bytes_at}
use Rattle.octets.specs.Layout.{layout_bytes}
use Rattle.protocol.specs.Rows.{◌▷◌, decide}
use Rattle.protocol.specs.Policy.{is_operation, capability_for, has_capability}
use Rattle.account_witness.specs.Header.{witness_header_rows}
use Rattle.verifier_request.specs.Reading.{request_head, request_lengths, request_bytes}
use Rattle.molecule.specs.Table3.{table_rows, between, field1}
use Rattle.molecule.specs.Bytes.{bytes_rows, bytes_place_from, witness_lock_rows, read_witness_lock, bytes_in}
use Rattle.scene_table.specs.Places.{verdict_at}
use Rattle.cell_search.specs.Search.{cell_hash, matching, matches, no_cell}
use Rattle.group_sighash.specs.Witnesses.{group_witnesses, group_of, head_of, first_witness, other_witnesses, lock_in, count_rows, first_witness_rows, witness_fits}
use Rattle.quorum.specs.Slots.{known_slot, no_entry, entry_for}
use Rattle.quorum.specs.Operation.{has_bit, capable, threshold_of}
use Rattle.decision.specs.Proofs.{verifier_field, verifiers, request_limit_rows, authenticator_rows, proof_rows, request_content, request_of}
use Rattle.decision.specs.Walk.{verdict, approved_weight, last_rows, unless_failed, walk_from}
use Rattle.capacity.specs.Capacity.{total_rows, fee_for}
use Rattle.limit_rows.specs.StateLimits.{head_places}
use Rattle.limit_rows.specs.WitnessLimits.{witness_front}
use Rattle.limit_rows.specs.MoleculeLimits.{table_with}
use Rattle.limit_rows.specs.ProofLimits.{ProofLimits}

pub proof-limits : ProofLimits
unfolding to_le from_le number_at same every tabulate bytes_at decide is_operation capability_for has_capability witness_header_rows table_rows between field1 bytes_rows bytes_place_from witness_lock_rows read_witness_lock bytes_in verdict_at cell_hash matching matches no_cell group_witnesses group_of head_of first_witness other_witnesses lock_in count_rows first_witness_rows witness_fits threshold_of has_bit capable verifier_field verifiers request_limit_rows authenticator_rows proof_rows request_content request_of known_slot no_entry entry_for verdict approved_weight unless_failed walk_from array_of layout_bytes request_head request_lengths request_bytes last_rows total_rows fee_for head_places witness_front table_with
proof-limits =
    record {
      witness-132096 = λ rest h. rw h;
      witness-132097 = λ rest h. rw h;
      other-132096 = λ w h. rw h;
      other-132097 = λ w h. rw h;
      first-witness = refl;
      other-witnesses = refl;
      thresholds = refl;
      spend = refl;
      rotate = refl;
      recovery = refl;
      by-type = refl;
      by-data = refl;
      several = refl;
      proof-limit = refl;
      request-limit = refl;
      room = refl;
      digits = refl;
      approved = refl;
      failed = refl;
      unknown = refl;
      request = refl;
      last = refl;
      totals = refl;
      fee = refl;
      shown = refl;
    }
