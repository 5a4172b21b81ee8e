-- `witness-limits` (specs/WitnessLimits): each row computed from the definitions. Assumes nothing.
use Rattle.std.specs.Prelude.{refl}
use Rattle.octets.specs.Le.{from_le, number_at}
use Rattle.octets.specs.Lists.{tabulate}
use Rattle.protocol.specs.Rows.{◌▷◌, decide}
use Rattle.protocol.specs.Policy.{is_operation}
use Rattle.account_witness.specs.Header.{witness_header_rows, witness_header_of, read_witness_header}
use Rattle.account_witness.specs.Reading.{proof_given, proofs_of, witness_reading}
use Rattle.account_witness.specs.Walk.{proof_layout_rows, proof_at, proofs_layout_rows}
use Rattle.account_witness.specs.Witness.{witness_rows, witness_fault, read_witness}
use Rattle.limit_rows.specs.WitnessLimits.{WitnessLimits, witness_front, proof_with, proofs_up_to, witness_places}

pub witness-limits : WitnessLimits
unfolding from_le number_at tabulate decide is_operation witness_header_rows witness_header_of read_witness_header proof_given proofs_of witness_reading proof_layout_rows proof_at proofs_layout_rows witness_rows witness_fault read_witness witness_front proof_with proofs_up_to witness_places
witness-limits =
    record {
      of-15 = λ s h. rw h;
      of-16 = refl;
      of-131072 = λ rest h. rw h;
      of-131073 = λ rest h. rw h;
      letters = refl;
      versions = refl;
      operations = refl;
      byte-7 = refl;
      header-counts = refl;
      counts = refl;
      zeros = refl;
      empty = refl;
      high-length = refl;
      slots = refl;
      byte-behind = refl;
      places-read = refl;
      places = refl;
    }
