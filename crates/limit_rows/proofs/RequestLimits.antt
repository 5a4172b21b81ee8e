-- `request-limits` (specs/RequestLimits): each row computed from the definitions. Assumes nothing.
use Rattle.std.specs.Prelude.{refl}
use Rattle.octets.specs.Le.{to_le, from_le, number_at}
use Rattle.octets.specs.Lists.{tabulate}
use Rattle.protocol.specs.Rows.{◌▷◌, decide}
use Rattle.protocol.specs.Policy.{is_operation}
use Rattle.verifier_request.specs.Reader.{request_header_rows, request_field_rows, request_rows, request_fault, request_fields_of, read_request}
use Rattle.verifier_request.specs.Reading.{request_given, request_reading}
use Rattle.verifier_request.specs.Writer.{request_writer_limit_rows}
use Rattle.public_key_proof.specs.Reader.{public_key_proof_rows, public_key_proof_fault, public_key_proof_places, read_public_key_proof}
use Rattle.public_key_proof.specs.Reading.{public_key_proof_given, public_key_proof_reading}
use Rattle.public_key_proof.specs.Writer.{public_key_proof_writer_rows}
use Rattle.limit_rows.specs.RequestLimits.{RequestLimits, request_front, request_places}

pub request-limits : RequestLimits
unfolding to_le from_le number_at tabulate decide is_operation request_header_rows request_field_rows request_rows request_fault request_fields_of read_request request_given request_reading request_writer_limit_rows public_key_proof_rows public_key_proof_fault public_key_proof_places read_public_key_proof public_key_proof_given public_key_proof_reading public_key_proof_writer_rows request_front request_places
request-limits =
    record {
      of-95 = λ s h. rw h;
      of-96 = refl;
      of-69728 = λ rest h. rw h;
      of-69729 = λ s h. rw h;
      aux-4096 = λ rest h. rw h;
      aux-4097 = λ rest h. rw h;
      proof-65536 = λ rest h. rw h;
      proof-65537 = λ rest h. rw h;
      totals = refl;
      letters = refl;
      abi = refl;
      byte-5 = refl;
      header-length = refl;
      operations = refl;
      zeros = refl;
      places-read = refl;
      places = refl;
      written-operations = refl;
      written-lengths = refl;
      key-version = refl;
      key-empty = refl;
      key_more = refl;
      key-high = refl;
      key-places = refl;
      parts-65535 = λ key signature h k. rw (h, k);
      key-65536 = λ key h. rw h;
      signature-65536 = λ signature h. rw h;
    }
