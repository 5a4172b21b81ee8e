-- 01, Request: "96 bytes then aux and proof: `CKVR`, 1, 0, 96 (u16), algorithm, slot (u16), operation, profile, two zeros,
-- digest, key (32 bytes each), aux and proof lengths (u32), eight zeros." Its checks, and what its reader answers.
use Rattle.std.specs.Prelude.{ℕ, ◌+◌, List, [], ◌∷◌, ◌++◌, eqb, leb, length, Ok, Result}
use Rattle.protocol.specs.declared.error.ProtocolError.{ProtocolError}
use Rattle.protocol.specs.Policy.{is_operation}
use Rattle.protocol.specs.Rows.{Row, row, ◌then◌, decide, Check}
use Rattle.protocol.specs.declared.error.ProtocolError.TheVariants.{InvalidRequest, InvalidOperation, UnsupportedVersion}
use Rattle.verifier_request.specs.Fields.{request_magic_of, request_abi_of, request_reserved_of, request_header_length_of, request_algorithm_of, request_slot_of, request_operation_of, request_profile_of, request_zeros_of, request_digest_offset, request_key_offset, request_aux_length_of, request_proof_length_of, request_last_zeros_of, request_size}
use Rattle.verifier_request.specs.declared.reader.RequestFields.{RequestFields}

-- `CKVR`, as a number
abbrev pub request_magic : ℕ
request_magic = 0x52564b43

-- 01, Request: "Order: length 96 to 69,728 (35), magic (35), ABI (32), byte 5 and header length (35)"
unfoldable pub request_header_rows : List ℕ → List Row
request_header_rows s =
    row (leb 96 (length s)) InvalidRequest
    ∷ row (leb (length s) 69728) InvalidRequest
    ∷ row (eqb (request_magic_of s) request_magic) InvalidRequest
    ∷ row (eqb (request_abi_of s) 1) UnsupportedVersion
    ∷ row (eqb (request_reserved_of s) 0) InvalidRequest
    ∷ row (eqb (request_header_length_of s) 96) InvalidRequest
    ∷ []

-- "operation (37), zeros (35), aux above 4,096 or proof above 65,536 (35), total (35)."
unfoldable pub request_field_rows : List ℕ → List Row
request_field_rows s =
    row (is_operation (request_operation_of s)) InvalidOperation
    ∷ row (eqb (request_zeros_of s) 0) InvalidRequest
    ∷ row (eqb (request_last_zeros_of s) 0) InvalidRequest
    ∷ row (leb (request_aux_length_of s) 4096) InvalidRequest
    ∷ row (leb (request_proof_length_of s) 65536) InvalidRequest
    ∷ row (eqb (request_size (request_aux_length_of s) (request_proof_length_of s)) (length s)) InvalidRequest
    ∷ []

unfoldable pub request_rows : List ℕ → List Row
request_rows s = request_header_rows s ++ request_field_rows s

unfoldable pub request_fault : List ℕ → Check
request_fault s = decide (Ok tt) (request_rows s)

-- the fields, and the places of the parts
unfoldable pub request_fields_of : List ℕ → RequestFields
request_fields_of s =
    record {
      algorithm_id = request_algorithm_of s;
      slot = request_slot_of s;
      operation = request_operation_of s;
      verifier_profile = request_profile_of s;
      authorization_digest = request_digest_offset;
      key_id = request_key_offset;
      aux = 96;
      aux_len = request_aux_length_of s;
      proof = 96 + request_aux_length_of s;
      proof_len = request_proof_length_of s;
    }

unfoldable pub read_request : List ℕ → Result RequestFields ProtocolError
read_request s = request_fault s then Ok (request_fields_of s)
