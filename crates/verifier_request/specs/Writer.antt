-- What the writer of a request answers and leaves: 01, "Then writers refuse as in the Rust, then with 5 if the buffer is short".
use Rattle.std.specs.Prelude.{ℕ, List, [], ◌∷◌, leb, length, Result}
use Rattle.protocol.specs.declared.error.ProtocolError.{ProtocolError}
use Rattle.protocol.specs.Policy.{is_operation}
use Rattle.protocol.specs.Rows.{Row, row, Check}
use Rattle.protocol.specs.Write.{write_fault, write_answer, after_write}
use Rattle.protocol.specs.declared.error.ProtocolError.TheVariants.{InvalidRequest, InvalidOperation}
use Rattle.verifier_request.specs.Fields.{request_size}
use Rattle.verifier_request.specs.Reading.{RequestReading, request_bytes}

-- 01: "Operation outside 1 to 3 is 37 in them."; Request: "aux above 4,096 or proof above 65,536 (35)"
unfoldable pub request_writer_limit_rows : ℕ → ℕ → ℕ → List Row
request_writer_limit_rows operation aux proof =
    row (is_operation operation) InvalidOperation
    ∷ row (leb aux 4096) InvalidRequest
    ∷ row (leb proof 65536) InvalidRequest
    ∷ []

unfoldable pub request_writer_rows : RequestReading → List Row
request_writer_rows r = request_writer_limit_rows r.operation (length r.aux) (length r.proof)

-- the length of the written form
unfoldable pub request_total : RequestReading → ℕ
request_total r = request_size (length r.aux) (length r.proof)

-- what the writer's checks find, for a buffer of `room` bytes
unfoldable pub request_writer_fault : RequestReading → ℕ → Check
request_writer_fault r room = write_fault (request_writer_rows r) (request_total r) room

-- the writer's answer
unfoldable pub request_written : RequestReading → List ℕ → Result ℕ ProtocolError
request_written r out = write_answer (request_writer_fault r (length out)) (request_total r)

-- and the buffer afterwards
unfoldable pub request_stored : RequestReading → List ℕ → List ℕ
request_stored r out = after_write (request_writer_fault r (length out)) (request_bytes r) out
