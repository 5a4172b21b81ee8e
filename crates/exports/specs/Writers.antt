-- What the exported writers answer and leave where they do more than the writer they call, and the promise of each: the
-- writer's number, the buffer, and in `len` the length that it wrote.
use Rattle.std.specs.Prelude.{ℕ, List, [], ◌∷◌, length, Err, Ok, Result}
use Rattle.protocol.specs.declared.error.ProtocolError.{ProtocolError}
use Rattle.protocol.specs.Rows.{Check, ◌then◌}
use Rattle.protocol.specs.Args.{args_bytes}
use Rattle.protocol.specs.Write.{write_fault, write_answer, after_write}
use Rattle.export_answers.specs.Lent.{size_row, sizes_fault}
use Rattle.export_answers.specs.Stored.{Writes}
use Rattle.account_state_writer.specs.Writer.{state_from, state_written, state_stored}
use Rattle.account_witness_writer.specs.Writer.{witness_written, witness_stored}
use Rattle.public_key_proof.specs.Reading.{PublicKeyProofReading}
use Rattle.public_key_proof.specs.Writer.{public_key_proof_written, public_key_proof_stored}
use Rattle.verifier_request.specs.Reading.{RequestReading}
use Rattle.verifier_request.specs.Writer.{request_written, request_stored}

-- the args: 33 bytes
unfoldable pub args_writer_fault : List ℕ → ℕ → Check
args_writer_fault account room = write_fault (size_row account ∷ []) 33 room

unfoldable pub args_written : List ℕ → List ℕ → Result ℕ ProtocolError
args_written account out = write_answer (args_writer_fault account (length out)) 33

unfoldable pub args_stored : List ℕ → List ℕ → List ℕ
args_stored account out = after_write (args_writer_fault account (length out)) (args_bytes account) out

abbrev pub WritesArgs : List ℕ → List ℕ → ℕ → ℕ → List ℕ → ℕ → Type 0
WritesArgs account out len r after len_after = Writes (args_written account out) (args_stored account out) len r after len_after

abbrev pub WritesState : ℕ → ℕ → ℕ → ℕ → ℕ → ℕ → List ℕ → List ℕ → List ℕ → ℕ → ℕ → List ℕ → ℕ → Type 0
WritesState flags sequence spend rotate recovery since fields bytes out len r after len_after =
    let state = state_from flags sequence spend rotate recovery since fields bytes in
    Writes (state_written state fields bytes out) (state_stored state fields bytes out) len r after len_after

abbrev pub WritesWitness : ℕ → ℕ → List ℕ → List ℕ → List ℕ → List ℕ → ℕ → ℕ → List ℕ → ℕ → Type 0
WritesWitness operation sequence slots lengths bytes out len r after len_after =
    Writes (witness_written operation slots lengths bytes out) (witness_stored operation sequence slots lengths bytes out) len r after len_after

abbrev pub WritesPublicKeyProof : PublicKeyProofReading → List ℕ → ℕ → ℕ → List ℕ → ℕ → Type 0
WritesPublicKeyProof p out len r after len_after =
    Writes (public_key_proof_written p out) (public_key_proof_stored p out) len r after len_after

-- the request: digest and key are tested before the writer's own refusals
unfoldable pub buffer_after : Check → List ℕ → List ℕ → List ℕ
buffer_after (Ok _) stored out = stored
buffer_after (Err e) stored out = out

unfoldable pub lent_written : RequestReading → List ℕ → Result ℕ ProtocolError
lent_written r out = sizes_fault r.digest r.key then request_written r out

unfoldable pub lent_stored : RequestReading → List ℕ → List ℕ
lent_stored r out = buffer_after (sizes_fault r.digest r.key) (request_stored r out) out

abbrev pub WritesRequest : RequestReading → List ℕ → ℕ → ℕ → List ℕ → ℕ → Type 0
WritesRequest q out len r after len_after = Writes (lent_written q out) (lent_stored q out) len r after len_after
