-- What the writer of a public-key proof answers and leaves: 01, "Then writers refuse as in the Rust, then with 5 if the buffer
-- is short".
use Rattle.std.specs.Prelude.{ℕ, ◌+◌, List, [], ◌∷◌, leb, ltb, length, Result}
use Rattle.protocol.specs.declared.error.ProtocolError.{ProtocolError}
use Rattle.protocol.specs.Rows.{Row, row, Check}
use Rattle.protocol.specs.Write.{write_fault, write_answer, after_write}
use Rattle.protocol.specs.declared.error.ProtocolError.TheVariants.{InvalidProof, LengthOverflow}
use Rattle.public_key_proof.specs.Reader.{public_key_offset}
use Rattle.public_key_proof.specs.Reading.{PublicKeyProofReading, public_key_proof_bytes}

-- 01, Public-key proof: "both not 0"; host: "The public-key proof writer gives 39 where a part exceeds 65,535 bytes." The Rust
-- tests for an empty part first.
unfoldable pub public_key_proof_writer_rows : PublicKeyProofReading → List Row
public_key_proof_writer_rows r =
    row (ltb 0 (length r.public_key)) InvalidProof
    ∷ row (ltb 0 (length r.signature)) InvalidProof
    ∷ row (leb (length r.public_key) 65535) LengthOverflow
    ∷ row (leb (length r.signature) 65535) LengthOverflow
    ∷ []

-- the length of the written form
unfoldable pub public_key_proof_total : PublicKeyProofReading → ℕ
public_key_proof_total r = public_key_offset + length r.public_key + length r.signature

-- what the writer's checks find, for a buffer of `room` bytes
unfoldable pub public_key_proof_writer_fault : PublicKeyProofReading → ℕ → Check
public_key_proof_writer_fault r room = write_fault (public_key_proof_writer_rows r) (public_key_proof_total r) room

-- the writer's answer
unfoldable pub public_key_proof_written : PublicKeyProofReading → List ℕ → Result ℕ ProtocolError
public_key_proof_written r out = write_answer (public_key_proof_writer_fault r (length out)) (public_key_proof_total r)

-- and the buffer afterwards
unfoldable pub public_key_proof_stored : PublicKeyProofReading → List ℕ → List ℕ
public_key_proof_stored r out = after_write (public_key_proof_writer_fault r (length out)) (public_key_proof_bytes r) out
