-- The writer of witness locks. Proofs are lent as slices: a slot and a length for each, and the bytes of all proofs end to end.
use Rattle.std.specs.Prelude.{ℕ, ◌+◌, ◌*◌, ◌^◌, ◌<◌, List, [], ◌∷◌, map, leb, eqb, length, take, drop, Result}
use Rattle.protocol.specs.declared.error.ProtocolError.{ProtocolError}
use Rattle.octets.specs.Le.{Bytes}
use Rattle.octets.specs.Lists.{every, is_rising, sum, joined}
use Rattle.protocol.specs.Policy.{is_operation}
use Rattle.protocol.specs.Rows.{Row, row, Check}
use Rattle.protocol.specs.Write.{write_fault, write_answer, after_write}
use Rattle.protocol.specs.declared.error.ProtocolError.TheVariants.{SlicesDisagree, InvalidOperation, InvalidWitness}
use Rattle.account_witness.specs.Fields.{witness_header_length, proof_header_length}
use Rattle.account_witness.specs.Reading.{ProofReading, WitnessReading, WitnessTyped, witness_bytes}

-- the proofs that the slices lend: each takes its length of the bytes that are left
unfoldable pub lent_proofs : List ℕ → List ℕ → List ℕ → List ProofReading
lent_proofs [] lengths bytes = []
lent_proofs (slot ∷ slots) [] bytes = []
lent_proofs (slot ∷ slots) (len ∷ lengths) bytes =
    record { slot = slot; bytes = take len bytes } ∷ lent_proofs slots lengths (drop len bytes)

unfoldable pub witness_from : ℕ → ℕ → List ℕ → List ℕ → List ℕ → WitnessReading
witness_from operation sequence slots lengths bytes =
    record { operation = operation; sequence = sequence; proofs = lent_proofs slots lengths bytes }

-- the length of the written form
abbrev pub witness_total : List ℕ → List ℕ → ℕ
witness_total slots bytes = witness_header_length + (proof_header_length * length slots + length bytes)

-- 01, Proof and Witness lock: "length (u32, not 0)", "16 to 131,072 bytes", "slots rise strictly"
unfoldable pub lent_proof_rows : List ℕ → List ℕ → List ℕ → List Row
lent_proof_rows slots lengths bytes =
    row (every (leb 1) lengths) InvalidWitness
    ∷ row (leb (witness_total slots bytes) 131072) InvalidWitness
    ∷ row (is_rising 0 slots) InvalidWitness
    ∷ []

-- 01: "slices that don't agree with each other are 7, before all else. Then writers refuse as in the Rust"; "Operation outside
-- 1 to 3 is 37 in them."
unfoldable pub witness_writer_rows : ℕ → List ℕ → List ℕ → List ℕ → List Row
witness_writer_rows operation slots lengths bytes =
    row (eqb (length slots) (length lengths)) SlicesDisagree
    ∷ row (eqb (sum lengths) (length bytes)) SlicesDisagree
    ∷ row (is_operation operation) InvalidOperation
    ∷ row (leb (length slots) 16) InvalidWitness
    ∷ lent_proof_rows slots lengths bytes

-- 01: "then with 5 if the buffer is short"
unfoldable pub witness_writer_fault : ℕ → List ℕ → List ℕ → List ℕ → ℕ → Check
witness_writer_fault operation slots lengths bytes room =
    write_fault (witness_writer_rows operation slots lengths bytes) (witness_total slots bytes) room

-- what the writer answers, and the buffer afterwards
unfoldable pub witness_written : ℕ → List ℕ → List ℕ → List ℕ → List ℕ → Result ℕ ProtocolError
witness_written operation slots lengths bytes out =
    write_answer (witness_writer_fault operation slots lengths bytes (length out)) (witness_total slots bytes)

unfoldable pub witness_stored : ℕ → ℕ → List ℕ → List ℕ → List ℕ → List ℕ → List ℕ
witness_stored operation sequence slots lengths bytes out =
    after_write (witness_writer_fault operation slots lengths bytes (length out)) (witness_bytes (witness_from operation sequence slots lengths bytes)) out

-- the slices that lend these proofs, beside their slots
unfoldable pub proof_lengths : List ProofReading → List ℕ
proof_lengths ps = map (λ (p : ProofReading). length p.bytes) ps

unfoldable pub proofs_payload : List ProofReading → List ℕ
proofs_payload ps = joined (map (λ (p : ProofReading). p.bytes) ps)

-- what a reading lends the writer are values of the types of its parameters: u8, u64, as many u16 slots and u32 lengths as there are
-- proofs, and bytes whose count a usize holds
pub record WitnessFits (r : WitnessReading) : Type 0 where
  pub typed : WitnessTyped r
  pub bytes : Bytes (proofs_payload r.proofs)
  pub count : length (proofs_payload r.proofs) < 2 ^ 64
