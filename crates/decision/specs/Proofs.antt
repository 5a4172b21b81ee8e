-- One proof: the rows that it passes before its request is made, and the request.
use Rattle.std.specs.Prelude.{ℕ, ◌-◌, ◌≡◌, true, cond, List, [], ◌∷◌, ◌++◌, length, get_or, eqb, leb}
use Rattle.octets.specs.Lists.{array_of}
use Rattle.protocol.specs.Rows.{Row, row}
use Rattle.protocol.specs.declared.error.ProtocolError.TheVariants.{InvalidWitness, InvalidCapability, InvalidVerifierRef, InvalidRequest, LengthOverflow, BufferTooShort}
use Rattle.account_state.specs.Reading.{EntryReading, state_entries}
use Rattle.quorum.specs.Slots.{known_slot, entry_for}
use Rattle.quorum.specs.Operation.{capable, threshold_of}
use Rattle.account_witness.specs.Reading.{ProofReading}
use Rattle.verifier_request.specs.Fields.{request_size}
use Rattle.verifier_request.specs.Reading.{RequestReading, request_with, request_bytes}
use Rattle.scene_table.specs.Scene.{Cell}
use Rattle.cell_search.specs.declared.cells.CellField.{CellField}
use Rattle.cell_search.specs.declared.cells.CellField.TheVariants.{TypeHash, DataHash}
use Rattle.cell_search.specs.Search.{matches}

-- what is settled before the first proof: the current state's entries, the deps, the verdicts' digits, the operation and its
-- threshold, the digest, and the length of the answer buffer
pub record Context : Type 0 where
  pub entries : List EntryReading
  pub deps : List Cell
  pub digits : List ℕ
  pub operation : ℕ
  pub threshold : ℕ
  pub digest : List ℕ
  pub room : ℕ

-- what the bytes of the current state settle, beside the scene's deps and digits
unfoldable pub context_for : List ℕ → List Cell → List ℕ → ℕ → List ℕ → ℕ → Context
context_for state deps digits operation digest room =
    record {
      entries = state_entries state;
      deps = deps;
      digits = digits;
      operation = operation;
      threshold = threshold_of operation state;
      digest = digest;
      room = room;
    }

-- 01, each entry: "0 names a dep by data hash, 1 by type hash"
unfoldable pub verifier_field : ℕ → CellField
verifier_field hash_type = cond (eqb hash_type 0) DataHash TypeHash

unfoldable pub verifiers : EntryReading → List Cell → List ℕ
verifiers e deps = matches (verifier_field e.hash_type) e.code_hash deps

-- 01, main.rs: "In the lock a request of above 69,728 bytes is 39, tested before aux above 4,096 (35); a proof above 65,536 is 35
-- before either."
abbrev pub long_proof_row : ℕ → Row
long_proof_row proof = row (leb proof 65536) InvalidRequest

abbrev pub long_request_row : ℕ → ℕ → Row
long_request_row aux proof = row (leb (request_size aux proof) 69728) LengthOverflow

abbrev pub long_aux_row : ℕ → Row
long_aux_row aux = row (leb aux 4096) InvalidRequest

-- these, and "answer buffer too short for this request", 5, where `left` bytes of it are left
unfoldable pub request_limit_rows : ℕ → ℕ → ℕ → List Row
request_limit_rows aux proof left =
    long_proof_row proof
    ∷ long_request_row aux proof
    ∷ long_aux_row aux
    ∷ row (leb (request_size aux proof) left) BufferTooShort
    ∷ []

-- 01, "Where each refusal is raised": "each proof: .. slot unknown", 22; "capability", 29; "verifier none or several", 30; "request",
-- 35, 39; "answer buffer too short for this request", 5
unfoldable pub authenticator_rows : ℕ → List Cell → EntryReading → ℕ → ℕ → List Row
authenticator_rows operation deps e proof left =
    row (capable operation e.capabilities) InvalidCapability
    ∷ row (eqb (length (verifiers e deps)) 1) InvalidVerifierRef
    ∷ request_limit_rows (length e.aux) proof left

unfoldable pub proof_rows : Context → ℕ → ProofReading → List Row
proof_rows c used p =
    row (known_slot p.slot c.entries) InvalidWitness
    ∷ authenticator_rows c.operation c.deps (entry_for p.slot c.entries) (length p.bytes) (c.room - used)

-- 02, change 6: "The lock's 39 for a long request then never occurs": a proof's rows for 39 and for an aux above 4,096 pass
pub record WithinLimits (c : Context) (p : ProofReading) : Type 0 where
  pub request : (long_request_row (length (entry_for p.slot c.entries).aux) (length p.bytes)).test ≡ true
  pub aux : (long_aux_row (length (entry_for p.slot c.entries).aux)).test ≡ true

-- the request: its profile is the first byte of aux. 01, Request: "digest, key (32 bytes each)": a key in its field of 32 bytes. A
-- state that passed its rows has keys of 32 bytes, and they stand there as they are
unfoldable pub request_content : ℕ → List ℕ → EntryReading → ProofReading → RequestReading
request_content operation digest e p =
    request_with e.algorithm p.slot operation (get_or e.aux 0 0) digest (array_of 32 e.key) e.aux p.bytes

unfoldable pub request_of : Context → ProofReading → List ℕ
request_of c p = request_bytes (request_content c.operation c.digest (entry_for p.slot c.entries) p)

unfoldable pub requests_of : Context → List ProofReading → List ℕ
requests_of c [] = []
requests_of c (p ∷ ps) = request_of c p ++ requests_of c ps
