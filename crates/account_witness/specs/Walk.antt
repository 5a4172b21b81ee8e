-- 01, Proof: "slot (u16), two zero bytes, length (u32, not 0), bytes; slots rise strictly; no byte follows the last; faults are 22."
use Rattle.std.specs.Prelude.{ℕ, zero, suc, ◌+◌, List, [], ◌∷◌, ◌++◌, leb, eqb, length, Ok, Result}
use Rattle.protocol.specs.declared.error.ProtocolError.{ProtocolError}
use Rattle.protocol.specs.Rows.{Row, row, ◌then◌, decide}
use Rattle.protocol.specs.declared.error.ProtocolError.TheVariants.{InvalidWitness}
use Rattle.account_witness.specs.Fields.{proof_count_of, witness_header_length, proof_slot_at, proof_reserved_at, proof_length_at, proof_header_length, proof_end_at}
use Rattle.account_witness.specs.declared.walk.Proof.{Proof}
use Rattle.account_witness.specs.declared.walk.ProofCursor.{ProofCursor}

-- the proof at `off`, whose slot is at least `least`: 8 bytes present, two zeros, its bytes present, not empty, its slot
unfoldable pub proof_layout_rows : List ℕ → ℕ → ℕ → List Row
proof_layout_rows s off least =
    row (leb (off + proof_header_length) (length s)) InvalidWitness
    ∷ row (eqb (proof_reserved_at s off) 0) InvalidWitness
    ∷ row (leb (proof_end_at s off) (length s)) InvalidWitness
    ∷ row (leb 1 (proof_length_at s off)) InvalidWitness
    ∷ row (leb least (proof_slot_at s off)) InvalidWitness
    ∷ []

unfoldable pub proof_at : List ℕ → ℕ → Proof
proof_at s off = record { slot = proof_slot_at s off; start = off + proof_header_length; len = proof_length_at s off }

-- behind the proof at `off`: the next one begins where its bytes end, and has a higher slot
unfoldable pub proof_cursor_behind : List ℕ → ℕ → ProofCursor
proof_cursor_behind s off = record { offset = proof_end_at s off; least = proof_slot_at s off + 1 }

-- one step of the walk
unfoldable pub proof_step : List ℕ → ProofCursor → Result (Proof × ProofCursor) ProtocolError
proof_step s c =
    decide (Ok tt) (proof_layout_rows s c.offset c.least) then Ok (proof_at s c.offset, proof_cursor_behind s c.offset)

-- the walk begins behind the header, where any slot may come
abbrev pub first_proof : ProofCursor
first_proof = record { offset = witness_header_length; least = 0 }

-- the cursor after i proofs
unfoldable pub proof_cursor_at : List ℕ → ℕ → ProofCursor
proof_cursor_at s zero = first_proof
proof_cursor_at s (suc i) = proof_cursor_behind s (proof_cursor_at s i).offset

-- n proofs from `off` on, the first with a slot of at least `least`; no byte follows the last
unfoldable pub proofs_layout_rows : List ℕ → ℕ → ℕ → ℕ → List Row
proofs_layout_rows s zero off least = row (eqb off (length s)) InvalidWitness ∷ []
proofs_layout_rows s (suc n) off least =
    proof_layout_rows s off least ++ proofs_layout_rows s n (proof_end_at s off) (proof_slot_at s off + 1)

-- the proofs of a witness lock: as many as its header says, behind it, the first with any slot
abbrev pub witness_proof_rows : List ℕ → List Row
witness_proof_rows s = proofs_layout_rows s (proof_count_of s) witness_header_length 0
