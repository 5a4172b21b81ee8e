-- The reading of a witness lock, every field but fixed bytes, lengths and counts, its written form, and what the readers hand out
-- of it.
use Rattle.std.specs.Prelude.{◌≡◌, ℕ, zero, suc, ◌^◌, ◌<◌, List, [], ◌∷◌, ◌++◌, map, length, take, drop, get_or, Ok}
use Rattle.octets.specs.Lists.{joined}
use Rattle.octets.specs.Layout.{Field, layout_bytes}
use Rattle.account_witness.specs.Fields.{operation_of, proof_count_of, witness_sequence_of, witness_header_length, proof_end_at}
use Rattle.account_witness.specs.declared.header.AccountWitnessHeader.{AccountWitnessHeader}
use Rattle.account_witness.specs.declared.walk.Proof.{Proof}
use Rattle.account_witness.specs.Header.{witness_header_fields}
use Rattle.account_witness.specs.Walk.{proof_at, proof_step, proof_cursor_at}

pub record ProofReading : Type 0 where
  pub slot : ℕ
  pub bytes : List ℕ

pub record WitnessReading : Type 0 where
  pub operation : ℕ
  pub sequence : ℕ
  pub proofs : List ProofReading

-- 01, Proof: "slot (u16), two zero bytes, length (u32, not 0), bytes"
unfoldable pub proof_fields : ℕ → ℕ → List Field
proof_fields slot len = record { width = 2; value = slot } ∷ record { width = 2; value = 0 } ∷ record { width = 4; value = len } ∷ []

unfoldable pub proof_bytes : ProofReading → List ℕ
proof_bytes p = layout_bytes (proof_fields p.slot (length p.bytes)) ++ p.bytes

unfoldable pub proofs_bytes : List ProofReading → List ℕ
proofs_bytes ps = joined (map proof_bytes ps)

abbrev pub witness_head : WitnessReading → List Field
witness_head r = witness_header_fields r.operation (length r.proofs) r.sequence

unfoldable pub witness_bytes : WitnessReading → List ℕ
witness_bytes r = layout_bytes (witness_head r) ++ proofs_bytes r.proofs

-- the reading of a proof that a step hands out: its slot, and the bytes at its place; 01: "a place in the input counting as the
-- bytes there"
unfoldable pub proof_given : List ℕ → Proof → ProofReading
proof_given s p = record { slot = p.slot; bytes = take p.len (drop p.start s) }

-- the proof at `off`
abbrev pub proof_of : List ℕ → ℕ → ProofReading
proof_of s off = proof_given s (proof_at s off)

-- n proofs one behind another, from `off` on
unfoldable pub proofs_of : List ℕ → ℕ → ℕ → List ProofReading
proofs_of s zero off = []
proofs_of s (suc n) off = proof_of s off ∷ proofs_of s n (proof_end_at s off)

-- the proofs of a witness lock
abbrev pub witness_proofs : List ℕ → List ProofReading
witness_proofs s = proofs_of s (proof_count_of s) witness_header_length

unfoldable pub witness_reading : List ℕ → WitnessReading
witness_reading s =
    record { operation = operation_of s; sequence = witness_sequence_of s; proofs = witness_proofs s }

-- the slots of the proofs
abbrev pub proof_slots : List ProofReading → List ℕ
proof_slots [] = []
proof_slots (p ∷ ps) = p.slot ∷ proof_slots ps

-- readings whose fields, lengths and count are values of their types
pub record ProofTyped (p : ProofReading) : Type 0 where
  pub slot : p.slot < 2 ^ 16
  pub len : length p.bytes < 2 ^ 32

abbrev pub ProofsTyped : List ProofReading → Type 0
ProofsTyped [] = Unit {0}
ProofsTyped (p ∷ ps) = ProofTyped p × ProofsTyped ps

pub record WitnessTyped (r : WitnessReading) : Type 0 where
  pub operation : r.operation < 2 ^ 8
  pub sequence : r.sequence < 2 ^ 64
  pub count : length r.proofs < 2 ^ 8
  pub proofs : ProofsTyped r.proofs

-- the header that a reader gives has the reading's fields and the count of its proofs
pub record WitnessHeaderGives (s : List ℕ) (h : AccountWitnessHeader) : Type 0 where
  pub operation : h.operation ≡ (witness_reading s).operation
  pub sequence : h.state_sequence ≡ (witness_reading s).sequence
  pub count : h.proof_count ≡ length (witness_reading s).proofs

-- the i-th step of an accepted witness lock goes on, with the i-th proof of the reading; 01: "Closures of `parse_authenticators` and
-- `parse_proofs`: a step per entry."
pub record ProofStepGives (s : List ℕ) (i : ℕ) : Type 0 where
  pub step : proof_step s (proof_cursor_at s i) ≡ Ok (proof_at s (proof_cursor_at s i).offset, proof_cursor_at s (suc i))
  pub reading : (d : ProofReading) → get_or (witness_reading s).proofs i d ≡ proof_given s (proof_at s (proof_cursor_at s i).offset)

-- what the readers hand out of a witness lock, with the header h of its answer, is its reading: the header's fields, and at each step
-- the next proof; behind the last no byte follows
pub record WitnessGives (s : List ℕ) (h : AccountWitnessHeader) : Type 0 where
  pub header : WitnessHeaderGives s h
  pub proofs : (i : ℕ) → i < h.proof_count → ProofStepGives s i
  pub ended : (proof_cursor_at s h.proof_count).offset ≡ length s
