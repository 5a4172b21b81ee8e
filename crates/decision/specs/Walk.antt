-- 01, main.rs: "Proofs are walked one by one. A fault in the third comes after two requests were made."
use Rattle.std.specs.Prelude.{ℕ, zero, suc, ◌+◌, Bool, false, cond, List, [], ◌∷◌, ◌++◌, length, drop, eqb, leb, ltb, Err, Ok}
use Rattle.protocol.specs.Rows.{Row, row, decide, Check}
use Rattle.protocol.specs.declared.error.ProtocolError.TheVariants.{InvalidWitness, VerifierFailure, ThresholdUnsatisfied}
use Rattle.account_witness.specs.Fields.{proof_count_of, witness_header_length, proof_slot_at, proof_end_at}
use Rattle.account_witness.specs.Reading.{ProofReading, proof_of}
use Rattle.account_witness.specs.Walk as witness
use Rattle.scene_table.specs.Places.{verdict_at}
use Rattle.quorum.specs.Slots.{entry_for}
use Rattle.decision.specs.Proofs.{Context, proof_rows, request_of}

-- the verdict of proof i
unfoldable pub verdict : Context → ℕ → ℕ
verdict c i = verdict_at c.digits i

-- what the checks found, how many requests were made, and their bytes end to end
pub record WalkOutcome : Type 0 where
  pub found : Check
  pub count : ℕ
  pub made : List ℕ

abbrev pub walk_outcome : Check → ℕ → List ℕ → WalkOutcome
walk_outcome found count made = record { found = found; count = count; made = made }

-- the weight that proof i adds: its slot's where its digit is 0, "approved"
unfoldable pub approved_weight : Context → ℕ → ProofReading → ℕ
approved_weight c i p = cond (eqb (verdict c i) 0) (entry_for p.slot c.entries).weight 0

-- behind the last proof that could be read: `clean` says that nothing follows it; else a proof with a faulty layout, or "bytes after
-- the last proof", 22; "approved weight below threshold", 28; demand 3: the threshold is above zero
unfoldable pub last_rows : Bool → ℕ → ℕ → List Row
last_rows clean weight threshold =
    row clean InvalidWitness
    ∷ row (ltb 0 threshold) ThresholdUnsatisfied
    ∷ row (leb threshold weight) ThresholdUnsatisfied
    ∷ []

-- a refusal ends the walk
unfoldable pub unless_failed : Check → ℕ → List ℕ → WalkOutcome → WalkOutcome
unless_failed (Ok _) count made onward = onward
unless_failed (Err e) count made onward = walk_outcome (Err e) count made

-- from proof i on, with this approved weight and these bytes made. A verdict of 2 is 31, after its request was made
unfoldable pub walk_from : Context → Bool → ℕ → ℕ → List ℕ → List ProofReading → WalkOutcome
walk_from c clean i weight made [] = walk_outcome (decide (Ok tt) (last_rows clean weight c.threshold)) i made
walk_from c clean i weight made (p ∷ ps) =
    unless_failed (decide (Ok tt) (proof_rows c (length made) p)) i made
    (cond (eqb (verdict c i) 2) (walk_outcome (Err VerifierFailure) (i + 1) (made ++ request_of c p))
    (walk_from c clean (i + 1) (weight + approved_weight c i p) (made ++ request_of c p) ps))

-- the proofs of a witness lock up to the first with a faulty layout; clean where there is none and no byte follows the last
pub record ProofList : Type 0 where
  pub proofs : List ProofReading
  pub clean : Bool

unfoldable pub unless_faulty : Check → ProofList → ProofList
unless_faulty (Ok _) ps = ps
unless_faulty (Err e) ps = record { proofs = []; clean = false }

unfoldable pub proofs_until_fault : List ℕ → ℕ → ℕ → ℕ → ProofList
proofs_until_fault lock zero at least = record { proofs = []; clean = eqb at (length lock) }
proofs_until_fault lock (suc n) at least =
    unless_faulty (decide (Ok tt) (witness.proof_layout_rows lock at least))
    (record {
      proofs = proof_of lock at ∷ (proofs_until_fault lock n (proof_end_at lock at) (proof_slot_at lock at + 1)).proofs;
      clean = (proofs_until_fault lock n (proof_end_at lock at) (proof_slot_at lock at + 1)).clean;
    })

unfoldable pub walk_list : Context → ProofList → WalkOutcome
walk_list c ps = walk_from c ps.clean 0 0 [] ps.proofs

-- those of a witness lock
abbrev pub proof_list_of : List ℕ → ProofList
proof_list_of lock = proofs_until_fault lock (proof_count_of lock) witness_header_length 0

-- the walk over them
unfoldable pub walk_lock : Context → List ℕ → WalkOutcome
walk_lock c lock = walk_list c (proof_list_of lock)

-- "Each request is written into the rest of the answer buffer, behind the last one. Bytes after that total are unchanged."
unfoldable pub answered : List ℕ → List ℕ → List ℕ
answered answer made = made ++ drop (length made) answer
