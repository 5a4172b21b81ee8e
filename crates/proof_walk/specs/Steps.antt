-- Private: no public contract cites this file.
-- What each step of the walk gives: the request of a proof, the outcome of one proof.
use Rattle.std.specs.Prelude.{ℕ, Bool, cond, List, ◌∷◌, eqb, length, Err, Ok, Result}
use Rattle.protocol.specs.declared.error.ProtocolError.{ProtocolError}
use Rattle.protocol.specs.Rows.{Row, row, ◌then◌, decide, Check}
use Rattle.protocol.specs.declared.error.ProtocolError.TheVariants.{InvalidWitness}
use Rattle.account_state.specs.Reading.{EntryReading}
use Rattle.quorum.specs.Slots.{entry_for}
use Rattle.account_witness.specs.Reading.{ProofReading, proof_of}
use Rattle.account_witness.specs.Walk as witness
use Rattle.account_witness.specs.declared.walk.ProofCursor.{ProofCursor}
use Rattle.scene_table.specs.Scene.{Cell}
use Rattle.decision.specs.Proofs.{Context, authenticator_rows, proof_rows, request_of}
use Rattle.decision.specs.Walk.{verdict, answered}
use Rattle.proof_walk.specs.declared.walk.ProofOutcome.{ProofOutcome}
use Rattle.proof_walk.specs.declared.walk.ProofOutcome.TheVariants as outcome

-- ---- the request of one proof

abbrev pub proof_with : ℕ → List ℕ → ProofReading
proof_with slot bytes = record { slot = slot; bytes = bytes }

-- the rows by what was found of the entry
unfoldable pub found_rows : Bool → ℕ → List Cell → EntryReading → ℕ → ℕ → List Row
found_rows is_known operation deps e proof left = row is_known InvalidWitness ∷ authenticator_rows operation deps e proof left

-- what a step comes to: how long the request is, and the weight of its slot
unfoldable pub request_step : Context → ProofReading → Result (ℕ × ℕ) ProtocolError
request_step c p = decide (Ok tt) (proof_rows c 0 p) then Ok (length (request_of c p), (entry_for p.slot c.entries).weight)

-- what was lent, afterwards: the request at its front, or, of a refusal, as it was
abbrev pub request_left : Check → List ℕ → List ℕ → List ℕ
request_left (Ok _) request out = answered out request
request_left (Err e) request out = out

-- ---- one proof

-- its layout, then its rows
unfoldable pub proof_check : Context → List ℕ → ProofCursor → Check
proof_check c lock cursor =
    decide (Ok tt) (witness.proof_layout_rows lock cursor.offset cursor.least)
    then decide (Ok tt) (proof_rows c 0 (proof_of lock cursor.offset))

-- the outcome by the verdict on its request: 0 approved, 1 refused, 2 failed
unfoldable pub verdict_outcome : ℕ → ℕ → ℕ → ProofCursor → ProofOutcome
verdict_outcome verdict len weight next =
    cond (eqb verdict 2) (outcome.Failed len) (outcome.Onward len (cond (eqb verdict 0) weight 0) next)

-- what a proof comes to
unfoldable pub proof_outcome : Context → List ℕ → ProofCursor → ℕ → Result ProofOutcome ProtocolError
proof_outcome c lock cursor i =
    let p = proof_of lock cursor.offset in
    proof_check c lock cursor
    then Ok (verdict_outcome (verdict c i) (length (request_of c p)) (entry_for p.slot c.entries).weight (witness.proof_cursor_behind lock cursor.offset))
