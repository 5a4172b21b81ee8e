-- What the walk over a lent table, store and state answers.
use Rattle.std.specs.Prelude.{ℕ, cond, List, [], length, Err}
use Rattle.protocol.specs.Policy.{is_operation}
use Rattle.protocol.specs.declared.error.ProtocolError.TheVariants.{InvalidOperation}
use Rattle.scene_table.specs.Scene.{Cell}
use Rattle.scene_table.specs.Lent.{scene_in}
use Rattle.decision.specs.Proofs.{Context, context_for}
use Rattle.decision.specs.Walk.{WalkOutcome, walk_outcome, walk_lock}
use Rattle.proof_walk.specs.declared.walk.ProofWalkAnswer.{ProofWalkAnswer}

-- the deps of the lent scene
unfoldable pub scene_deps : List ℕ → List ℕ → List Cell
scene_deps table store = (scene_in table store).deps

-- what the proofs are walked with, for an answer buffer of `room` bytes
unfoldable pub walk_context : List ℕ → List ℕ → List ℕ → ℕ → List ℕ → ℕ → Context
walk_context table store state operation digest room =
    context_for state (scene_deps table store) (scene_in table store).digits operation digest room

-- the walk for an operation from 1 to 3; for another no request is made, and the number is 37, as the Rust's
-- `capability_for_operation`, which stands before its first proof, has it
unfoldable pub walk_proofs : Context → List ℕ → WalkOutcome
walk_proofs c lock = cond (is_operation c.operation) (walk_lock c lock) (walk_outcome (Err InvalidOperation) 0 [])

-- what the walk answers of its outcome
unfoldable pub proof_walk_answer : WalkOutcome → ProofWalkAnswer
proof_walk_answer o = record { found = o.found; count = o.count; length = length o.made }
