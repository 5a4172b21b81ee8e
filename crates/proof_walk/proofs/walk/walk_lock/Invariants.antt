-- `proof_walk::walk::walk_lock` meets its contract: what is left to walk gives the whole. Assumes nothing.
use lib.ListN.{length}
use Rattle.proof_walk.specs.Answer.{walk_context}
use Rattle.proof_walk.proofs.WalkLaws.{WalkInvariant}
use Rattle.proof_walk.proofs.walk.walk_lock.Given as goal

abbrev pub invariant-loop-i : goal.invariant-loop-i
invariant-loop-i l = WalkInvariant (walk_context l.scene.table l.scene.store l.state l.authorization.operation l.authorization.digest (length l.initial.answer)) l.lock l.count l.initial.answer l.answer l.cursor l.weight l.total l.i
