-- `proof_walk::walk::walk_lock` meets its contract: what is left to walk gives the whole. Assumes nothing.
use mathlib.Core.Path.{◌≡◌, sym, ◌∙◌}
use native.Mathlib.Omega.{arith}
use borrow.Author.Rules.{rules}
use lib.ListN.{length}
use Rattle.proof_walk.proofs.WalkLaws.{walk-answered, walk_ends, turn_stopped, turn-unwritten, failed-written, turn-failed, onward-written}
use Rattle.proof_walk.proofs.walk.walk_lock.Goals as goal

pub overflow_add-total : goal.overflow_add-total
overflow_add-total c =
    let a = c.args in
    let d : length a.authorization.digest ≡ 32 = search rules in
    let o = rw c.in-Ok-Failed.field-0-is at (sym c.walk_proof.ensures.value ∙ c.in-Ok-Failed.is) in
    let written = failed-written a.scene.now.table a.scene.now.store a.state.now a.authorization.operation a.authorization.digest d c.loop-i.invariant c.loop-i-test.true c.walk_proof.ensures.out_after _ o in
    omega (arith, written.fits)

pub overflow_add-total-in-Ok-Onward : goal.overflow_add-total-in-Ok-Onward
overflow_add-total-in-Ok-Onward c =
    let a = c.args in
    let d : length a.authorization.digest ≡ 32 = search rules in
    let o = rw c.in-Ok-Onward.field-0-is at (sym c.walk_proof.ensures.value ∙ c.in-Ok-Onward.is) in
    let written = onward-written a.scene.now.table a.scene.now.store a.state.now a.authorization.operation a.authorization.digest d c.loop-i.invariant c.loop-i-test.true c.walk_proof.ensures.out_after _ _ _ o in
    omega (arith, written.fits)

pub returns-in-Err : goal.returns-in-Err
returns-in-Err c =
    let a = c.args in
    let h = c.loop-i.invariant in
    let d : length a.authorization.digest ≡ 32 = search rules in
    let o = sym c.walk_proof.ensures.value ∙ c.in-Err.is in
    let stopped = turn_stopped a.scene.now.table a.scene.now.store a.state.now a.authorization.operation a.authorization.digest d h c.loop-i-test.true c.walk_proof.ensures.out_after _ o in
    let unwritten = turn-unwritten a.scene.now.table a.scene.now.store a.state.now a.authorization.operation a.authorization.digest d h c.loop-i-test.true c.walk_proof.ensures.out_after _ o in
    let w = walk-answered a.answer.now stopped h.long (unwritten ∙ h.wrote) c.answer_of.ensures in
    record { value = w.0; answer_after = w.1 }

pub returns-in-Ok-Failed : goal.returns-in-Ok-Failed
returns-in-Ok-Failed c =
    let a = c.args in
    let h = c.loop-i.invariant in
    let d : length a.authorization.digest ≡ 32 = search rules in
    let o = rw c.in-Ok-Failed.field-0-is at (sym c.walk_proof.ensures.value ∙ c.in-Ok-Failed.is) in
    let written = failed-written a.scene.now.table a.scene.now.store a.state.now a.authorization.operation a.authorization.digest d h c.loop-i-test.true c.walk_proof.ensures.out_after _ o in
    let failed = turn-failed a.scene.now.table a.scene.now.store a.state.now a.authorization.operation a.authorization.digest d h c.loop-i-test.true c.walk_proof.ensures.out_after _ o in
    let w = walk-answered a.answer.now failed written.long written.wrote c.answer_of-in-Ok-Failed.ensures in
    record { value = w.0; answer_after = w.1 }

pub returns : goal.returns
returns c =
    let a = c.args in
    let h = c.loop-i.invariant in
    let d : length a.authorization.digest ≡ 32 = search rules in
    let ended = walk_ends a.scene.now.table a.scene.now.store a.state.now a.authorization.operation a.authorization.digest d h (omega (arith, c.loop-i-test.false)) in
    let e : c.loop-i.i ≡ c.proof_count_of-count.result = omega (arith, c.loop-i-test.false, c.loop-i.auto.i-end) in
    let w = walk-answered a.answer.now ended h.long h.wrote ((rw c.check_last-found.ensures at c.answer_of-2.ensures) ∙ rw e) in
    record { value = w.0; answer_after = w.1 }
