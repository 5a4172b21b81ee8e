-- `test_decide_scene::run_all` is safe and ends. Assumes nothing.
use Rattle.std.proofs.Common.{length}
use Rattle.test_decide_scene.proofs.run_all.Given as goal

abbrev pub invariant-loop-line : goal.invariant-loop-line
invariant-loop-line g l = Unit {0}

abbrev pub decreases-loop-line : goal.decreases-loop-line
decreases-loop-line g l = length l.rest
