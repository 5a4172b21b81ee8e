-- `test_scene::run_all` is safe and ends. Assumes nothing.
use Prim.Native.Nat.{◌≤◌}
use mathlib.Core.Path.{◌≡◌}
use lib.ListN.{length}
use Rattle.test_scene.proofs.run_all.Given as goal

abbrev pub invariant-loop-line : goal.invariant-loop-line
invariant-loop-line g l = (length l.scene ≡ length l.initial.scene) × (length l.store ≡ length l.initial.store) × (length l.table ≡ length l.initial.table) × (l.case.at ≤ length l.initial.scene)

abbrev pub decreases-loop-line : goal.decreases-loop-line
decreases-loop-line g l = length l.rest
