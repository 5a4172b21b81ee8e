-- `test_scene::case::append_times`: the text so far lies within the scene, whose length stays.
use Rattle.std.specs.Prelude.{◌≡◌, ◌≤◌, length}
use Rattle.test_scene.proofs.case.append_times.Given as goal

abbrev pub invariant-loop : goal.invariant-loop
invariant-loop l = (l.at ≤ length l.scene) × (length l.scene ≡ length l.initial.scene)
