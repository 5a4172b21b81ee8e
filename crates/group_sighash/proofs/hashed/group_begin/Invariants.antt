-- `group_sighash::hashed::group_begin` meets its contract: no input before has a witness of the group. Assumes nothing.
use mathlib.Core.Path.{◌≡◌}
use mathlib.Core.List.{List}
use Prim.Native.Nat.{ℕ}
use Rattle.scene_table.specs.Lent.{scene_in}
use Rattle.group_sighash.specs.Witnesses.{group_of}
use Rattle.group_sighash.specs.Hashed.{group_from}
use Rattle.group_sighash.proofs.hashed.group_begin.Given as goal

abbrev pub invariant-loop-i : goal.invariant-loop-i
invariant-loop-i l = (store : List ℕ) → group_of (scene_in l.scene.table store) ≡ group_from l.scene.table store l.i
