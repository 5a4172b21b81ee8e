-- A scene as it is lent: the table of its numbers, and the store of its bytes; and the scene that they hold.
use Rattle.std.specs.Prelude.{ℕ, List}
use Rattle.scene_table.specs.Scene.{Scene}
use Rattle.scene_table.specs.Lent.{scene_in}

pub record Slices : Type 0 where
  pub table : List ℕ
  pub store : List ℕ

abbrev pub scene_of : Slices → Scene
scene_of s = scene_in s.table s.store
