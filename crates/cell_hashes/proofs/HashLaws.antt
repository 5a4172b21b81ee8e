-- The rows of a list's cells, one by one.
-- Assumes nothing.
use Rattle.std.specs.Prelude.{Ok}
use mathlib.Core.Path.{◌≡◌}
use mathlib.Core.List.{List}
use Prim.Native.Nat.{ℕ, ◌+◌, ◌≤◌, ◌<◌}
use lib.ListN.{drop}
use Rattle.protocol.specs.Rows.{decide, ◌then◌}
use Rattle.protocol.proofs.AllPass.{decide-both}
use Rattle.scene_table.specs.Lent.{scene_in}
use Rattle.scene_table.specs.Places.{cell_in}
use Rattle.cell_search.specs.declared.cells.Source.{Source}
use Rattle.cell_search.specs.Search.{cells_of}
use Rattle.cell_search.specs.Cells.{cell_count, source_places}
use Rattle.cell_search.proofs.CellLaws.{cells-listed}
use Rattle.cell_hashes.specs.Hashes.{cell_hash_rows, cells_hash_rows}

module _ (from : Source) (table store : List ℕ) (k : ℕ) where
  -- what the rows find from cell k on: what this cell's find, and then what is found of the cells behind it,
  pub found_turn : k < cell_count from table → decide (Ok tt) (cells_hash_rows (drop k (cells_of from (scene_in table store))))
      ≡ decide (Ok tt) (cell_hash_rows (cell_in store (source_places from table k)))
      then decide (Ok tt) (cells_hash_rows (drop (k + 1) (cells_of from (scene_in table store))))
  unfolding cells_hash_rows
  found_turn h = rw ((cells-listed from table store).turn k h, decide-both)

  -- and behind the last nothing
  pub found_end : cell_count from table ≤ k → decide (Ok tt) (cells_hash_rows (drop k (cells_of from (scene_in table store)))) ≡ Ok tt
  unfolding cells_hash_rows decide
  found_end h = rw ((cells-listed from table store).none k h)

pub ruleset cells_found = (found_turn, found_end)
