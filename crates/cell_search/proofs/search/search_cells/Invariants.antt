-- `cell_search::search::search_cells` meets its contract. Assumes nothing.
use mathlib.Core.Path.{◌≡◌}
use mathlib.Core.List.{◌++◌}
use Rattle.scene_table.specs.Lent.{scene_in}
use Rattle.cell_search.specs.Search.{cells_of, search_of, cell_search}
use Rattle.cell_search.proofs.CellLaws.{match_from, places_of}
use Rattle.cell_search.proofs.search.search_cells.Given as goal

abbrev pub invariant-loop-i : goal.invariant-loop-i
invariant-loop-i l =
    let cells = cells_of l.source (scene_in l.scene.table l.scene.store) in
    cell_search l.field l.hash cells ≡ search_of (places_of l.found ++ match_from l.field l.hash cells l.i)
