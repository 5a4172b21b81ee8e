-- `cell_hashes::check_cells` meets its contract: what is left to test gives what the whole list gives. Assumes nothing.
use Rattle.std.specs.Prelude.{Ok}
use mathlib.Core.Path.{◌≡◌}
use lib.ListN.{drop}
use Rattle.protocol.specs.Rows.{decide}
use Rattle.scene_table.specs.Lent.{scene_in}
use Rattle.cell_search.specs.Search.{cells_of}
use Rattle.cell_hashes.specs.Hashes.{cells_hash_rows}
use Rattle.cell_hashes.proofs.check_cells.Given as goal

abbrev pub invariant-loop-i : goal.invariant-loop-i
invariant-loop-i l =
    let cells = cells_of l.source (scene_in l.scene.table l.scene.store) in
    decide (Ok tt) (cells_hash_rows cells) ≡ decide (Ok tt) (cells_hash_rows (drop l.i cells))
