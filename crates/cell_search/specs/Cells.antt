-- The records of the lent table that hold a list of cells: how many, and the places of each.
use Rattle.std.specs.Prelude.{ℕ, cond, List, ltb}
use Rattle.scene_table.specs.Lent.{input_count, output_count, dep_count, place_at}
use Rattle.scene_table.specs.Places.{input_places, output_places, dep_places}
use Rattle.scene_table.specs.declared.places.CellPlaces.{CellPlaces}
use Rattle.cell_search.specs.declared.cells.Source.{Source}
use Rattle.cell_search.specs.declared.cells.Source.TheVariants.{Input, Output, CellDep}

unfoldable pub cell_count : Source → List ℕ → ℕ
cell_count Input table = input_count table
cell_count Output table = output_count table
cell_count CellDep table = dep_count table

unfoldable pub source_places : Source → List ℕ → ℕ → CellPlaces
source_places Input table i = input_places table i
source_places Output table i = output_places table i
source_places CellDep table i = dep_places table i

unfoldable pub no_places : CellPlaces
no_places = record { type_hash = place_at 0 0; data_hash = place_at 0 0; type_script = place_at 0 0; content = place_at 0 0 }

-- the places of a cell, empty ones where the list has no such cell
unfoldable pub places_within : Source → List ℕ → ℕ → CellPlaces
places_within source table i = cond (ltb i (cell_count source table)) (source_places source table i) no_places
