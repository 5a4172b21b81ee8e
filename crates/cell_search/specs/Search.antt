-- Which cells of a list have a hash: 01, "Where each refusal is raised": "none", "several", and the cell that was found.
use Rattle.std.specs.Prelude.{ℕ, ◌+◌, Bool, true, false, cond, List, [], ◌∷◌, map, get_or}
use Rattle.octets.specs.Lists.{same}
use Rattle.scene_table.specs.Scene.{Cell, Input, Output, Scene}
use Rattle.cell_search.specs.declared.cells.Source.{Source}
use Rattle.cell_search.specs.declared.cells.Source.TheVariants as source
use Rattle.cell_search.specs.declared.cells.CellField.{CellField}
use Rattle.cell_search.specs.declared.cells.CellField.TheVariants as field
use Rattle.cell_search.specs.declared.search.Search.{Search}
use Rattle.cell_search.specs.declared.search.Search.TheVariants.{Missing, One, Several}

unfoldable pub cells_of : Source → Scene → List Cell
cells_of source.Input s = map (λ (i : Input). i.cell) s.inputs
cells_of source.Output s = map (λ (o : Output). o.cell) s.outputs
cells_of source.CellDep s = s.deps

unfoldable pub cell_hash : CellField → Cell → List ℕ
cell_hash field.TypeHash c = c.type_hash
cell_hash field.DataHash c = c.data_hash

-- the indices, counted from k, of the cells whose hash this is; a hash has 32 bytes, so a cell without a type script has no
-- index by its type hash
unfoldable pub matching : CellField → List ℕ → ℕ → List Cell → List ℕ
matching f hash k [] = []
matching f hash k (c ∷ cs) = cond (same (cell_hash f c) hash) (k ∷ matching f hash (k + 1) cs) (matching f hash (k + 1) cs)

unfoldable pub matches : CellField → List ℕ → List Cell → List ℕ
matches f hash cells = matching f hash 0 cells

-- none, one or several
unfoldable pub search_of : List ℕ → Search
search_of [] = Missing
search_of (k ∷ []) = One k
search_of (k ∷ j ∷ ks) = Several

unfoldable pub cell_search : CellField → List ℕ → List Cell → Search
cell_search f hash cells = search_of (matches f hash cells)

abbrev pub is_missing : Search → Bool
is_missing Missing = true
is_missing (One k) = false
is_missing Several = false

abbrev pub is_one : Search → Bool
is_one Missing = false
is_one (One k) = true
is_one Several = false

abbrev pub is_several : Search → Bool
is_several Missing = false
is_several (One k) = false
is_several Several = true

-- the index of the one cell, 0 where there is none or several
abbrev pub index_of : Search → ℕ
index_of Missing = 0
index_of (One k) = k
index_of Several = 0

-- the cell at an index
unfoldable pub no_cell : Cell
no_cell = record { type_hash = []; data_hash = []; type_script = []; content = [] }

unfoldable pub cell_at : List Cell → ℕ → Cell
cell_at cells i = get_or cells i no_cell
