-- Private: no public contract cites this file.
-- What the search for the account's state answers in a list of cells, for a spend and for a change.
use Rattle.std.specs.Prelude.{ℕ, List, [], ◌∷◌, length, leb, Ok, Result}
use Rattle.protocol.specs.Rows.{row, ◌then◌, decide}
use Rattle.protocol.specs.declared.error.ProtocolError.{ProtocolError}
use Rattle.protocol.specs.declared.error.ProtocolError.TheVariants.{StateNotFound, DuplicateState}
use Rattle.scene_table.specs.Scene.{Scene}
use Rattle.cell_search.specs.declared.cells.Source.{Source}
use Rattle.cell_search.specs.declared.cells.Source.TheVariants as source
use Rattle.cell_search.specs.declared.cells.CellField.TheVariants as field
use Rattle.cell_search.specs.declared.search.Search.{Search}
use Rattle.cell_search.specs.Search.{cells_of, cell_search}
use Rattle.state_transition.specs.declared.resolve.ResolvedState.{ResolvedState}
use Rattle.state_transition.specs.Resolve.{spend_rows, change_rows, state_indices, state_index}

-- which of its cells hold the state: none, one or several
unfoldable pub states_in : Source → List ℕ → Scene → Search
states_in from id s = cell_search field.TypeHash id (cells_of from s)

-- the index of the one that does
unfoldable pub one_state : Source → List ℕ → Scene → Result ℕ ProtocolError
one_state from id s =
    decide (Ok tt)
    (row (leb 1 (length (state_indices from id s))) StateNotFound
    ∷ row (leb (length (state_indices from id s)) 1) DuplicateState
    ∷ [])
    then Ok (state_index from id s)

unfoldable pub spend_of : List ℕ → Scene → Result ResolvedState ProtocolError
spend_of id s =
    decide (Ok tt) (spend_rows id s) then Ok (record { current = state_index source.CellDep id s; successor = 0 })

unfoldable pub change_of : List ℕ → Scene → Result ResolvedState ProtocolError
change_of id s =
    decide (Ok tt) (change_rows id s)
    then Ok (record { current = state_index source.Input id s; successor = state_index source.Output id s })
