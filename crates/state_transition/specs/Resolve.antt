-- The cells of an account's state in a transaction: the current one, and its successor where the state changes.
use Rattle.std.specs.Prelude.{ℕ, cond, List, [], ◌∷◌, ◌++◌, length, get_or, eqb, leb, Ok, Result}
use Rattle.octets.specs.Lists.{same}
use Rattle.protocol.specs.Policy.{operation_rows}
use Rattle.protocol.specs.Rows.{Row, row, ◌then◌, decide}
use Rattle.protocol.specs.declared.error.ProtocolError.{ProtocolError}
use Rattle.protocol.specs.declared.error.ProtocolError.TheVariants.{InvalidState, StateNotFound, DuplicateState, StateConsumedOnSpend, InvalidTransition}
use Rattle.scene_table.specs.Scene.{Cell, Input, Scene}
use Rattle.cell_search.specs.declared.cells.Source.{Source}
use Rattle.cell_search.specs.declared.cells.Source.TheVariants as source
use Rattle.cell_search.specs.declared.cells.CellField.TheVariants as field
use Rattle.cell_search.specs.Search.{cells_of, matches, cell_search, index_of, cell_at, no_cell}
use Rattle.state_transition.specs.declared.resolve.ResolvedState.{ResolvedState}

-- the indices of the cells that hold the account's state: those whose type hash is its id
unfoldable pub state_indices : Source → List ℕ → Scene → List ℕ
state_indices from id s = matches field.TypeHash id (cells_of from s)

-- the index of the one that does
unfoldable pub state_index : Source → List ℕ → Scene → ℕ
state_index from id s = index_of (cell_search field.TypeHash id (cells_of from s))

unfoldable pub state_cell : Source → List ℕ → Scene → Cell
state_cell from id s = cell_at (cells_of from s) (state_index from id s)

-- 01, "Where each refusal is raised": "spend: id among inputs 25; deps none 23, several 24"
unfoldable pub spend_rows : List ℕ → Scene → List Row
spend_rows id s =
    row (eqb (length (state_indices source.Input id s)) 0) StateConsumedOnSpend
    ∷ row (leb 1 (length (state_indices source.CellDep id s))) StateNotFound
    ∷ row (leb (length (state_indices source.CellDep id s)) 1) DuplicateState
    ∷ []

-- "else: inputs none 23, several 24; outputs not one 26; type script above 512 bytes 21, differing 26"
unfoldable pub type_rows : List ℕ → List ℕ → List Row
type_rows input output =
    row (leb (length input) 512) InvalidState
    ∷ row (leb (length output) 512) InvalidState
    ∷ row (same input output) InvalidTransition
    ∷ []

unfoldable pub change_rows : List ℕ → Scene → List Row
change_rows id s =
    row (leb 1 (length (state_indices source.Input id s))) StateNotFound
    ∷ row (leb (length (state_indices source.Input id s)) 1) DuplicateState
    ∷ row (eqb (length (state_indices source.Output id s)) 1) InvalidTransition
    ∷ type_rows (state_cell source.Input id s).type_script (state_cell source.Output id s).type_script

-- operation 1 is spend
unfoldable pub resolve_rows : ℕ → List ℕ → Scene → List Row
resolve_rows operation id s = cond (eqb operation 1) (spend_rows id s) (change_rows id s)

-- 01: "The current state is the data of the cell that the rows for 23 and 24 find.": a dep for a spend, else an input
unfoldable pub state_source : ℕ → Source
state_source operation = cond (eqb operation 1) source.CellDep source.Input

abbrev pub current_at : ℕ → ℕ → Scene → List ℕ
current_at operation index s = (cell_at (cells_of (state_source operation) s) index).content

unfoldable pub current_state : ℕ → List ℕ → Scene → List ℕ
current_state operation id s = current_at operation (state_index (state_source operation) id s) s

-- none where the state does not change
abbrev pub successor_at : ℕ → ℕ → Scene → List ℕ
successor_at operation index s = cond (eqb operation 1) [] (cell_at (cells_of source.Output s) index).content

unfoldable pub successor_state : ℕ → List ℕ → Scene → List ℕ
successor_state operation id s = successor_at operation (state_index source.Output id s) s

-- the since of the input that holds the state; a spend has no such input, and no row that asks for it
unfoldable pub no_input : Input
no_input = record { group = 0; since = 0; cell = no_cell; capacity = 0 }

abbrev pub since_at : ℕ → Scene → ℕ
since_at index s = (get_or s.inputs index no_input).since

unfoldable pub state_since : ℕ → List ℕ → Scene → ℕ
state_since operation id s = since_at (state_index (state_source operation) id s) s

-- what the search for the account's state answers: what its rows find, else the indices of the two cells; a spend has no successor.
-- main.rs, `resolve_state`: 37 for an operation other than spend, rotate and recovery. The lock's list has no such row: there the
-- witness lock's header has refused it with 22
unfoldable pub resolved_of : ℕ → List ℕ → Scene → Result ResolvedState ProtocolError
resolved_of operation id s =
    decide (Ok tt) (operation_rows operation ++ resolve_rows operation id s)
    then Ok
    (record {
      current = state_index (state_source operation) id s;
      successor = cond (eqb operation 1) 0 (state_index source.Output id s);
    })
