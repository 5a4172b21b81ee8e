-- The cells of a list, one by one, and a search over them.
-- Assumes nothing.
use mathlib.Core.Path.{◌≡◌, refl, sym, ap}
use mathlib.Core.Bool.{Bool, true, false, cond, not}
use lib.Dec.{eqb, leb, ltb}
use borrow.Author.Tests.{ne_eqb, le-leb, lt-leb, ltb-true, ltb-false}
use mathlib.Core.List.{List, [], ◌∷◌, ◌++◌}
use Prim.Native.Nat.{ℕ, ◌+◌, ◌≤◌, ◌<◌}
use native.Mathlib.Omega.{arith}
use lib.ListN.{length, drop, get_or-eq_default}
use Rattle.octets.specs.Lists.{same}
use Rattle.octets.specs.Places.{bytes_at}
use Rattle.scene_table.specs.Scene.{Cell, Input, Output}
use Rattle.scene_table.specs.Lent.{scene_in, cell_from}
use Rattle.scene_table.specs.Places as places
use Rattle.scene_table.proofs.Records.{Listed, map-listed}
use Rattle.scene_table.proofs.PlaceLaws.{lent_input, lent_output, lent-given}
use Rattle.cell_search.specs.declared.cells.Source.{Source}
use Rattle.cell_search.specs.declared.cells.Source.TheVariants as source
use Rattle.cell_search.specs.declared.cells.CellField.{CellField}
use Rattle.cell_search.specs.declared.search.Search.{Search}
use Rattle.cell_search.specs.declared.search.Search.TheVariants.{Missing, One, Several}
use Rattle.cell_search.specs.Search.{cells_of, cell_hash, matching, matches, search_of, is_missing, is_one, is_several, cell_at, no_cell}
use Rattle.cell_search.specs.Cells.{cell_count, source_places, no_places, places_within}

-- the cells of a list are the table's records
pub cells-listed : (from : Source) (table store : List ℕ)
    → Listed (cells_of from (scene_in table store)) (cell_count from table) (λ i. places.cell_in store (source_places from table i))
unfolding cells_of cell_count source_places lent_input lent_output
cells-listed source.Input table store =
    map-listed (λ (i : Input). i.cell) (scene_in table store).inputs _ (lent_input table store) (lent-given table store).inputs
cells-listed source.Output table store =
    map-listed (λ (o : Output). o.cell) (scene_in table store).outputs _ (lent_output table store) (lent-given table store).outputs
cells-listed source.CellDep table store = (lent-given table store).deps

module _ (from : Source) (table store : List ℕ) (i : ℕ) where
  -- a cell of the list is the table's record
  pub cell-there : i < cell_count from table
      → cell_at (cells_of from (scene_in table store)) i ≡ places.cell_in store (source_places from table i)
  unfolding cell_at
  cell-there h = (cells-listed from table store).nth i no_cell h

  -- behind the last there is none
  pub cell-missing : cell_count from table ≤ i → cell_at (cells_of from (scene_in table store)) i ≡ no_cell
  unfolding cell_at
  cell-missing h = get_or-eq_default (cells_of from (scene_in table store)) no_cell (rw (cells-listed from table store).long h)

  -- either way it is what stands at its places
  pub cell-within : places.cell_in store (places_within from table i) ≡ cell_at (cells_of from (scene_in table store)) i
  unfolding places_within no_places no_cell cell_from bytes_at
  cell-within = go (ltb i (cell_count from table)) refl
    where
      go : (b : Bool) → ltb i (cell_count from table) ≡ b
          → places.cell_in store (cond b (source_places from table i) no_places) ≡ cell_at (cells_of from (scene_in table store)) i
      go true e = sym (cell-there (ltb-true i (cell_count from table) e))
      go false e = sym (cell-missing (ltb-false i (cell_count from table) e))

  -- its data and its type script, one by one
  pub content_within : bytes_at store (places_within from table i).content ≡ (cell_at (cells_of from (scene_in table store)) i).content
  unfolding cell_from
  content_within = ap (λ (c : Cell). c.content) cell-within

  pub type_script_within : bytes_at store (places_within from table i).type_script ≡ (cell_at (cells_of from (scene_in table store)) i).type_script
  unfolding cell_from
  type_script_within = ap (λ (c : Cell). c.type_script) cell-within

-- the indices of the cells that have the hash, from cell k on
unfoldable pub match_from : CellField → List ℕ → List Cell → ℕ → List ℕ
match_from f hash cells k = matching f hash k (drop k cells)

module _ (f : CellField) (hash : List ℕ) (from : Source) (table store : List ℕ) (k : ℕ) where
  -- a cell that has it, one that has not, and behind the last
  pub match-yes : k < cell_count from table → same (cell_hash f (places.cell_in store (source_places from table k))) hash ≡ true
      → match_from f hash (cells_of from (scene_in table store)) k ≡ k ∷ match_from f hash (cells_of from (scene_in table store)) (k + 1)
  unfolding match_from matching
  match-yes h e = rw ((cells-listed from table store).turn k h, e)

  pub match-no : k < cell_count from table → same (cell_hash f (places.cell_in store (source_places from table k))) hash ≡ false
      → match_from f hash (cells_of from (scene_in table store)) k ≡ match_from f hash (cells_of from (scene_in table store)) (k + 1)
  unfolding match_from matching
  match-no h e = rw ((cells-listed from table store).turn k h, e)

  pub match-end : cell_count from table ≤ k → match_from f hash (cells_of from (scene_in table store)) k ≡ []
  unfolding match_from matching
  match-end h = rw ((cells-listed from table store).none k h)

pub match-first : (f : CellField) (hash : List ℕ) (cells : List Cell) → match_from f hash cells 0 ≡ matches f hash cells
unfolding match_from matches
match-first f hash cells = refl

-- the indices behind an answer, as many of them as tell the answers apart
unfoldable pub places_of : Search → List ℕ
places_of Missing = []
places_of (One k) = k ∷ []
places_of Several = 0 ∷ 0 ∷ []

pub found-places : (v : Search) → search_of (places_of v ++ []) ≡ v
unfolding search_of places_of
found-places Missing = refl
found-places (One k) = refl
found-places Several = refl

-- a further match where there was one
pub second-match : (v : Search) (k : ℕ) (xs : List ℕ) → (v ≡ Missing → ⊥)
    → search_of (places_of v ++ k ∷ xs) ≡ Several
unfolding search_of places_of
second-match Missing k xs o = absurd (o refl)
second-match (One j) k xs o = refl
second-match Several k xs o = refl

pub ruleset searching = (match-first, match-yes, match-no, match-end, found-places, second-match)

-- none, one and several, told by how many indices there are
pub missing-count : (xs : List ℕ) → eqb (length xs) 0 ≡ is_missing (search_of xs)
unfolding search_of
missing-count [] = refl
missing-count (x ∷ []) = refl
missing-count (x ∷ y ∷ xs) = ne_eqb (length (x ∷ y ∷ xs)) 0 (λ e. omega arith)

pub found-count : (xs : List ℕ) → leb 1 (length xs) ≡ not (is_missing (search_of xs))
unfolding search_of
found-count [] = refl
found-count (x ∷ []) = refl
found-count (x ∷ y ∷ xs) = le-leb 1 (length (x ∷ y ∷ xs)) (omega arith)

pub several-count : (xs : List ℕ) → leb (length xs) 1 ≡ not (is_several (search_of xs))
unfolding search_of
several-count [] = refl
several-count (x ∷ []) = refl
several-count (x ∷ y ∷ xs) = lt-leb (length (x ∷ y ∷ xs)) 1 (omega arith)

pub one-count : (xs : List ℕ) → eqb (length xs) 1 ≡ is_one (search_of xs)
unfolding search_of
one-count [] = refl
one-count (x ∷ []) = refl
one-count (x ∷ y ∷ xs) = ne_eqb (length (x ∷ y ∷ xs)) 1 (λ e. omega arith)
