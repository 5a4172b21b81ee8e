-- What a search that finds one cell gives: a cell of the list, and it has the hash.
-- Assumes nothing.
use mathlib.Core.Path.{◌≡◌, refl, ap}
use mathlib.Core.Bool.{Bool, true, false}
use mathlib.Core.List.{List, [], ◌∷◌}
use Prim.Native.Nat.{ℕ, suc, ◌+◌, ◌<◌}
use native.Mathlib.Nat.{zero-lt-suc}
use native.Mathlib.Omega.{arith}
use lib.ListN.{length, get_or}
use Rattle.octets.specs.Lists.{same}
use Rattle.octets.proofs.Same.{same-eq}
use Rattle.scene_table.specs.Scene.{Cell}
use Rattle.scene_table.specs.Lent.{scene_in}
use Rattle.scene_table.specs.Places as places
use Rattle.scene_table.specs.Valid.{valid_table}
use Rattle.scene_table.proofs.Shape.{WholeCell, cells_whole}
use Rattle.cell_search.specs.declared.cells.Source.{Source}
use Rattle.cell_search.specs.declared.cells.Source.TheVariants as source
use Rattle.cell_search.specs.declared.cells.CellField.{CellField}
use Rattle.cell_search.specs.Search.{cells_of, cell_hash, matching, matches, search_of, cell_search, index_of, cell_at}
use Rattle.cell_search.specs.Cells.{cell_count, source_places}
use Rattle.cell_search.proofs.CellLaws.{cell-there, cells-listed}

-- a cell of the list with the hash
pub record FoundCell (f : CellField) (hash : List ℕ) (cells : List Cell) (i : ℕ) : Type 0 where
  pub in_list : i < length cells
  pub holds : cell_hash f (cell_at cells i) ≡ hash

module _ (f : CellField) (hash : List ℕ) where
  -- the first index, counted from k, is that of a cell with the hash
  first-match : (cells : List Cell) (k i : ℕ) (is : List ℕ) → matching f hash k cells ≡ i ∷ is → (j : ℕ) × (i ≡ k + j) × FoundCell f hash cells j
  unfolding matching cell_at
  first-match [] k i is e = absurd (let z = ap length e in omega arith)
  first-match (c ∷ cs) k i is e = go (same (cell_hash f c) hash) refl (first-match cs (k + 1) i is)
    where
      go : (b : Bool) → same (cell_hash f c) hash ≡ b
          → (matching f hash (k + 1) cs ≡ i ∷ is → (j : ℕ) × (i ≡ k + 1 + j) × FoundCell f hash cs j)
          → (j : ℕ) × (i ≡ k + j) × FoundCell f hash (c ∷ cs) j
      go true t later =
          let z : k ≡ i = ap (λ (l : List ℕ). get_or l 0 0) (rw t at e) in
          (0, omega arith, record { in_list = zero-lt-suc (length cs); holds = same-eq (cell_hash f c) hash t })
      go false t later =
          let m = later (rw t at e) in
          (suc m.0, omega (arith, m.1), record { in_list = omega (arith, m.2.in_list); holds = m.2.holds })

  -- where one cell has the hash, the search gives its index
  pub found-one : (cells : List Cell) → length (matches f hash cells) ≡ 1 → FoundCell f hash cells (index_of (cell_search f hash cells))
  unfolding cell_search matches search_of
  found-one cells = go (matches f hash cells) refl
    where
      go : (is : List ℕ) → matches f hash cells ≡ is → length is ≡ 1 → FoundCell f hash cells (index_of (search_of is))
      go [] e h = absurd (omega arith)
      go (i ∷ []) e h = let m = first-match cells 0 i [] e in let n : i ≡ m.0 = omega (arith, m.1) in rw n m.2
      go (i ∷ j ∷ is) e h = absurd (omega arith)

-- a cell of a table that passes its test has all of its bytes
pub cell-whole : (from : Source) (table store : List ℕ) (i : ℕ) → valid_table table (length store) ≡ true
    → i < length (cells_of from (scene_in table store)) → WholeCell (cell_at (cells_of from (scene_in table store)) i)
unfolding cell_count source_places
cell-whole from table store i v h =
    let k : i < cell_count from table = rw (cells-listed from table store).long at h in
    rw (cell-there from table store i k) (go from k)
  where
    go : (from : Source) → i < cell_count from table → WholeCell (places.cell_in store (source_places from table i))
    go source.Input k = (cells_whole table store v).inputs i k
    go source.Output k = (cells_whole table store v).outputs i k
    go source.CellDep k = (cells_whole table store v).deps i k
