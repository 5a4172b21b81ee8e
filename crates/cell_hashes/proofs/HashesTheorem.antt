-- 40 is not found exactly where each hash of each cell is CKB's hash of what the cell holds.
-- Assumes nothing.
use mathlib.Core.Path.{◌≡◌, refl}
use mathlib.Core.Logic.{◌⊎◌, inl, inr, ◌↔◌}
use mathlib.Core.Bool.{Bool, true, false, ◌||◌}
use mathlib.Core.List.{List, [], ◌∷◌}
use Prim.Native.Nat.{ℕ, zero, suc, ◌<◌}
use native.Mathlib.Nat.{zero-lt-suc}
use native.Mathlib.Omega.{arith}
use lib.Dec.{eqb}
use lib.ListN.{length}
use borrow.Author.Tests.{eqb-true}
use Rattle.octets.specs.Lists.{same}
use Rattle.octets.proofs.Same.{same-eq, eq-same}
use Rattle.protocol.specs.Rows.{AllPass}
use Rattle.protocol.proofs.AllPass.{all-pass-append, all-pass-split}
use Rattle.blake2b.specs.State.{ckb_hash}
use Rattle.scene_table.specs.Scene.{Cell, Scene}
use Rattle.cell_search.specs.declared.cells.Source.{Source}
use Rattle.cell_search.specs.declared.cells.Source.TheVariants as source
use Rattle.cell_search.specs.Search.{cells_of, cell_at}
use Rattle.cell_hashes.specs.Hashes.{hash_agrees, cell_hash_rows, cells_hash_rows, hash_rows, TrueHashes}

no_bytes : (bytes : List ℕ) → eqb (length bytes) 0 ≡ true → bytes ≡ []
no_bytes [] h = refl
no_bytes (b ∷ bs) h = absurd (let z = eqb-true (suc (length bs)) 0 h in omega arith)

-- a hash that passes
hash-true : (hash bytes : List ℕ) → hash_agrees hash bytes ≡ true → (bytes ≡ []) ⊎ (hash ≡ ckb_hash bytes)
unfolding hash_agrees
hash-true hash bytes = go (eqb (length bytes) 0) refl
  where
    go : (b : Bool) → eqb (length bytes) 0 ≡ b → (b || same hash (ckb_hash bytes)) ≡ true → (bytes ≡ []) ⊎ (hash ≡ ckb_hash bytes)
    go true e h = inl (no_bytes bytes e)
    go false e h = inr (same-eq hash (ckb_hash bytes) h)

or_right : (a : Bool) → (a || true) ≡ true
or_right true = refl
or_right false = refl

true-hash : (hash bytes : List ℕ) → (bytes ≡ []) ⊎ (hash ≡ ckb_hash bytes) → hash_agrees hash bytes ≡ true
unfolding hash_agrees
true-hash hash bytes (inl e) = rw e
true-hash hash bytes (inr e) = rw (eq-same hash (ckb_hash bytes) e) (or_right (eqb (length bytes) 0))

-- a cell whose rows pass
cell-true : (c : Cell) → AllPass (cell_hash_rows c) → TrueHashes c
unfolding cell_hash_rows
cell-true c h = record { type = hash-true c.type_hash c.type_script h.0; content = hash-true c.data_hash c.content h.1.0 }

true-cell : (c : Cell) → TrueHashes c → AllPass (cell_hash_rows c)
unfolding cell_hash_rows
true-cell c h = (true-hash c.type_hash c.type_script h.type, (true-hash c.data_hash c.content h.content, tt))

-- the cells of a list
abbrev EachTrue : List Cell → Type 0
EachTrue cells = (i : ℕ) → i < length cells → TrueHashes (cell_at cells i)

cells-true : (cells : List Cell) → AllPass (cells_hash_rows cells) → EachTrue cells
unfolding cells_hash_rows cell_at
cells-true [] h i k = absurd (omega arith)
cells-true (c ∷ cs) h zero k = cell-true c (all-pass-split (cell_hash_rows c) (cells_hash_rows cs) h).0
cells-true (c ∷ cs) h (suc i) k = cells-true cs (all-pass-split (cell_hash_rows c) (cells_hash_rows cs) h).1 i (omega arith)

true-cells : (cells : List Cell) → EachTrue cells → AllPass (cells_hash_rows cells)
unfolding cells_hash_rows cell_at
true-cells [] h = tt
true-cells (c ∷ cs) h =
    all-pass-append (cell_hash_rows c) (cells_hash_rows cs) (true-cell c (h 0 (zero-lt-suc (length cs)))) (true-cells cs (λ i k. h (suc i) (omega arith)))

-- every row passes exactly where each cell of each list is hashed so
pub hashes-true : (s : Scene) → AllPass (hash_rows s) ↔ ((from : Source) (i : ℕ) → i < length (cells_of from s) → TrueHashes (cell_at (cells_of from s) i))
unfolding hash_rows
hashes-true s = (there, back)
  where
    there : AllPass (hash_rows s) → (from : Source) → EachTrue (cells_of from s)
    there h source.Input = cells-true _ (all-pass-split (cells_hash_rows (cells_of source.Input s)) _ h).0
    there h source.Output =
        let others = (all-pass-split (cells_hash_rows (cells_of source.Input s)) _ h).1 in
        cells-true _ (all-pass-split (cells_hash_rows (cells_of source.Output s)) _ others).0
    there h source.CellDep =
        let others = (all-pass-split (cells_hash_rows (cells_of source.Input s)) _ h).1 in
        cells-true _ (all-pass-split (cells_hash_rows (cells_of source.Output s)) _ others).1

    back : ((from : Source) → EachTrue (cells_of from s)) → AllPass (hash_rows s)
    back h =
        all-pass-append (cells_hash_rows (cells_of source.Input s)) _ (true-cells _ (h source.Input))
        (all-pass-append (cells_hash_rows (cells_of source.Output s)) _ (true-cells _ (h source.Output)) (true-cells _ (h source.CellDep)))
