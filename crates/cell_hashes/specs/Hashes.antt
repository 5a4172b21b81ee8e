-- 02, change 1: "The lock now works out the type hash of each cell from its type script. It does the same for the data hash of each
-- cell whose data isn't empty. .. Refused: 40 where a hash differs, lines in scene order and type before data".
use Rattle.std.specs.Prelude.{ℕ, ◌≡◌, ◌⊎◌, Bool, ◌||◌, List, [], ◌∷◌, ◌++◌, length, eqb}
use Rattle.octets.specs.Lists.{same}
use Rattle.protocol.specs.Rows.{Row, row}
use Rattle.protocol.specs.declared.error.ProtocolError.TheVariants.{HashMismatch}
use Rattle.blake2b.specs.State.{ckb_hash}
use Rattle.scene_table.specs.Scene.{Cell, Scene}
use Rattle.cell_search.specs.declared.cells.Source.TheVariants as source
use Rattle.cell_search.specs.Search.{cells_of}

-- there are no bytes, or the hash is CKB's hash of them; a cell without a type script has no byte of one
unfoldable pub hash_agrees : List ℕ → List ℕ → Bool
hash_agrees hash bytes = eqb (length bytes) 0 || same hash (ckb_hash bytes)

-- "type before data"
unfoldable pub cell_hash_rows : Cell → List Row
cell_hash_rows c =
    row (hash_agrees c.type_hash c.type_script) HashMismatch
    ∷ row (hash_agrees c.data_hash c.content) HashMismatch
    ∷ []

unfoldable pub cells_hash_rows : List Cell → List Row
cells_hash_rows [] = []
cells_hash_rows (c ∷ cs) = cell_hash_rows c ++ cells_hash_rows cs

-- "lines in scene order": every input, those of other locks too, every output, every dep
unfoldable pub hash_rows : Scene → List Row
hash_rows s =
    cells_hash_rows (cells_of source.Input s) ++ (cells_hash_rows (cells_of source.Output s) ++ cells_hash_rows (cells_of source.CellDep s))

-- what the rows of a cell say: each of its hashes is CKB's hash of what it is the hash of, where there is any
pub record TrueHashes (c : Cell) : Type 0 where
  pub type : (c.type_script ≡ []) ⊎ (c.type_hash ≡ ckb_hash c.type_script)
  pub content : (c.content ≡ []) ⊎ (c.data_hash ≡ ckb_hash c.content)
