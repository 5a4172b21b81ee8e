-- A scene: the transaction that the lock sees, and the store and the table that hold it.
use Rattle.std.specs.Prelude.{ℕ, ◌+◌, ◌-◌, List, [], ◌∷◌, ◌++◌, map, length, replicate}
use Rattle.octets.specs.Lists.{joined}
use Rattle.octets.specs.Le.{u64_halves}

-- 01, The scene: "TYPEHASH,DATAHASH,TYPESCRIPT,DATA"; a cell without a type script has no byte for the first and the third
pub record Cell : Type 0 where
  pub type_hash : List ℕ
  pub data_hash : List ℕ
  pub type_script : List ℕ
  pub content : List ℕ

-- "`input,GROUP,SINCE,TYPEHASH,DATAHASH,TYPESCRIPT,DATA`"; 02, change 9: "Input and output lines end with a new field CAPACITY"
pub record Input : Type 0 where
  pub group : ℕ
  pub since : ℕ
  pub cell : Cell
  pub capacity : ℕ

pub record Output : Type 0 where
  pub cell : Cell
  pub capacity : ℕ

-- "in this order of kinds"
pub record Scene : Type 0 where
  pub script : List ℕ
  pub transaction : List ℕ
  pub inputs : List Input
  pub outputs : List Output
  pub deps : List Cell
  pub witnesses : List (List ℕ)
  pub digits : List ℕ

-- what a line holds: its bytes, which go to the store, and its numbers, which go to the table
pub record Line : Type 0 where
  pub bytes : List ℕ
  pub numbers : List ℕ

unfoldable pub cell_bytes : Cell → List ℕ
cell_bytes c = c.type_hash ++ c.data_hash ++ c.type_script ++ c.content

unfoldable pub cell_lengths : Cell → List ℕ
cell_lengths c = length c.type_script ∷ length c.content ∷ []

unfoldable pub bytes_line : List ℕ → Line
bytes_line bytes = record { bytes = bytes; numbers = length bytes ∷ [] }

unfoldable pub hash_line : List ℕ → Line
hash_line hash = record { bytes = hash; numbers = [] }

unfoldable pub input_line : Input → Line
input_line i = record {
  bytes = cell_bytes i.cell;
  numbers = i.group ∷ u64_halves i.since ++ cell_lengths i.cell ++ u64_halves i.capacity;
}

unfoldable pub output_line : Output → Line
output_line o = record { bytes = cell_bytes o.cell; numbers = cell_lengths o.cell ++ u64_halves o.capacity }

unfoldable pub cell_line : Cell → Line
cell_line c = record { bytes = cell_bytes c; numbers = cell_lengths c }

unfoldable pub digits_line : List ℕ → Line
digits_line digits = record { bytes = []; numbers = length digits ∷ digits }

-- a scene's lines, in order
unfoldable pub lines_of : Scene → List Line
lines_of s =
    bytes_line s.script
    ∷ hash_line s.transaction
    ∷ map input_line s.inputs
    ++ map output_line s.outputs
    ++ map cell_line s.deps
    ++ map bytes_line s.witnesses
    ++ (digits_line s.digits ∷ [])

-- 01: "The reader puts the bytes of all hexadecimal fields end to end into a lent store"
unfoldable pub scene_bytes : Scene → List ℕ
scene_bytes s = joined (map (λ (l : Line). l.bytes) (lines_of s))

-- "the rest into a lent u32 table": the number of lines of each kind behind a zero, and a record for each line: where its
-- bytes begin in the store, and its numbers
unfoldable pub counts_of : Scene → List ℕ
counts_of s =
    0 ∷ 1 ∷ 1 ∷ length s.inputs ∷ length s.outputs ∷ length s.deps ∷ length s.witnesses ∷ 1 ∷ []

unfoldable pub records_from : ℕ → List Line → List ℕ
records_from used [] = []
records_from used (l ∷ ls) = (used ∷ l.numbers) ++ records_from (used + length l.bytes) ls

unfoldable pub scene_numbers : Scene → List ℕ
scene_numbers s = counts_of s ++ records_from 0 (lines_of s)

-- "both are zeroed first": zeros behind, up to n
unfoldable pub padded_to : ℕ → List ℕ → List ℕ
padded_to n xs = xs ++ replicate (n - length xs) 0

-- the store of n bytes and the table of m entries that a scene leaves
unfoldable pub scene_store : Scene → ℕ → List ℕ
scene_store s n = padded_to n (scene_bytes s)

unfoldable pub scene_table : Scene → ℕ → List ℕ
scene_table s m = padded_to m (scene_numbers s)
