-- What a text says: the scene that its lines hold, each line read by its kind, as 01, "The scene, added by the port", lists them.
use Rattle.std.specs.Prelude.{ℕ, ◌+◌, cond, List, [], ◌∷◌, map, get_or, eqb, Option, Some}
use Rattle.text.specs.Text.{hex_bytes, hex_val, decimal_of, number_in}
use Rattle.scene_line.specs.declared.kind.Kind.{Kind}
use Rattle.scene_line.specs.declared.kind.Kind.TheVariants as kind
use Rattle.scene_line.specs.Kind.{rank}
use Rattle.scene_table.specs.Scene.{Cell, Input, Output, Scene}
use Rattle.scene_reading.specs.Lines.{kind_of_line, fields_of_line}

-- "TYPEHASH,DATAHASH,TYPESCRIPT,DATA", the first of them at an index
unfoldable pub cell_of : ℕ → List (List ℕ) → Cell
cell_of at fs = record {
  type_hash = hex_bytes (get_or fs at []);
  data_hash = hex_bytes (get_or fs (at + 1) []);
  type_script = hex_bytes (get_or fs (at + 2) []);
  content = hex_bytes (get_or fs (at + 3) []);
}

-- the number of the field at an index
unfoldable pub decimal_field : ℕ → List (List ℕ) → ℕ
decimal_field at fs = number_in (decimal_of (get_or fs at []))

-- "`input,GROUP,SINCE,TYPEHASH,DATAHASH,TYPESCRIPT,DATA`"; 02, change 9: "Input and output lines end with a new field CAPACITY"
unfoldable pub input_of : List (List ℕ) → Input
input_of fs = record {
  group = hex_val (get_or (get_or fs 0 []) 0 0);
  since = decimal_field 1 fs;
  cell = cell_of 2 fs;
  capacity = decimal_field 6 fs;
}

unfoldable pub output_of : List (List ℕ) → Output
output_of fs = record { cell = cell_of 0 fs; capacity = decimal_field 4 fs }

-- "`witness,HEX`"
unfoldable pub bytes_field : List (List ℕ) → List ℕ
bytes_field fs = hex_bytes (get_or fs 0 [])

-- the fields of the lines of a kind, line by line
unfoldable pub fields_of_kind : Option Kind → List (List ℕ) → List (List (List ℕ))
fields_of_kind k [] = []
fields_of_kind k (l ∷ ls) = cond (eqb (rank (kind_of_line l)) (rank k)) (fields_of_line l ∷ fields_of_kind k ls) (fields_of_kind k ls)

-- the field of the only line of a kind: the first of the first line, nothing where there is no line
unfoldable pub only_field : List (List (List ℕ)) → List ℕ
only_field [] = []
only_field (fs ∷ more) = get_or fs 0 []

-- "`script,HEX`; `tx,HASH`; `input,..`; `output,` and `dep,` each with the last four; `witness,HEX`; `verdicts,DIGITS`"; "Script,
-- tx and verdicts stand once"
unfoldable pub scene_of : List (List ℕ) → Scene
scene_of ls = record {
  script = hex_bytes (only_field (fields_of_kind (Some kind.Script) ls));
  transaction = hex_bytes (only_field (fields_of_kind (Some kind.Tx) ls));
  inputs = map input_of (fields_of_kind (Some kind.Input) ls);
  outputs = map output_of (fields_of_kind (Some kind.Output) ls);
  deps = map (cell_of 0) (fields_of_kind (Some kind.Dep) ls);
  witnesses = map bytes_field (fields_of_kind (Some kind.Witness) ls);
  digits = map hex_val (only_field (fields_of_kind (Some kind.Verdicts) ls));
}
