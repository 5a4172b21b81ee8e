-- What the accessors give is the scene that the table and the store hold.
-- Assumes nothing.
use mathlib.Core.Path.{◌≡◌, refl}
use mathlib.Core.List.{List}
use Prim.Native.Nat.{ℕ, ◌+◌}
use lib.Dec.{eqb}
use lib.ListN.{length}
use Rattle.octets.specs.Places as octets
use Rattle.scene_table.specs.Scene.{Input, Output, Scene}
use Rattle.scene_table.specs.Lent.{table_entry, inputs_at, outputs_at, deps_at, witnesses_at, verdicts_at, input_width, output_width, cell_width, bytes_width, cell_from, input_from, output_from, cell_record_from, bytes_from, scene_from, scene_in, blank_scene, input_count, output_count, dep_count, witness_count, digit_count, cell_field_places, bytes_place, cell_record_places, script_place, transaction_place, input_record_places}
use Rattle.scene_table.specs.Places.{input_at, input_group, input_since, input_capacity, input_places, output_at, output_places, output_capacity, dep_places, witness_place, verdict_at, verdict_of, cell_in}
use Rattle.scene_table.proofs.Records.{Listed, length-records, records-listed}

-- input i of a table and a store
unfoldable pub lent_input : List ℕ → List ℕ → ℕ → Input
lent_input table store i = record {
  group = table_entry table (input_at i + 1);
  since = input_since table i;
  cell = cell_in store (input_places table i);
  capacity = input_capacity table i;
}

-- output i of a table and a store
unfoldable pub lent_output : List ℕ → List ℕ → ℕ → Output
lent_output table store i = record { cell = cell_in store (output_places table i); capacity = output_capacity table i }

-- an input's group is the one that `input_group` tests
pub lent-group : (table store : List ℕ) (i : ℕ) → eqb (lent_input table store i).group 1 ≡ input_group table i
unfolding lent_input input_group
lent-group table store i = refl

-- the accessors give the scene s: its parts, its lists one by one and what is left of them, its verdicts
pub record Given (table store : List ℕ) (s : Scene) : Type 0 where
  pub script : s.script ≡ octets.bytes_at store (script_place table)
  pub transaction : s.transaction ≡ octets.bytes_at store (transaction_place table)
  pub inputs : Listed s.inputs (input_count table) (lent_input table store)
  pub outputs : Listed s.outputs (output_count table) (lent_output table store)
  pub deps : Listed s.deps (dep_count table) (λ i. cell_in store (dep_places table i))
  pub witnesses : Listed s.witnesses (witness_count table) (λ i. octets.bytes_at store (witness_place table i))
  pub digits : length s.digits ≡ digit_count table
  pub verdicts : (i : ℕ) → verdict_at s.digits i ≡ verdict_of table i

pub lent-given : (table store : List ℕ) → Given table store (scene_in table store)
unfolding scene_in blank_scene scene_from script_place transaction_place bytes_place lent_input lent_output input_at input_since input_capacity input_places output_at output_places output_capacity dep_places witness_place cell_record_places octets.bytes_at cell_field_places input_from output_from input_record_places cell_from digit_count verdict_of
lent-given table store = record {
  script = refl;
  transaction = refl;
  inputs = records-listed (input_from (octets.bytes_at store) table) input_width (input_count table) inputs_at;
  outputs = records-listed (output_from (octets.bytes_at store) table) output_width (output_count table) (outputs_at table);
  deps = records-listed (cell_record_from (octets.bytes_at store) table) cell_width (dep_count table) (deps_at table);
  witnesses = records-listed (bytes_from (octets.bytes_at store) table) bytes_width (witness_count table) (witnesses_at table);
  digits = length-records (table_entry table) 1 (table_entry table (verdicts_at table + 1)) (verdicts_at table + 2);
  verdicts = λ i. refl;
}
