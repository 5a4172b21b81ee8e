-- The scene that a lent table and store hold, laid out as docs/LAYOUTS.md, "The lent table and store", says. Past the end of either
-- there is nothing.
use Rattle.std.specs.Prelude.{ℕ, zero, suc, ◌+◌, ◌*◌, ◌^◌, cond, List, [], ◌∷◌, get_or, replicate, eqb}
use Rattle.octets.specs.declared.place.Place.{Place}
use Rattle.octets.specs.Places.{bytes_at}
use Rattle.scene_table.specs.Scene.{Cell, Input, Output, Scene}
use Rattle.scene_table.specs.declared.places.CellPlaces.{CellPlaces}

unfoldable pub table_entry : List ℕ → ℕ → ℕ
table_entry table i = get_or table i 0

-- "the number of lines of each kind": of those that may stand more than once
abbrev pub input_count : List ℕ → ℕ
input_count table = table_entry table 3

abbrev pub output_count : List ℕ → ℕ
output_count table = table_entry table 4

abbrev pub dep_count : List ℕ → ℕ
dep_count table = table_entry table 5

abbrev pub witness_count : List ℕ → ℕ
witness_count table = table_entry table 6

-- how many entries the record of an input has, that of an output, of a dep, and of a witness
abbrev pub input_width : ℕ
input_width = 8

abbrev pub output_width : ℕ
output_width = 5

abbrev pub cell_width : ℕ
cell_width = 3

abbrev pub bytes_width : ℕ
bytes_width = 2

-- where the records of each kind begin: script, tx, then the inputs, outputs, deps, witnesses, and the verdicts
abbrev pub script_at : ℕ
script_at = 8

abbrev pub transaction_at : ℕ
transaction_at = 10

unfoldable pub inputs_at : ℕ
inputs_at = 11

unfoldable pub outputs_at : List ℕ → ℕ
outputs_at table = inputs_at + input_width * input_count table

unfoldable pub deps_at : List ℕ → ℕ
deps_at table = outputs_at table + output_width * output_count table

unfoldable pub witnesses_at : List ℕ → ℕ
witnesses_at table = deps_at table + cell_width * dep_count table

unfoldable pub verdicts_at : List ℕ → ℕ
verdicts_at table = witnesses_at table + bytes_width * witness_count table

-- the verdicts' record: "offset, number of digits, the digits"
unfoldable pub digit_count : List ℕ → ℕ
digit_count table = table_entry table (verdicts_at table + 1)

abbrev pub digits_at : List ℕ → ℕ
digits_at table = verdicts_at table + 2

-- the fields of the record at `at`. "A record begins with the offset in the store of its line's first byte."
abbrev pub record_offset : List ℕ → ℕ → ℕ
record_offset table at = table_entry table at

-- of the script and of a witness: "offset, length"
abbrev pub bytes_length : List ℕ → ℕ → ℕ
bytes_length table at = table_entry table (at + 1)

-- the u64 whose halves stand at two entries, the low one first
abbrev pub table_u64 : List ℕ → ℕ → ℕ
table_u64 table at = table_entry table at + 2 ^ 32 * table_entry table (at + 1)

-- of an input: "offset, GROUP, low and high half of SINCE, length of TYPESCRIPT, length of DATA, low and high half of CAPACITY"
abbrev pub input_record_group : List ℕ → ℕ → ℕ
input_record_group table at = table_entry table (at + 1)

abbrev pub input_record_since : List ℕ → ℕ → ℕ
input_record_since table at = table_u64 table (at + 2)

abbrev pub input_script_length : List ℕ → ℕ → ℕ
input_script_length table at = table_entry table (at + 4)

abbrev pub input_data_length : List ℕ → ℕ → ℕ
input_data_length table at = table_entry table (at + 5)

abbrev pub input_record_capacity : List ℕ → ℕ → ℕ
input_record_capacity table at = table_u64 table (at + 6)

-- of an output or a dep: "offset, length of TYPESCRIPT, length of DATA", and of an output "low and high half of CAPACITY"
abbrev pub cell_script_length : List ℕ → ℕ → ℕ
cell_script_length table at = table_entry table (at + 1)

abbrev pub cell_data_length : List ℕ → ℕ → ℕ
cell_data_length table at = table_entry table (at + 2)

abbrev pub output_record_capacity : List ℕ → ℕ → ℕ
output_record_capacity table at = table_u64 table (at + 3)

-- n records of w entries, the first at `at`
unfoldable pub records_at : {A : Type 0} → (ℕ → A) → ℕ → ℕ → ℕ → List A
records_at read w zero at = []
records_at read w (suc n) at = read at ∷ records_at read w n (at + w)

-- 01: "TYPEHASH and TYPESCRIPT are both empty or neither": the length of the first by that of the second
unfoldable pub hash_length : ℕ → ℕ
hash_length script = cond (eqb script 0) 0 32

-- a place of n bytes
abbrev pub place_at : ℕ → ℕ → Place
place_at start n = record { start = start; len = n }

-- the fields of a cell, by where its bytes begin and the lengths of its type script and its data
unfoldable pub cell_field_places : ℕ → ℕ → ℕ → CellPlaces
cell_field_places start script content = record {
  type_hash = place_at start (hash_length script);
  data_hash = place_at (start + hash_length script) 32;
  type_script = place_at (start + hash_length script + 32) script;
  content = place_at (start + hash_length script + 32 + script) content;
}

-- the bytes of the script's or a witness's record
unfoldable pub bytes_place : List ℕ → ℕ → Place
bytes_place table at = place_at (record_offset table at) (bytes_length table at)

-- the cell of an output's or a dep's record, and that of an input's
unfoldable pub cell_record_places : List ℕ → ℕ → CellPlaces
cell_record_places table at = cell_field_places (record_offset table at) (cell_script_length table at) (cell_data_length table at)

unfoldable pub input_record_places : List ℕ → ℕ → CellPlaces
input_record_places table at = cell_field_places (record_offset table at) (input_script_length table at) (input_data_length table at)

unfoldable pub script_place : List ℕ → Place
script_place table = bytes_place table script_at

unfoldable pub transaction_place : List ℕ → Place
transaction_place table = place_at (record_offset table transaction_at) 32

-- the scene of a table by `from`, which gives the bytes at a place
unfoldable pub cell_from : (Place → List ℕ) → CellPlaces → Cell
cell_from from p = record {
  type_hash = from p.type_hash;
  data_hash = from p.data_hash;
  type_script = from p.type_script;
  content = from p.content;
}

unfoldable pub input_from : (Place → List ℕ) → List ℕ → ℕ → Input
input_from from table at = record {
  group = input_record_group table at;
  since = input_record_since table at;
  cell = cell_from from (input_record_places table at);
  capacity = input_record_capacity table at;
}

abbrev pub cell_record_from : (Place → List ℕ) → List ℕ → ℕ → Cell
cell_record_from from table at = cell_from from (cell_record_places table at)

unfoldable pub output_from : (Place → List ℕ) → List ℕ → ℕ → Output
output_from from table at = record { cell = cell_record_from from table at; capacity = output_record_capacity table at }

abbrev pub bytes_from : (Place → List ℕ) → List ℕ → ℕ → List ℕ
bytes_from from table at = from (bytes_place table at)

unfoldable pub scene_from : (Place → List ℕ) → List ℕ → Scene
scene_from from table = record {
  script = from (script_place table);
  transaction = from (transaction_place table);
  inputs = records_at (input_from from table) input_width (input_count table) inputs_at;
  outputs = records_at (output_from from table) output_width (output_count table) (outputs_at table);
  deps = records_at (cell_record_from from table) cell_width (dep_count table) (deps_at table);
  witnesses = records_at (bytes_from from table) bytes_width (witness_count table) (witnesses_at table);
  digits = records_at (table_entry table) 1 (digit_count table) (digits_at table);
}

-- the scene in a table and a store
unfoldable pub scene_in : List ℕ → List ℕ → Scene
scene_in table store = scene_from (bytes_at store) table

-- as many zeros as a place has bytes
abbrev pub zeros_at : Place → List ℕ
zeros_at p = replicate p.len 0

-- the scene of a table alone, every byte of the store zero
unfoldable pub blank_scene : List ℕ → Scene
blank_scene table = scene_from zeros_at table
