-- What the lock reads from a table: numbers, and places of bytes in the store.
use Rattle.std.specs.Prelude.{ℕ, ◌+◌, ◌*◌, Bool, List, get_or, eqb}
use Rattle.octets.specs.declared.place.Place.{Place}
use Rattle.octets.specs.Places.{bytes_at}
use Rattle.scene_table.specs.Scene.{Cell}
use Rattle.scene_table.specs.Lent.{inputs_at, outputs_at, deps_at, witnesses_at, input_width, output_width, cell_width, bytes_width, input_record_group, input_record_since, input_record_capacity, output_record_capacity, blank_scene, bytes_place, cell_record_places, input_record_places, cell_from}
use Rattle.scene_table.specs.declared.places.CellPlaces.{CellPlaces}

-- where the record of input i begins
unfoldable pub input_at : ℕ → ℕ
input_at i = inputs_at + input_width * i

-- "GROUP is 1 where the input runs this lock"
unfoldable pub input_group : List ℕ → ℕ → Bool
input_group table i = eqb (input_record_group table (input_at i)) 1

unfoldable pub input_since : List ℕ → ℕ → ℕ
input_since table i = input_record_since table (input_at i)

unfoldable pub input_places : List ℕ → ℕ → CellPlaces
input_places table i = input_record_places table (input_at i)

unfoldable pub input_capacity : List ℕ → ℕ → ℕ
input_capacity table i = input_record_capacity table (input_at i)

-- where the record of output i begins
unfoldable pub output_at : List ℕ → ℕ → ℕ
output_at table i = outputs_at table + output_width * i

unfoldable pub output_places : List ℕ → ℕ → CellPlaces
output_places table i = cell_record_places table (output_at table i)

unfoldable pub output_capacity : List ℕ → ℕ → ℕ
output_capacity table i = output_record_capacity table (output_at table i)

unfoldable pub dep_places : List ℕ → ℕ → CellPlaces
dep_places table i = cell_record_places table (deps_at table + cell_width * i)

-- "witness i belongs to input i"
unfoldable pub witness_place : List ℕ → ℕ → Place
witness_place table i = bytes_place table (witnesses_at table + bytes_width * i)

-- "a proof without a digit counts as 2"
unfoldable pub verdict_at : List ℕ → ℕ → ℕ
verdict_at digits i = get_or digits i 2

unfoldable pub verdict_of : List ℕ → ℕ → ℕ
verdict_of table i = verdict_at (blank_scene table).digits i

-- the cell at its places in the store
abbrev pub cell_in : List ℕ → CellPlaces → Cell
cell_in store p = cell_from (bytes_at store) p
