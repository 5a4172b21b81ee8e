-- 01, main.rs: "A witness's lock is field 1 and a script's args are field 3, each a Bytes: u32 length, then exactly so many
-- bytes. The other fields are not opened." The checks, and the places of the bytes.
use Rattle.std.specs.Prelude.{ℕ, ◌+◌, List, [], ◌∷◌, ◌++◌, eqb, leb, length, Err, Ok, Result}
use Rattle.octets.specs.declared.place.Place.{Place}
use Rattle.octets.specs.Le.{number_at}
use Rattle.octets.specs.Places.{bytes_at}
use Rattle.protocol.specs.Rows.{Row, row, ◌then◌, decide}
use Rattle.protocol.specs.declared.error.ProtocolError.{ProtocolError}
use Rattle.protocol.specs.declared.error.ProtocolError.TheVariants.{InvalidArgs, InvalidWitness}
use Rattle.molecule.specs.Table3.{third_offset_of, table_rows, field1, field3}

-- "u32 length, then exactly so many bytes"
abbrev pub bytes_length_of : List ℕ → ℕ
bytes_length_of field = number_at field 0 4

unfoldable pub bytes_rows : ProtocolError → List ℕ → List Row
bytes_rows e field = row (leb 4 (length field)) e ∷ row (eqb (4 + bytes_length_of field) (length field)) e ∷ []

-- the place of the bytes of a field that begins at `at`
unfoldable pub bytes_place_from : ℕ → List ℕ → Place
bytes_place_from at field = record { start = at + 4; len = bytes_length_of field }

unfoldable pub read_bytes : List ℕ → Result Place ProtocolError
read_bytes field = decide (Ok tt) (bytes_rows InvalidWitness field) then Ok (bytes_place_from 0 field)

-- "A witness's lock is field 1"; 01, "Where each refusal is raised": "table, empty lock" are 22
unfoldable pub witness_lock_rows : List ℕ → List Row
witness_lock_rows s =
    table_rows InvalidWitness s ++ (row (leb 1 (length (field1 s))) InvalidWitness ∷ bytes_rows InvalidWitness (field1 s))

abbrev pub witness_lock_place : List ℕ → Place
witness_lock_place s = bytes_place_from 16 (field1 s)

unfoldable pub read_witness_lock : List ℕ → Result Place ProtocolError
read_witness_lock s = decide (Ok tt) (witness_lock_rows s) then Ok (witness_lock_place s)

-- "a script's args are field 3"; 01, "Where each refusal is raised": "script .., its table, args" are 20
unfoldable pub script_args_rows : List ℕ → List Row
script_args_rows s = table_rows InvalidArgs s ++ bytes_rows InvalidArgs (field3 s)

abbrev pub script_args_place : List ℕ → Place
script_args_place s = bytes_place_from (third_offset_of s) (field3 s)

unfoldable pub read_script_args : List ℕ → Result Place ProtocolError
read_script_args s = decide (Ok tt) (script_args_rows s) then Ok (script_args_place s)

-- the bytes of s that an answer places, none where it is a refusal
unfoldable pub bytes_in : List ℕ → Result Place ProtocolError → List ℕ
bytes_in s (Ok p) = bytes_at s p
bytes_in s (Err e) = []
