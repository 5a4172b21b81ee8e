-- Molecule tables: 01, main.rs, `table3_fields`, the lock of a witness, the args of a script, computed from the definitions.
use Rattle.std.specs.Prelude.{ℕ, ◌+◌, ◌≡◌, List, [], ◌∷◌, ◌++◌, map, length, Ok}
use Rattle.octets.specs.Le.{to_le}
use Rattle.protocol.specs.Rows.{decide, check_number}
use Rattle.protocol.specs.declared.error.ProtocolError.TheVariants.{InvalidWitness}
use Rattle.molecule.specs.Table3.{table_rows, read_table, field1, field2, field3}
use Rattle.molecule.specs.Bytes.{read_witness_lock, read_script_args, bytes_in}
use Rattle.molecule.specs.Canonical.{canonical_of}

-- a table: its total, its three offsets, and the bytes behind them
unfoldable pub table_with : ℕ → ℕ → ℕ → ℕ → List ℕ → List ℕ
table_with total first second third rest = to_le 4 total ++ to_le 4 first ++ to_le 4 second ++ to_le 4 third ++ rest

abbrev table_number : List ℕ → ℕ
table_number s = check_number (decide (Ok tt) (table_rows InvalidWitness s))

-- by the first offset, before four bytes, and by the second and the third
abbrev by_first : ℕ → ℕ
by_first first = table_number (table_with 20 first 20 20 (1 ∷ 2 ∷ 3 ∷ 4 ∷ []))

abbrev by_offsets : ℕ → ℕ → ℕ
by_offsets second third = table_number (table_with 20 16 second third (1 ∷ 2 ∷ 3 ∷ 4 ∷ []))

abbrev by_total : ℕ → ℕ
by_total total = table_number (table_with total 16 16 16 [])

-- a table of three vectors of bytes, the first of one byte, the second of two, the third of three
unfoldable pub three_fields : List ℕ
three_fields =
    table_with 34 16 21 27 ((1 ∷ 0 ∷ 0 ∷ 0 ∷ 7 ∷ []) ++ (2 ∷ 0 ∷ 0 ∷ 0 ∷ 8 ∷ 9 ∷ []) ++ (3 ∷ 0 ∷ 0 ∷ 0 ∷ 10 ∷ 11 ∷ 12 ∷ []))

-- a witness whose first field has these bytes, and a script whose third has
abbrev lock_field_number : List ℕ → ℕ
lock_field_number field = check_number (read_witness_lock (table_with (16 + length field) 16 (16 + length field) (16 + length field) field))

abbrev args_field_number : List ℕ → ℕ
args_field_number field = check_number (read_script_args (table_with (16 + length field) 16 16 16 field))

pub record MoleculeLimits : Type 0 where
  -- "the total is the length, at least 16"
  pub of-15 : (s : List ℕ) → length s ≡ 15 → table_number s ≡ 22
  pub total : map by_total (15 ∷ 16 ∷ 17 ∷ []) ≡ 22 ∷ 0 ∷ 22 ∷ []
  -- "the first offset is 16, offsets don't fall or pass the length"
  pub first : map by_first (12 ∷ 16 ∷ 20 ∷ []) ≡ 22 ∷ 0 ∷ 22 ∷ []
  pub offsets : by_offsets 15 16 ∷ by_offsets 16 16 ∷ by_offsets 18 17 ∷ by_offsets 20 20 ∷ by_offsets 20 21 ∷ [] ≡ 22 ∷ 0 ∷ 22 ∷ 0 ∷ 22 ∷ []
  pub places : read_table three_fields ≡ Ok (record { first = 16; second = 21; third = 27 })
  pub fields : field1 three_fields ∷ field2 three_fields ∷ field3 three_fields ∷ [] ≡ (1 ∷ 0 ∷ 0 ∷ 0 ∷ 7 ∷ []) ∷ (2 ∷ 0 ∷ 0 ∷ 0 ∷ 8 ∷ 9 ∷ []) ∷ (3 ∷ 0 ∷ 0 ∷ 0 ∷ 10 ∷ 11 ∷ 12 ∷ []) ∷ []
  -- "A witness's lock is field 1 and a script's args are field 3, each a Bytes: u32 length, then exactly so many bytes."
  pub lock : bytes_in three_fields (read_witness_lock three_fields) ≡ 7 ∷ []
  pub args : bytes_in three_fields (read_script_args three_fields) ≡ 10 ∷ 11 ∷ 12 ∷ []
  pub locks : lock_field_number [] ∷ lock_field_number (0 ∷ 0 ∷ 0 ∷ []) ∷ lock_field_number (0 ∷ 0 ∷ 0 ∷ 0 ∷ []) ∷ [] ≡ 22 ∷ 22 ∷ 0 ∷ []
  pub lock-length : lock_field_number (0 ∷ 0 ∷ 0 ∷ 0 ∷ 7 ∷ []) ∷ lock_field_number (1 ∷ 0 ∷ 0 ∷ 0 ∷ 7 ∷ []) ∷ lock_field_number (2 ∷ 0 ∷ 0 ∷ 0 ∷ 7 ∷ []) ∷ lock_field_number (1 ∷ 0 ∷ 0 ∷ 1 ∷ 7 ∷ []) ∷ [] ≡ 22 ∷ 0 ∷ 22 ∷ 22 ∷ []
  pub args-length : args_field_number [] ∷ args_field_number (0 ∷ 0 ∷ 0 ∷ 0 ∷ 7 ∷ []) ∷ args_field_number (1 ∷ 0 ∷ 0 ∷ 0 ∷ 7 ∷ []) ∷ args_field_number (2 ∷ 0 ∷ 0 ∷ 0 ∷ 7 ∷ []) ∷ [] ≡ 20 ∷ 20 ∷ 0 ∷ 20 ∷ []
  -- "the lock field becomes an empty Bytes, fields 2 and 3 are copied"
  pub canonical : canonical_of three_fields ≡ table_with 33 16 20 26 ((0 ∷ 0 ∷ 0 ∷ 0 ∷ []) ++ (2 ∷ 0 ∷ 0 ∷ 0 ∷ 8 ∷ 9 ∷ []) ++ (3 ∷ 0 ∷ 0 ∷ 0 ∷ 10 ∷ 11 ∷ 12 ∷ []))
