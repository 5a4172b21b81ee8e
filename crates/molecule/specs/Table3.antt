-- 01, main.rs: "`table3_fields` takes a Molecule table of three fields loosely". Its checks, its fields, and what its reader
-- answers.
use Rattle.std.specs.Prelude.{ℕ, ◌-◌, List, [], ◌∷◌, eqb, leb, length, take, drop, Ok, Result}
use Rattle.octets.specs.Le.{number_at}
use Rattle.protocol.specs.Rows.{Row, row, ◌then◌, decide}
use Rattle.protocol.specs.declared.error.ProtocolError.{ProtocolError}
use Rattle.protocol.specs.declared.error.ProtocolError.TheVariants.{InvalidWitness}
use Rattle.molecule.specs.Molecule.{table_bytes}
use Rattle.molecule.specs.declared.table.TableFields.{TableFields}

-- a table's total size, and where its three fields begin
abbrev pub table_total_of : List ℕ → ℕ
table_total_of s = number_at s 0 4

abbrev pub first_offset_of : List ℕ → ℕ
first_offset_of s = number_at s 4 4

abbrev pub second_offset_of : List ℕ → ℕ
second_offset_of s = number_at s 8 4

abbrev pub third_offset_of : List ℕ → ℕ
third_offset_of s = number_at s 12 4

-- 01: "the first offset is 16, offsets don't fall or pass the length, the total is the length, at least 16." Every check has
-- the same refusal, which the caller names: 22 for a witness, 20 for a script.
unfoldable pub table_rows : ProtocolError → List ℕ → List Row
table_rows e s =
    row (leb 16 (length s)) e
    ∷ row (eqb (table_total_of s) (length s)) e
    ∷ row (eqb (first_offset_of s) 16) e
    ∷ row (leb 16 (second_offset_of s)) e
    ∷ row (leb (second_offset_of s) (third_offset_of s)) e
    ∷ row (leb (third_offset_of s) (length s)) e
    ∷ []

-- where each field begins; it ends where the next one begins, the last with the bytes
unfoldable pub table_fields_of : List ℕ → TableFields
table_fields_of s = record { first = 16; second = second_offset_of s; third = third_offset_of s }

unfoldable pub read_table : List ℕ → Result TableFields ProtocolError
read_table s = decide (Ok tt) (table_rows InvalidWitness s) then Ok (table_fields_of s)

-- the bytes of s from one place up to another
unfoldable pub between : List ℕ → ℕ → ℕ → List ℕ
between s start end = take (end - start) (drop start s)

-- the bytes of the fields
unfoldable pub field1 : List ℕ → List ℕ
field1 s = between s 16 (second_offset_of s)

unfoldable pub field2 : List ℕ → List ℕ
field2 s = between s (second_offset_of s) (third_offset_of s)

unfoldable pub field3 : List ℕ → List ℕ
field3 s = drop (third_offset_of s) s

-- A reading of a table is the bytes of its fields; its written form is the table of them.
pub record Table3 : Type 0 where
  pub first : List ℕ
  pub second : List ℕ
  pub third : List ℕ

unfoldable pub table3_bytes : Table3 → List ℕ
table3_bytes r = table_bytes (r.first ∷ r.second ∷ r.third ∷ [])

-- what the fields of an answer say of the bytes s
unfoldable pub table_given : List ℕ → TableFields → Table3
table_given s f = record { first = between s f.first f.second; second = between s f.second f.third; third = drop f.third s }
