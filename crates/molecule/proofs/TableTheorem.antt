-- Tables of three fields: accepted exactly where every check passes, and then exactly one reading has them as its written
-- form, which is the one that the reader gives; and what is written so is accepted. Strict Molecule differs only inside
-- the fields, which the reader does not open.
-- Assumes nothing.
use Rattle.std.specs.Prelude.{Err, Ok}
use mathlib.Core.Path.{◌≡◌, sym, ap, ◌∙◌}
use mathlib.Core.List.{List, [], ◌∷◌}
use mathlib.Core.Logic.{◌↔◌}
use Prim.Native.Nat.{ℕ, ◌+◌, ◌^◌, ◌<◌}
use native.Mathlib.Omega.{arith}
use lib.ListN.{length}
use Rattle.octets.specs.Le.{Bytes}
use Rattle.octets.proofs.LeLaws.{number_lt}
use Rattle.protocol.specs.Rows.{AllPass, FirstFailed}
use Rattle.protocol.specs.Reading.{OneReading}
use Rattle.protocol.specs.declared.error.ProtocolError.{ProtocolError}
use Rattle.protocol.specs.declared.error.ProtocolError.TheVariants.{InvalidWitness}
use Rattle.protocol.proofs.Answers.{then-accepts, then-refuses}
use Rattle.molecule.specs.declared.table.TableFields.{TableFields}
use Rattle.molecule.specs.Molecule.{table_bytes}
use Rattle.molecule.specs.Table3.{table_rows, table_fields_of, read_table, field1, field2, field3, Table3, table3_bytes, table_given}
use Rattle.molecule.proofs.Form.{length_three, TablePasses, table-passes, table-passes-hold, table-given}
use Rattle.molecule.proofs.Inverse.{table-written, written-passes, field1-read, field2-read, field3-read}

-- accepted exactly where every check passes
pub table-accepts : (s : List ℕ) → (read_table s ≡ Ok (table_fields_of s)) ↔ AllPass (table_rows InvalidWitness s)
unfolding read_table
table-accepts s = then-accepts (table_fields_of s) (table_rows InvalidWitness s)

-- refused exactly with the first check that fails
pub table-refuses : (s : List ℕ) (e : ProtocolError) → (read_table s ≡ Err e) ↔ FirstFailed (table_rows InvalidWitness s) e
unfolding read_table
table-refuses s e = then-refuses (table_fields_of s) (table_rows InvalidWitness s) e

-- a written table whose size fits its field is accepted, and read as what was written
pub table-accepted : (e : ProtocolError) (r : Table3) → length (table3_bytes r) < 2 ^ 32
    → AllPass (table_rows e (table3_bytes r)) × (table_given (table3_bytes r) (table_fields_of (table3_bytes r)) ≡ r)
unfolding table3_bytes table_given table_fields_of field1 field2 field3
table-accepted e r h =
    let a = r.first in
    let b = r.second in
    let c = r.third in
    let n : length (table_bytes (a ∷ b ∷ c ∷ [])) ≡ 16 + length a + length b + length c = length_three a b c in
    let small : 16 + length a + length b + length c < 2 ^ 32 = omega arith in
    (table-passes-hold e (table_bytes (a ∷ b ∷ c ∷ [])) (written-passes a b c small), rw (field1-read a b c small, field2-read a b c small, field3-read a b c small))

-- a table whose rows pass has a size that fits
fits-field : (s : List ℕ) → Bytes s → TablePasses s → length s < 2 ^ 32
fits-field s b z = rw z.total at (number_lt s 0 4 b)

-- The theorem: an accepted table has exactly one reading, that of the answer.
pub table-theorem : (s : List ℕ) (f : TableFields) → Bytes s → read_table s ≡ Ok f → OneReading (λ (r : Table3). Unit {0}) table3_bytes s (table_given s f)
unfolding table3_bytes table_given table_fields_of field1 field2 field3
table-theorem s f b h =
    let g = table-given s f h in
    let z : TablePasses s = table-passes InvalidWitness s g.0 in
    let l : length s < 2 ^ 32 = fits-field s b z in
    rw g.1
    (record {
      typed = tt;
      written = table-written s b z;
      unique = λ q t w. sym (table-accepted InvalidWitness q (rw w l)).1 ∙ ap (λ (v : List ℕ). table_given v (table_fields_of v)) w;
    })
