-- Tables of three fields: their written form, what the loose reader's rows and its answer say, and the fields of one whose rows pass.
-- Assumes nothing.
use Rattle.std.specs.Prelude.{Ok}
use mathlib.Core.Path.{◌≡◌, sym}
use mathlib.Core.List.{List, [], ◌∷◌, ◌++◌, append-nil}
use Prim.Native.Nat.{ℕ, ◌+◌, ◌-◌, ◌≤◌}
use native.Mathlib.Omega.{arith}
use borrow.Author.Tests.{leb-true, eqb-true, le-leb, eq-eqb}
use lib.ListN.{length, length-append, length-drop}
use Rattle.octets.specs.Lists.{joined}
use Rattle.octets.specs.Layout.{Field, layout_bytes}
use Rattle.octets.proofs.LayoutLaws.{length-numbers}
use Rattle.octets.proofs.Parts.{part_length}
use Rattle.protocol.specs.Rows.{decide, AllPass}
use Rattle.protocol.specs.declared.error.ProtocolError.{ProtocolError}
use Rattle.protocol.specs.declared.error.ProtocolError.TheVariants.{InvalidWitness}
use Rattle.protocol.proofs.AllPass.{passed-all-pass}
use Rattle.protocol.proofs.Answers.{then-given}
use Rattle.molecule.specs.declared.table.TableFields.{TableFields}
use Rattle.molecule.specs.Molecule.{offsets_from, head_size, table_head, table_bytes}
use Rattle.molecule.specs.Table3.{table_rows, table_fields_of, read_table, between, field1, field2, field3, first_offset_of, second_offset_of, table_total_of, third_offset_of}

-- the numbers before the fields
abbrev pub head3 : ℕ → ℕ → ℕ → List Field
head3 total second third =
    record { width = 4; value = total }
    ∷ record { width = 4; value = 16 }
    ∷ record { width = 4; value = second }
    ∷ record { width = 4; value = third }
    ∷ []

module _ (a b c : List ℕ) where
  pub three-layout : table_bytes (a ∷ b ∷ c ∷ [])
      ≡ layout_bytes (head3 (16 + length a + length b + length c) (16 + length a) (16 + length a + length b)) ++ (a ++ (b ++ c))
  unfolding table_bytes table_head head_size offsets_from joined
  three-layout =
      let e : 16 + length (a ++ (b ++ c)) ≡ 16 + length a + length b + length c = simp length-append (omega arith) in
      rw (append-nil, e)

  pub length_three : length (table_bytes (a ∷ b ∷ c ∷ [])) ≡ 16 + length a + length b + length c
  length_three =
      let h = head3 (16 + length a + length b + length c) (16 + length a) (16 + length a + length b) in
      let n : length (layout_bytes h) ≡ 16 = length-numbers h in
      rw (three-layout) (simp (length-append, n) (omega arith))

-- what the rows say of a table where all of them pass
pub record TablePasses (s : List ℕ) : Type 0 where
  pub header : 16 ≤ length s
  pub total : table_total_of s ≡ length s
  pub first : first_offset_of s ≡ 16
  pub second : 16 ≤ second_offset_of s
  pub third : second_offset_of s ≤ third_offset_of s
  pub end : third_offset_of s ≤ length s

pub table-passes : (e : ProtocolError) (s : List ℕ) → AllPass (table_rows e s) → TablePasses s
unfolding table_rows
table-passes e s h =
    record {
      header = leb-true _ _ h.0;
      total = eqb-true _ _ h.1.0;
      first = eqb-true _ _ h.1.1.0;
      second = leb-true _ _ h.1.1.1.0;
      third = leb-true _ _ h.1.1.1.1.0;
      end = leb-true _ _ h.1.1.1.1.1.0;
    }

pub table-passes-hold : (e : ProtocolError) (s : List ℕ) → TablePasses s → AllPass (table_rows e s)
unfolding table_rows
table-passes-hold e s z =
    (le-leb _ _ z.header, (eq-eqb _ _ z.total, (eq-eqb _ _ z.first, (le-leb _ _ z.second, (le-leb _ _ z.third, (le-leb _ _ z.end, tt))))))

-- the fields of a table whose rows pass
module _ (s : List ℕ) (z : TablePasses s) where
  pub length-field1 : length (field1 s) ≡ second_offset_of s - 16
  unfolding field1 between
  length-field1 = part_length s 16 (second_offset_of s - 16) (omega arith)

  pub length-field2 : length (field2 s) ≡ third_offset_of s - second_offset_of s
  unfolding field2 between
  length-field2 = part_length s (second_offset_of s) (third_offset_of s - second_offset_of s) (omega arith)

  pub length-field3 : length (field3 s) ≡ length s - third_offset_of s
  unfolding field3
  length-field3 = length-drop (third_offset_of s) s

-- the fields of an answer that accepts
pub table-given : (s : List ℕ) (f : TableFields) → read_table s ≡ Ok f → AllPass (table_rows InvalidWitness s) × (f ≡ table_fields_of s)
unfolding read_table
table-given s f h =
    let z = then-given (table_fields_of s) (decide (Ok tt) (table_rows InvalidWitness s)) f h in
    (passed-all-pass (table_rows InvalidWitness s) z.0, sym z.1)
