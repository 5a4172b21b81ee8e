-- The walk decides whether a table is one that a scene leaves.
-- Assumes nothing.
use Rattle.std.specs.Prelude.{unwrap_or}
use mathlib.Core.Path.{◌≡◌, refl, sym, ap, ap₂, ◌∙◌}
use mathlib.Core.Bool.{true, ◌&&◌}
use mathlib.Core.List.{List, [], ◌∷◌, ◌++◌, append_assoc}
use Prim.Native.Nat.{ℕ, zero, suc, ◌+◌, ◌-◌, ◌^◌, ◌≤◌, ◌<◌}
use native.Mathlib.Omega.{arith}
use borrow.Author.Tests.{eq-eqb, eqb-true, le-leb, leb-true}
use lib.Dec.{leb, ltb, eqb}
use lib.ListN.{length, take, drop, get_or, replicate, length-append, length-drop, take-append-drop}
use lib.Seq.{drop_at, take-add}
use Rattle.octets.proofs.Same.{same-eq, eq-same}
use Rattle.octets.proofs.Parts.{part-back}
use Rattle.octets.specs.Lists.{every}
use Rattle.protocol.specs.Limits.{table_min_entries}
use Rattle.scene_table.specs.Scene.{lines_of, records_from, counts_of, scene_bytes, scene_numbers, padded_to, scene_table}
use Rattle.scene_table.specs.Lent.{table_entry, inputs_at, outputs_at, deps_at, witnesses_at, verdicts_at, records_at, input_width, output_width, cell_width, bytes_width, input_from, output_from, cell_record_from, bytes_from, scene_from, blank_scene, input_count, output_count, dep_count, witness_count, digit_count, bytes_place, script_place, transaction_place, zeros_at}
use Rattle.scene_table.specs.Valid.{valid_table}
use Rattle.scene_table.specs.RecordsWalk.{records_start, walk_lines, counts_ok, zeros_behind, rest_ok}
use Rattle.scene_table.proofs.Records.{length-records}
use Rattle.scene_table.proofs.Lines.{total, total-joined, cut, cut-take}
use Rattle.octets.proofs.Truth.{and_both, both-and, same_truth}
use Rattle.scene_table.proofs.WholeWalk.{span, Groups, whole}
use Rattle.scene_table.proofs.BlankScene.{blank_ok}

-- zeros, and lists that are
pub zeros-pass : (n : ℕ) → every (λ (e : ℕ). eqb e 0) (replicate n 0) ≡ true
unfolding every
zeros-pass zero = refl
zeros-pass (suc n) = zeros-pass n

pub pass-zeros : (l : List ℕ) → every (λ (e : ℕ). eqb e 0) l ≡ true → l ≡ replicate (length l) 0
unfolding every
pass-zeros [] h = refl
pass-zeros (x ∷ xs) h =
    let a = and_both (eqb x 0) (every (λ (e : ℕ). eqb e 0) xs) h in
    ap₂ (λ (n : ℕ) (l : List ℕ). n ∷ l) (eqb-true x 0 a.0) (pass-zeros xs a.1)

-- the first eight entries
cut-entries : (table : List ℕ) → cut table 8 0
    ≡ table_entry table 0 ∷ table_entry table 1 ∷ table_entry table 2 ∷ input_count table ∷ output_count table ∷ dep_count table ∷ witness_count table ∷ table_entry table 7 ∷ []
unfolding cut records_at
cut-entries table = refl

module _ (table : List ℕ) where
  -- the counts that the table says
  said-counts : counts_of (blank_scene table) ≡ 0 ∷ 1 ∷ 1 ∷ input_count table ∷ output_count table ∷ dep_count table ∷ witness_count table ∷ 1 ∷ []
  unfolding counts_of blank_scene scene_from script_place transaction_place bytes_place
  said-counts =
      rw (
        length-records (input_from zeros_at table) input_width (input_count table) inputs_at,
        length-records (output_from zeros_at table) output_width (output_count table) (outputs_at table),
        length-records (cell_record_from zeros_at table) cell_width (dep_count table) (deps_at table),
        length-records (bytes_from zeros_at table) bytes_width (witness_count table) (witnesses_at table),
      )

  -- the records end behind the last digit
  ends : 8 + span table ≡ verdicts_at table + 2 + digit_count table
  unfolding span verdicts_at witnesses_at deps_at outputs_at inputs_at
  ends = omega arith

  -- what it takes to be the table of the scene that it says
  pub record Own : Type 0 where
    pub zeroth : table_entry table 0 ≡ 0
    pub scripts : table_entry table 1 ≡ 1
    pub transactions : table_entry table 2 ≡ 1
    pub verdicts : table_entry table 7 ≡ 1
    pub records : records_from 0 (lines_of (blank_scene table)) ≡ cut table (span table) 8
    pub behind : zeros_behind table ≡ true

  module _ (long : length (records_from 0 (lines_of (blank_scene table))) ≡ span table) (room : 8 + span table ≤ length table) where
    own-counts : Own → cut table 8 0 ≡ counts_of (blank_scene table)
    own-counts o = rw (cut-entries table, said-counts, o.zeroth, o.scripts, o.transactions, o.verdicts)

    numbers-long : length (scene_numbers (blank_scene table)) ≡ 8 + span table
    unfolding scene_numbers
    numbers-long = rw (length-append, said-counts, long)

    pub own-table : Own → table ≡ scene_table (blank_scene table) (length table)
    unfolding scene_table padded_to scene_numbers zeros_behind
    own-table o =
        let k = 8 + span table in
        let front : take k table ≡ counts_of (blank_scene table) ++ records_from 0 (lines_of (blank_scene table)) =
        take-add 8 (span table) table
        ∙ ap₂ (λ (x y : List ℕ). x ++ y) (sym (cut-take table 8 0 (omega arith)) ∙ own-counts o) (sym (cut-take table (span table) 8 room) ∙ sym o.records) in
        let back : drop k table ≡ replicate (length table - k) 0 = rw (length-drop k table) at (pass-zeros (drop k table) (rw ends o.behind)) in
        sym (take-append-drop k table) ∙ (ap₂ (λ (x y : List ℕ). x ++ y) front back ∙ rw numbers-long)

    pub table-own : table ≡ scene_table (blank_scene table) (length table) → Own
    unfolding scene_table padded_to scene_numbers zeros_behind
    table-own e =
        let c = counts_of (blank_scene table) in
        let r = records_from 0 (lines_of (blank_scene table)) in
        let z : List ℕ = replicate (length table - length (c ++ r)) 0 in
        let f : table ≡ c ++ (r ++ z) = e ∙ append_assoc c r z in
        let eight : length c ≡ 8 = rw said-counts in
        let counts : cut table 8 0 ≡ c = cut-take table 8 0 (omega arith) ∙ part-back table [] c (r ++ z) 0 8 f refl eight in
        let said = counts ∙ said-counts in
        let behind : drop (8 + span table) table ≡ z = ap (drop (8 + span table)) e ∙ drop_at (c ++ r) z (8 + span table) numbers-long in
        record {
          zeroth = ap (λ (l : List ℕ). get_or l 0 0) (sym (cut-entries table) ∙ said);
          scripts = ap (λ (l : List ℕ). get_or l 1 0) (sym (cut-entries table) ∙ said);
          transactions = ap (λ (l : List ℕ). get_or l 2 0) (sym (cut-entries table) ∙ said);
          verdicts = ap (λ (l : List ℕ). get_or l 7 0) (sym (cut-entries table) ∙ said);
          records = sym (cut-take table (span table) 8 room ∙ part-back table c r z 8 (span table) f eight long);
          behind = rw (← ends, behind) (zeros-pass (length table - length (c ++ r)));
        }

  -- the counts in range
  pub record Few : Type 0 where
    pub enough : table_min_entries ≤ length table
    pub inputs : input_count table ≤ 64
    pub outputs : output_count table ≤ 64
    pub deps : dep_count table ≤ 64
    pub witnesses : witness_count table ≤ 64
    pub digits : digit_count table ≤ 16

  room_for : Few → 8 + span table ≤ length table
  unfolding span
  room_for f = omega arith

  record Counted : Type 0 where
    few : Few
    zeroth : table_entry table 0 ≡ 0
    scripts : table_entry table 1 ≡ 1
    transactions : table_entry table 2 ≡ 1
    verdicts : table_entry table 7 ≡ 1

  counted : counts_ok table ≡ true → Counted
  unfolding counts_ok
  counted h =
      let a = and_both _ _ h in
      let b = and_both _ _ a.0 in
      let c = and_both _ _ b.0 in
      let d = and_both _ _ c.0 in
      let e = and_both _ _ d.0 in
      let f = and_both _ _ e.0 in
      let g = and_both _ _ f.0 in
      let i = and_both _ _ g.0 in
      let j = and_both _ _ i.0 in
      record {
        few = record {
          enough = leb-true table_min_entries (length table) j.0;
          inputs = leb-true (input_count table) 64 f.1;
          outputs = leb-true (output_count table) 64 e.1;
          deps = leb-true (dep_count table) 64 d.1;
          witnesses = leb-true (witness_count table) 64 c.1;
          digits = leb-true (digit_count table) 16 a.1;
        };
        zeroth = eqb-true (table_entry table 0) 0 j.1;
        scripts = eqb-true (table_entry table 1) 1 i.1;
        transactions = eqb-true (table_entry table 2) 1 g.1;
        verdicts = eqb-true (table_entry table 7) 1 b.1;
      }

  counts-pass : Counted → counts_ok table ≡ true
  unfolding counts_ok
  counts-pass c =
      rw (
        le-leb table_min_entries (length table) c.few.enough,
        eq-eqb (table_entry table 0) 0 c.zeroth,
        eq-eqb (table_entry table 1) 1 c.scripts,
        eq-eqb (table_entry table 2) 1 c.transactions,
        le-leb (input_count table) 64 c.few.inputs,
        le-leb (output_count table) 64 c.few.outputs,
        le-leb (dep_count table) 64 c.few.deps,
        le-leb (witness_count table) 64 c.few.witnesses,
        eq-eqb (table_entry table 7) 1 c.verdicts,
        le-leb (digit_count table) 16 c.few.digits,
      )

  bytes-total : length (scene_bytes (blank_scene table)) ≡ total (lines_of (blank_scene table))
  unfolding scene_bytes
  bytes-total = total-joined (lines_of (blank_scene table))

  module _ (small : (i : ℕ) → table_entry table i < 2 ^ 32) (n : ℕ) where
    walk-valid : counts_ok table ≡ true → rest_ok table n ≡ true → valid_table table n ≡ true
    unfolding rest_ok valid_table records_start Groups
    walk-valid h g =
        let c = counted h in
        let a = and_both _ _ g in
        let b = and_both _ _ a.0 in
        let d = and_both _ _ b.0 in
        let w = whole table small in
        let t = w.there d.0 in
        let u : unwrap_or (walk_lines table) 0 ≡ total (lines_of (blank_scene table)) = omega (arith, t.3) in
        let own : Own = record { zeroth = c.zeroth; scripts = c.scripts; transactions = c.transactions; verdicts = c.verdicts; records = t.2; behind = a.1 } in
        rw (
          le-leb table_min_entries (length table) c.few.enough,
          blank_ok table small,
          le-leb (input_count table) 64 c.few.inputs,
          t.1,
          le-leb (output_count table) 64 c.few.outputs,
          le-leb (dep_count table) 64 c.few.deps,
          le-leb (witness_count table) 64 c.few.witnesses,
          le-leb (digit_count table) 16 c.few.digits,
          d.1,
          bytes-total,
          ← u,
          b.1,
        )
        (eq-same _ _ (own-table (w.long 0) (room_for c.few) own))

    valid-walk : valid_table table n ≡ true → (counts_ok table ≡ true) × (rest_ok table n ≡ true)
    unfolding rest_ok valid_table records_start Groups
    valid-walk h =
        let a = and_both _ _ h in
        let b = and_both _ _ a.1 in
        let c = and_both _ _ b.1 in
        let ok = and_both _ _ (sym (blank_ok table small) ∙ b.0) in
        let inputs = and_both _ _ ok.0 in
        let outputs = and_both _ _ ok.1 in
        let deps = and_both _ _ outputs.1 in
        let witnesses = and_both _ _ deps.1 in
        let digits = and_both _ _ witnesses.1 in
        let few : Few = record {
          enough = leb-true table_min_entries (length table) a.0;
          inputs = leb-true (input_count table) 64 inputs.0;
          outputs = leb-true (output_count table) 64 outputs.0;
          deps = leb-true (dep_count table) 64 deps.0;
          witnesses = leb-true (witness_count table) 64 witnesses.0;
          digits = leb-true (digit_count table) 16 digits.0;
        } in
        let below : every (λ (d : ℕ). ltb d 3) (blank_scene table).digits ≡ true = digits.1 in
        let fits : leb (length (scene_bytes (blank_scene table))) n ≡ true = c.0 in
        let w = whole table small in
        let own = table-own (w.long 0) (room_for few) (same-eq table (scene_table (blank_scene table) (length table)) c.1) in
        let good = w.back refl inputs.1 own.records in
        let u : unwrap_or (walk_lines table) 0 ≡ length (scene_bytes (blank_scene table)) = omega (arith, (w.there good).3, bytes-total) in (
          counts-pass record { few = few; zeroth = own.zeroth; scripts = own.scripts; transactions = own.transactions; verdicts = own.verdicts },
          rw (good, below, u, fits) own.behind,
        )

    -- the walk decides
    pub decides : (counts_ok table && rest_ok table n) ≡ valid_table table n
    decides =
        same_truth
        (counts_ok table && rest_ok table n)
        (valid_table table n)
        (λ h. let a = and_both (counts_ok table) (rest_ok table n) h in walk-valid a.0 a.1)
        (λ h. let a = valid-walk h in both-and (counts_ok table) (rest_ok table n) a.0 a.1)
