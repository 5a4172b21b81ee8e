-- The whole table of a scene read back.
-- Assumes nothing.
use mathlib.Core.Path.{◌≡◌, refl, sym, ap, ◌∙◌}
use mathlib.Core.Bool.{Bool, true}
use mathlib.Core.List.{List, [], ◌∷◌, ◌++◌, map, append_assoc, append-nil}
use Prim.Native.Nat.{ℕ, suc, ◌+◌, ◌-◌, ◌*◌, ◌≤◌}
use native.Mathlib.Nat.{zero-lt-suc}
use native.Mathlib.Omega.{arith}
use borrow.Author.Tests.{leb-true}
use lib.Dec.{leb, ltb}
use lib.ListN.{length, replicate, length-append}
use Rattle.octets.proofs.Parts.{part-back}
use Rattle.octets.specs.Lists.{every}
use Rattle.octets.specs.declared.place.Place.{Place}
use Rattle.scene_table.specs.Scene.{Cell, Input, Output, Scene, Line, cell_lengths, bytes_line, hash_line, input_line, output_line, cell_line, digits_line, lines_of, scene_bytes, counts_of, records_from, scene_numbers, padded_to, scene_table}
use Rattle.scene_table.specs.Lent.{table_entry, inputs_at, outputs_at, deps_at, witnesses_at, verdicts_at, records_at, input_width, output_width, cell_width, bytes_width, input_from, output_from, cell_record_from, bytes_from, scene_from, input_count, output_count, dep_count, witness_count, digit_count, bytes_place, script_place, transaction_place}
use Rattle.scene_table.specs.Valid.{bytes_ok, hash_bytes_ok, cell_ok, input_ok, output_ok, few_of, digits_ok, scene_ok}
use Rattle.scene_table.proofs.Lines.{total, records-append, cut, cut-take, from_inputs, from_outputs, from_deps, from_witnesses, lines-by-kind}
use Rattle.octets.proofs.Truth.{and_both}
use Rattle.scene_table.proofs.Stands.{Stands, lines_bytes, stands-left, stands-right, record-entry, records-long, records-back}
use Rattle.scene_table.proofs.ReadBack.{cell_with, input_with, output_with, scene_with, Gives, bytes_back, hash-back, record-back, output-back, input_back}

-- what a scene that a text can say has
pub record Sayable (s : Scene) : Type 0 where
  pub script : bytes_ok s.script ≡ true
  pub transaction : hash_bytes_ok s.transaction ≡ true
  pub few_inputs : length s.inputs ≤ 64
  pub inputs : every input_ok s.inputs ≡ true
  pub few_outputs : length s.outputs ≤ 64
  pub outputs : every output_ok s.outputs ≡ true
  pub few_deps : length s.deps ≤ 64
  pub deps : every cell_ok s.deps ≡ true
  pub few_witnesses : length s.witnesses ≤ 64
  pub witnesses : every bytes_ok s.witnesses ≡ true
  pub few_digits : length s.digits ≤ 16
  pub digits : every (λ (d : ℕ). ltb d 3) s.digits ≡ true

few-of : {A : Type 0} (p : A → Bool) (xs : List A) → few_of p xs ≡ true → (length xs ≤ 64) × (every p xs ≡ true)
unfolding few_of
few-of p xs h = let a = and_both (leb (length xs) 64) (every p xs) h in (leb-true (length xs) 64 a.0, a.1)

pub sayable : (s : Scene) → scene_ok s ≡ true → Sayable s
unfolding scene_ok digits_ok
sayable s h =
    let a = and_both _ _ h in
    let b = and_both _ _ a.1 in
    let c = and_both _ _ b.1 in
    let d = and_both _ _ c.1 in
    let e = and_both _ _ d.1 in
    let f = and_both _ _ e.1 in
    let g = and_both _ _ f.1 in
    let inputs = few-of input_ok s.inputs c.0 in
    let outputs = few-of output_ok s.outputs d.0 in
    let deps = few-of cell_ok s.deps e.0 in
    let witnesses = few-of bytes_ok s.witnesses f.0 in
    record {
      script = a.0;
      transaction = b.0;
      few_inputs = inputs.0;
      inputs = inputs.1;
      few_outputs = outputs.0;
      outputs = outputs.1;
      few_deps = deps.0;
      deps = deps.1;
      few_witnesses = witnesses.0;
      witnesses = witnesses.1;
      few_digits = leb-true (length s.digits) 16 g.0;
      digits = g.1;
    }

input-wide : (i : Input) → suc (length (input_line i).numbers) ≡ input_width
unfolding input_line cell_lengths
input-wide i = refl

output-wide : (o : Output) → suc (length (output_line o).numbers) ≡ output_width
unfolding output_line cell_lengths
output-wide o = refl

cell-wide : (c : Cell) → suc (length (cell_line c).numbers) ≡ cell_width
unfolding cell_line cell_lengths
cell-wide c = refl

bytes-wide : (bs : List ℕ) → suc (length (bytes_line bs).numbers) ≡ bytes_width
unfolding bytes_line
bytes-wide bs = refl

hash-wide : (hash : List ℕ) (used : ℕ) → length (records_from used (hash_line hash ∷ [])) ≡ 1
unfolding records_from hash_line
hash-wide hash used = refl

-- the digits are read back
digits-back : (table store digits : List ℕ) (at used : ℕ) → Stands table store at used (digits_line digits ∷ [])
    → records_at (table_entry table) 1 (table_entry table (at + 1)) (at + 2) ≡ digits
unfolding digits_line records_from cut
digits-back table store digits at used s =
    let head = s.before ++ (used ∷ length digits ∷ []) in
    let n : table_entry table (at + 1) ≡ length digits = record-entry table store {l = digits_line digits} 0 (zero-lt-suc (length digits)) s in
    let e : table ≡ head ++ (digits ++ s.after) =
    s.records
    ∙ (ap (λ (r : List ℕ). s.before ++ (r ++ s.after)) (append-nil (used ∷ length digits ∷ digits))
    ∙ sym (append_assoc s.before (used ∷ length digits ∷ []) (digits ++ s.after))) in
    let l : length head ≡ at + 2 = rw (length-append, s.place) in
    let room : at + 2 + length digits ≤ length table = omega (arith, simp length-append at (ap length e), simp length-append at l) in
    rw n (cut-take table (length digits) (at + 2) room ∙ part-back table head digits s.after (at + 2) (length digits) e l refl)

counts-long : (s : Scene) → length (counts_of s) ≡ 8
unfolding counts_of
counts-long s = refl

-- one list of lines behind another: how many entries
both_long : (used : ℕ) (ls ms : List Line) (n m : ℕ) → length (records_from used ls) ≡ n → length (records_from (used + total ls) ms) ≡ m → length (records_from used (ls ++ ms)) ≡ n + m
both_long used ls ms n m p q = rw (records-append used ls ms, length-append, p, q)

digits-wide : (digits : List ℕ) (used : ℕ) → length (records_from used (digits_line digits ∷ [])) ≡ 2 + length digits
unfolding records_from digits_line
digits-wide digits used = ap length (append-nil (used ∷ length digits ∷ digits)) ∙ omega arith

-- how many entries a scene fills
pub numbers-long : (s : Scene) → length (scene_numbers s)
    ≡ 8 + (2 + (1 + (input_width * length s.inputs + (output_width * length s.outputs + (cell_width * length s.deps + (bytes_width * length s.witnesses + (2 + length s.digits)))))))
unfolding scene_numbers from_inputs from_outputs from_deps from_witnesses
numbers-long s =
    length-append (counts_of s) (records_from 0 (lines_of s))
    ∙ rw (
      counts-long s,
      lines-by-kind s,
      both_long 0 (bytes_line s.script ∷ []) (hash_line s.transaction ∷ from_inputs s) 2 _ (records-long bytes_line bytes_width bytes-wide (s.script ∷ []) 0)
          (both_long _ (hash_line s.transaction ∷ []) (from_inputs s) 1 _ (hash-wide s.transaction _)
          (both_long _ (map input_line s.inputs) (from_outputs s) (input_width * length s.inputs) _ (records-long input_line input_width input-wide s.inputs _)
          (both_long _ (map output_line s.outputs) (from_deps s) (output_width * length s.outputs) _ (records-long output_line output_width output-wide s.outputs _)
          (both_long _ (map cell_line s.deps) (from_witnesses s) (cell_width * length s.deps) _ (records-long cell_line cell_width cell-wide s.deps _)
          (both_long _ (map bytes_line s.witnesses) (digits_line s.digits ∷ []) (bytes_width * length s.witnesses) _ (records-long bytes_line bytes_width bytes-wide s.witnesses _)
          (digits-wide s.digits _)))))),
    )

-- a table of 2,048 entries has room for every scene
pub numbers-few : (s : Scene) → scene_ok s ≡ true → length (scene_numbers s) ≤ 1181
numbers-few s h = let ok = sayable s h in omega (arith, numbers-long s, ok)

module _ (s : Scene) (m : ℕ) where
  -- the counts in the table
  counts : (input_count (scene_table s m) ≡ length s.inputs) × (output_count (scene_table s m) ≡ length s.outputs) × (dep_count (scene_table s m) ≡ length s.deps) × (witness_count (scene_table s m) ≡ length s.witnesses)
  unfolding table_entry scene_table padded_to scene_numbers counts_of
  counts = (refl, refl, refl, refl)

  all-stand : Stands (scene_table s m) (scene_bytes s) 8 0 (bytes_line s.script ∷ hash_line s.transaction ∷ from_inputs s)
  unfolding scene_table padded_to scene_numbers scene_bytes lines_bytes
  all-stand = record {
    before = counts_of s;
    after = replicate (m - length (scene_numbers s)) 0;
    front = [];
    back = [];
    records = ap (λ (ls : List Line). (counts_of s ++ records_from 0 ls) ++ replicate (m - length (scene_numbers s)) 0) (lines-by-kind s) ∙ append_assoc (counts_of s) _ _;
    place = counts-long s;
    bytes = ap lines_bytes (lines-by-kind s) ∙ sym (append-nil _);
    start = refl;
  }

  -- where the records of each kind begin
  outputs-place : outputs_at (scene_table s m) ≡ 11 + input_width * length s.inputs
  unfolding outputs_at inputs_at
  outputs-place = rw counts.0

  deps-place : deps_at (scene_table s m) ≡ 11 + input_width * length s.inputs + output_width * length s.outputs
  unfolding deps_at
  deps-place = rw (outputs-place, counts.1)

  witnesses-place : witnesses_at (scene_table s m) ≡ 11 + input_width * length s.inputs + output_width * length s.outputs + cell_width * length s.deps
  unfolding witnesses_at
  witnesses-place = rw (deps-place, counts.2)

  verdicts-place : verdicts_at (scene_table s m) ≡ 11 + input_width * length s.inputs + output_width * length s.outputs + cell_width * length s.deps + bytes_width * length s.witnesses
  unfolding verdicts_at
  verdicts-place = rw (witnesses-place, counts.3)

  module _ (from : Place → List ℕ) (g : List ℕ → List ℕ) (gives : Gives from g (scene_bytes s)) (ok : Sayable s) where
    T : List ℕ
    T = scene_table s m

    B : List ℕ
    B = scene_bytes s

    -- a scene's table read back
    pub scene-back : scene_from from (scene_table s m) ≡ scene_with g s
    unfolding scene_from script_place transaction_place bytes_place scene_with from_inputs from_outputs from_deps from_witnesses inputs_at digit_count T B
    scene-back =
        let i = s.inputs in
        let o = s.outputs in
        let d = s.deps in
        let w = s.witnesses in
        let script = bytes_line s.script ∷ [] in
        let hash = hash_line s.transaction ∷ [] in
        let behind = stands-right T B script (hash ++ from_inputs s) 2 (records-long bytes_line bytes_width bytes-wide (s.script ∷ []) 0) all-stand in
        let inputs = stands-right T B hash (from_inputs s) 1 (hash-wide s.transaction _) behind in
        let outputs = stands-right T B (map input_line i) (from_outputs s) (input_width * length i) (records-long input_line input_width input-wide i _) inputs in
        let deps = stands-right T B (map output_line o) (from_deps s) (output_width * length o) (records-long output_line output_width output-wide o _) outputs in
        let witnesses = stands-right T B (map cell_line d) (from_witnesses s) (cell_width * length d) (records-long cell_line cell_width cell-wide d _) deps in
        let verdicts = stands-right T B (map bytes_line w) (digits_line s.digits ∷ []) (bytes_width * length w) (records-long bytes_line bytes_width bytes-wide w _) witnesses in
        rw (
          counts.0,
          counts.1,
          counts.2,
          counts.3,
          outputs-place,
          deps-place,
          witnesses-place,
          verdicts-place,
          bytes_back from g T B gives s.script 8 0 ok.script (stands-left T B script (hash ++ from_inputs s) all-stand),
          hash-back from g T B gives s.transaction 10 _ ok.transaction (stands-left T B hash (from_inputs s) behind),
          records-back input_line input_width input-wide T B (input_from from T) (input_with g) input_ok (input_back from g T B gives) i 11 _ ok.inputs (stands-left T B (map input_line i) (from_outputs s) inputs),
          records-back output_line output_width output-wide T B (output_from from T) (output_with g) output_ok (output-back from g T B gives) o _ _ ok.outputs (stands-left T B (map output_line o) (from_deps s) outputs),
          records-back cell_line cell_width cell-wide T B (cell_record_from from T) (cell_with g) cell_ok (record-back from g T B gives) d _ _ ok.deps (stands-left T B (map cell_line d) (from_witnesses s) deps),
          records-back bytes_line bytes_width bytes-wide T B (bytes_from from T) g bytes_ok (bytes_back from g T B gives) w _ _ ok.witnesses (stands-left T B (map bytes_line w) (digits_line s.digits ∷ []) witnesses),
          digits-back T B s.digits _ _ verdicts,
        )
