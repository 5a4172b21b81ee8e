-- Where a table passes its test, the scene that it holds with a store of bytes is one that a text can say, and the store has room for
-- its bytes. A witness and the transaction hash are parts of a scene's bytes.
-- Assumes nothing.
use mathlib.Core.Path.{◌≡◌, refl, sym, ap, ◌∙◌}
use mathlib.Core.Bool.{Bool, true}
use mathlib.Core.List.{List, [], ◌∷◌, map}
use Prim.Native.Nat.{ℕ, suc, ◌+◌, ◌≤◌}
use native.Mathlib.Omega.{arith}
use borrow.Author.Tests.{le-leb, lt-ltb}
use lib.Dec.{leb, ltb}
use lib.ListN.{length, drop}
use Rattle.octets.specs.Le.{Bytes}
use Rattle.octets.specs.Lists.{every}
use Rattle.octets.specs.Places.{bytes_at}
use Rattle.octets.specs.declared.place.Place.{Place}
use Rattle.octets.proofs.LeLaws.{bytes_drop, bytes_take}
use Rattle.octets.proofs.Truth.{both-and}
use Rattle.scene_table.specs.Scene.{Scene, bytes_line, hash_line, input_line, output_line, cell_line, digits_line, scene_bytes, lines_of}
use Rattle.scene_table.specs.Lent.{inputs_at, outputs_at, deps_at, witnesses_at, records_at, input_count, output_count, dep_count, witness_count, input_width, output_width, cell_width, bytes_width, cell_from, input_from, output_from, cell_record_from, bytes_from, scene_from, scene_in, bytes_place, script_place, transaction_place, input_record_places, cell_record_places}
use Rattle.scene_table.specs.declared.places.CellPlaces.{CellPlaces}
use Rattle.scene_table.specs.Valid.{bytes_ok, hash_bytes_ok, cell_ok, input_ok, output_ok, few_of, scene_ok, valid_table}
use Rattle.scene_table.proofs.Records.{length-records}
use Rattle.scene_table.proofs.Lines.{total, total-joined, total-append, from_inputs, from_outputs, from_deps, from_witnesses, lines-by-kind}
use Rattle.scene_table.proofs.WholeWalk.{map-records}
use Rattle.scene_table.proofs.BlankScene.{blank-bytes, every-records}
use Rattle.scene_table.proofs.ReadBack.{cell_with, input_with, output_with, scene_with, hash-long}
use Rattle.scene_table.proofs.SceneBack.{Sayable, sayable}
use Rattle.scene_table.proofs.ValidTheorem.{zeroed, length-zeroed, zeroed-long}
use Rattle.scene_table.proofs.Shape.{zeros_in, zeros-scene, zeros-ok}

-- bytes pass the test of bytes
bytes_ok_lem : (s : List ℕ) → Bytes s → bytes_ok s ≡ true
unfolding bytes_ok every
bytes_ok_lem [] h = refl
bytes_ok_lem (b ∷ s) h = both-and (ltb b 256) (bytes_ok s) (lt-ltb b 256 (h 0)) (bytes_ok_lem s (λ i. h (suc i)))

-- a test of records that finds the same in two readings of each
same-few : {A : Type 0} (p : A → Bool) (read read' : ℕ → A) (w n at : ℕ) → ((i : ℕ) → p (read i) ≡ p (read' i))
    → few_of p (records_at read w n at) ≡ few_of p (records_at read' w n at)
unfolding few_of
same-few p read read' w n at h =
    let q : ℕ → Bool = λ i. p (read' i) in
    rw (
      length-records read w n at,
      length-records read' w n at,
      every-records p q read w n at h,
      every-records p q read' w n at (λ i. refl),
    )

module _ (store : List ℕ) (bytes : Bytes store) where
  -- what the store has at a place is bytes
  stored : (p : Place) → bytes_ok (bytes_at store p) ≡ true
  unfolding bytes_at
  stored p = bytes_ok_lem _ (bytes_take p.len (drop p.start store) (bytes_drop p.start store bytes))

  -- as many zeros pass just the tests that it passes: bytes, a hash, a cell, and the records of inputs and of outputs
  same_bytes : (p : Place) → bytes_ok (zeros_in store p) ≡ bytes_ok (bytes_at store p)
  same_bytes p = rw (blank-bytes (length (bytes_at store p)), stored p)

  same-hash : (p : Place) → hash_bytes_ok (zeros_in store p) ≡ hash_bytes_ok (bytes_at store p)
  unfolding hash_bytes_ok
  same-hash p = rw (length-zeroed (bytes_at store p), same_bytes p)

  same-cell : (p : CellPlaces) → cell_ok (cell_from (zeros_in store) p) ≡ cell_ok (cell_from (bytes_at store) p)
  unfolding cell_ok cell_from
  same-cell p =
      rw (
        length-zeroed (bytes_at store p.type_script),
        length-zeroed (bytes_at store p.type_hash),
        same-hash p.type_hash,
        same-hash p.data_hash,
        same_bytes p.type_script,
        same_bytes p.content,
      )

  module _ (table : List ℕ) where
    same-input : (at : ℕ) → input_ok (input_from (zeros_in store) table at) ≡ input_ok (input_from (bytes_at store) table at)
    unfolding input_ok input_from
    same-input at = rw (same-cell (input_record_places table at))

    same-output : (at : ℕ) → output_ok (output_from (zeros_in store) table at) ≡ output_ok (output_from (bytes_at store) table at)
    unfolding output_ok output_from
    same-output at = rw (same-cell (cell_record_places table at))

    -- and the whole scene
    same_ok : scene_ok (scene_from (zeros_in store) table) ≡ scene_ok (scene_in table store)
    unfolding scene_ok scene_in scene_from
    same_ok =
        let zeros = zeros_in store in
        let from = bytes_at store in
        rw (
          same_bytes (script_place table),
          same-hash (transaction_place table),
          same-few input_ok (input_from zeros table) (input_from from table) input_width (input_count table) inputs_at same-input,
          same-few output_ok (output_from zeros table) (output_from from table) output_width (output_count table) (outputs_at table) same-output,
          same-few cell_ok (cell_record_from zeros table) (cell_record_from from table) cell_width (dep_count table) (deps_at table) (λ at. same-cell (cell_record_places table at)),
          same-few bytes_ok (bytes_from zeros table) (bytes_from from table) bytes_width (witness_count table) (witnesses_at table) (λ at. same_bytes (bytes_place table at)),
        )

-- the zeros of a store are those of the scene that it holds
zeros-lent : (table store : List ℕ) → scene_from (zeros_in store) table ≡ scene_with zeroed (scene_in table store)
unfolding scene_in scene_from scene_with input_from output_from cell_from input_with output_with cell_with
zeros-lent table store =
    let from = bytes_at store in
    rw (
      map-records (input_with zeroed) (input_from from table) input_width (input_count table) inputs_at,
      map-records (output_with zeroed) (output_from from table) output_width (output_count table) (outputs_at table),
      map-records (cell_with zeroed) (cell_record_from from table) cell_width (dep_count table) (deps_at table),
      map-records zeroed (bytes_from from table) bytes_width (witness_count table) (witnesses_at table),
    )

-- a table that passes, with a store of bytes, holds a scene that a text can say
pub lent-sayable : (table store : List ℕ) → valid_table table (length store) ≡ true → Bytes store → Sayable (scene_in table store)
lent-sayable table store valid bytes = sayable _ (sym (same_ok store bytes table) ∙ zeros-ok table store valid)

-- whose bytes the store has room for
pub lent-bytes : (table store : List ℕ) → valid_table table (length store) ≡ true → length (scene_bytes (scene_in table store)) ≤ length store
lent-bytes table store valid =
    let t = zeros-scene table store valid in
    let e : scene_with zeroed (scene_in table store) ≡ scene_with zeroed t.0 = sym (zeros-lent table store) ∙ t.3 in
    let long = zeroed-long (scene_in table store) in
    rw (← long, e, zeroed-long t.0) t.2

-- where k and all of these are no more than n bytes, k and each one are no more
each_within : (k n : ℕ) (ws : List (List ℕ)) → k + total (map bytes_line ws) ≤ n → every (λ (w : List ℕ). leb (k + length w) n) ws ≡ true
unfolding every total bytes_line
each_within k n [] h = refl
each_within k n (w ∷ ws) h = both-and _ _ (le-leb (k + length w) n (omega arith)) (each_within k n ws (omega arith))

-- a witness and the transaction hash are parts of a scene's bytes
pub witnesses-within : (s : Scene) → Sayable s → every (λ (w : List ℕ). leb (32 + length w) (length (scene_bytes s))) s.witnesses ≡ true
unfolding scene_bytes total bytes_line hash_line from_inputs from_outputs from_deps from_witnesses
witnesses-within s ok =
    let long : length (scene_bytes s) ≡ total (lines_of s) = total-joined (lines_of s) in
    let kinds : total (lines_of s) ≡ length s.script + (length s.transaction + total (from_inputs s)) = ap total (lines-by-kind s) in
    let i = total-append (map input_line s.inputs) (from_outputs s) in
    let o = total-append (map output_line s.outputs) (from_deps s) in
    let d = total-append (map cell_line s.deps) (from_witnesses s) in
    let w = total-append (map bytes_line s.witnesses) (digits_line s.digits ∷ []) in
    each_within 32 (length (scene_bytes s)) s.witnesses (omega (arith, hash-long s.transaction ok.transaction))
