-- Where a table passes its test, the store has every byte that the table names: the hashes of a cell have the lengths that belong
-- beside its type script and its data.
-- Assumes nothing.
use mathlib.Core.Path.{◌≡◌, ap, ◌∙◌}
use mathlib.Core.Bool.{true}
use mathlib.Core.List.{List}
use Prim.Native.Nat.{ℕ, ◌+◌, ◌^◌, ◌≤◌, ◌<◌}
use native.Mathlib.Omega.{arith}
use lib.Dec.{ltb}
use lib.ListN.{length, take, drop, length-append, length-drop, length-replicate}
use lib.Seq.{length-take-le}
use Rattle.octets.specs.declared.place.Place.{Place}
use Rattle.octets.specs.Places.{bytes_at}
use Rattle.octets.proofs.Truth.{and_left, and_right}
use Rattle.scene_table.specs.Scene.{Cell, Input, Output, Scene, scene_bytes}
use Rattle.scene_table.specs.Lent.{inputs_at, outputs_at, deps_at, input_count, output_count, dep_count, input_width, output_width, cell_width, hash_length, cell_from, input_from, output_from, cell_record_from, scene_from}
use Rattle.scene_table.specs.Places.{input_at, input_places, output_at, output_places, dep_places, cell_in}
use Rattle.scene_table.specs.declared.places.CellPlaces.{CellPlaces}
use Rattle.scene_table.specs.Valid.{cell_ok, input_ok, output_ok, scene_ok, valid_table}
use Rattle.scene_table.proofs.Records.{listed-every, records-listed}
use Rattle.scene_table.proofs.ReadBack.{scene_with, Gives, cell-hashes}
use Rattle.scene_table.proofs.SceneBack.{Sayable, sayable, scene-back}
use Rattle.scene_table.proofs.ValidTheorem.{zeroed, zeroed-ok, passes-scene}

-- a cell with all of its bytes
pub record WholeCell (c : Cell) : Type 0 where
  pub type_hash : hash_length (length c.type_script) ≡ length c.type_hash
  pub data_hash : length c.data_hash ≡ 32

-- the cells of a table and a store
pub record CellsWhole (table store : List ℕ) : Type 0 where
  pub inputs : (i : ℕ) → i < input_count table → WholeCell (cell_in store (input_places table i))
  pub outputs : (i : ℕ) → i < output_count table → WholeCell (cell_in store (output_places table i))
  pub deps : (i : ℕ) → i < dep_count table → WholeCell (cell_in store (dep_places table i))

-- the cell of an input, and of an output
pub input-cell : (i : Input) → input_ok i ≡ true → cell_ok i.cell ≡ true
unfolding input_ok
input-cell i h = and_left (cell_ok i.cell) _ (and_right (ltb i.since (2 ^ 64)) _ (and_right (ltb i.group 2) _ h))

pub output-cell : (o : Output) → output_ok o ≡ true → cell_ok o.cell ≡ true
unfolding output_ok
output-cell o h = and_left (cell_ok o.cell) _ h

module _ (store : List ℕ) where
  -- as many zeros as the store has bytes at a place
  abbrev pub zeros_in : Place → List ℕ
  zeros_in p = zeroed (bytes_at store p)

  -- a store at least as long as a scene's bytes has as many at the place of each part
  zeros-give : (bytes : List ℕ) → length bytes ≤ length store → Gives zeros_in zeroed bytes
  unfolding bytes_at
  zeros-give bytes room p q r at n e lp lq =
      let whole : length bytes ≡ length p + (length q + length r) = rw (e, length-append, length-append) in
      let rest = length-drop at store in
      let there : length (take n (drop at store)) ≡ n = length-take-le n (drop at store) (omega arith) in
      rw (there, lq)

  -- a cell whose zeros are a cell's is whole
  zeros-whole : (p : CellPlaces) → cell_ok (cell_from zeros_in p) ≡ true → WholeCell (cell_in store p)
  unfolding cell_from
  zeros-whole p ok =
      let l = cell-hashes (cell_from zeros_in p) ok in
      record {
        type_hash = simp length-replicate at l.0;
        data_hash = simp length-replicate at l.1;
      }

module _ (table store : List ℕ) (valid : valid_table table (length store) ≡ true) where
  -- the zeros are those of a scene that a text can say and the store has room for
  pub zeros-scene : (s : Scene) × (scene_ok s ≡ true) × (length (scene_bytes s) ≤ length store) × (scene_from (zeros_in store) table ≡ scene_with zeroed s)
  zeros-scene =
      let t = passes-scene table (length store) valid in
      let s = t.1 in
      let back = scene-back s (length table) (zeros_in store) zeroed (zeros-give store (scene_bytes s) t.3) (sayable s t.2) in
      (s, t.2, t.3, ap (scene_from (zeros_in store)) t.4 ∙ back)

  pub zeros-ok : scene_ok (scene_from (zeros_in store) table) ≡ true
  zeros-ok = let t = zeros-scene in rw t.3 (zeroed-ok t.0 (sayable t.0 t.1))

  pub shape : Sayable (scene_from (zeros_in store) table)
  shape = sayable _ zeros-ok

  pub cells_whole : CellsWhole table store
  unfolding scene_from input_from output_from input_places input_at output_places output_at dep_places
  cells_whole =
      let from = zeros_in store in
      let inputs = records-listed (input_from from table) input_width (input_count table) inputs_at in
      let outputs = records-listed (output_from from table) output_width (output_count table) (outputs_at table) in
      let deps = records-listed (cell_record_from from table) cell_width (dep_count table) (deps_at table) in
      record {
        inputs = λ i h. zeros-whole store (input_places table i) (input-cell _ (listed-every input_ok inputs shape.inputs i h));
        outputs = λ i h. zeros-whole store (output_places table i) (output-cell _ (listed-every output_ok outputs shape.outputs i h));
        deps = λ i h. zeros-whole store (dep_places table i) (listed-every cell_ok deps shape.deps i h);
      }
