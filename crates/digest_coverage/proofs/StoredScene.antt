-- A scene that a text can say is held by a table that passes its test and a store of bytes: its own.
-- Assumes nothing.
use mathlib.Core.Path.{◌≡◌, refl}
use mathlib.Core.Bool.{Bool, true, false, cond}
use mathlib.Core.List.{List, [], ◌∷◌, ◌++◌, map}
use Prim.Native.Nat.{ℕ, ◌-◌}
use native.Mathlib.Omega.{arith}
use borrow.Author.Tests.{eqb-true}
use lib.Dec.{eqb}
use lib.ListN.{length, replicate, length-append, length-replicate}
use Rattle.octets.specs.Le.{Bytes}
use Rattle.octets.specs.Lists.{every, joined}
use Rattle.octets.proofs.Every.{every-split, every_append, every_map}
use Rattle.octets.proofs.LeLaws.{bytes-append}
use Rattle.octets.proofs.Truth.{and_both, and_right, both-and}
use Rattle.protocol.specs.Limits.{table_min_entries}
use Rattle.scene_table.specs.Scene.{Cell, Scene, Line, cell_bytes, bytes_line, hash_line, input_line, output_line, cell_line, digits_line, lines_of, scene_bytes, scene_numbers, padded_to, scene_store, scene_table}
use Rattle.scene_table.specs.Lent.{scene_in}
use Rattle.scene_table.specs.Valid.{bytes_ok, hash_bytes_ok, cell_ok, input_ok, output_ok, scene_ok, valid_table}
use Rattle.scene_table.proofs.BlankScene.{blank-bytes}
use Rattle.scene_table.proofs.Inverse.{lent_back}
use Rattle.scene_table.proofs.SceneBack.{Sayable, sayable, numbers-few}
use Rattle.scene_table.proofs.Shape.{input-cell, output-cell}
use Rattle.scene_table.proofs.ValidTheorem.{valid-table}
use Rattle.digest_coverage.proofs.SceneBytes.{no_bytes, ok-bytes}

-- ---- its lines are bytes

-- a type hash is, whether there is a type script or not
type-hash-ok : (b : Bool) (hash : List ℕ) → cond b (eqb (length hash) 0) (hash_bytes_ok hash) ≡ true → bytes_ok hash ≡ true
unfolding bytes_ok hash_bytes_ok every
type-hash-ok true [] h = refl
type-hash-ok true (x ∷ xs) h = absurd (omega (arith, eqb-true (length (x ∷ xs)) 0 h))
type-hash-ok false hash h = and_right (eqb (length hash) 32) (bytes_ok hash) h

cell-ok : (c : Cell) → cell_ok c ≡ true → bytes_ok (cell_bytes c) ≡ true
unfolding cell_ok hash_bytes_ok bytes_ok cell_bytes
cell-ok c h =
    let typed = and_both _ _ h in
    let hashed = and_both _ _ typed.1 in
    let scripts = and_both _ _ hashed.1 in
    let type_hash = type-hash-ok (eqb (length c.type_script) 0) c.type_hash typed.0 in
    let data_hash = and_right (eqb (length c.data_hash) 32) (bytes_ok c.data_hash) hashed.0 in
    every_append _ _ c.content (every_append _ _ c.type_script (every_append _ c.type_hash c.data_hash type_hash data_hash) scripts.0) scripts.1

abbrev line_ok : Line → Bool
line_ok l = bytes_ok l.bytes

lines_ok : (s : Scene) → Sayable s → every line_ok (lines_of s) ≡ true
unfolding lines_of bytes_line hash_line input_line output_line cell_line digits_line hash_bytes_ok bytes_ok every
lines_ok s ok =
    let i = map input_line s.inputs in
    let o = map output_line s.outputs in
    let d = map cell_line s.deps in
    let w = map bytes_line s.witnesses in
    let inputs = every_map input_ok line_ok input_line (λ x h. cell-ok x.cell (input-cell x h)) s.inputs ok.inputs in
    let outputs = every_map output_ok line_ok output_line (λ x h. cell-ok x.cell (output-cell x h)) s.outputs ok.outputs in
    let deps = every_map cell_ok line_ok cell_line cell-ok s.deps ok.deps in
    let witnesses = every_map bytes_ok line_ok bytes_line (λ x h. h) s.witnesses ok.witnesses in
    let cells = every_append line_ok (i ++ o) d (every_append line_ok i o inputs outputs) deps in
    let rest = every_append line_ok (i ++ o ++ d ++ w) (digits_line s.digits ∷ []) (every_append line_ok (i ++ o ++ d) w cells witnesses) refl in
    both-and _ _ ok.script (both-and _ _ (and_right (eqb (length s.transaction) 32) (bytes_ok s.transaction) ok.transaction) rest)

joined_bytes : (xs : List (List ℕ)) → every bytes_ok xs ≡ true → Bytes (joined xs)
unfolding joined
joined_bytes [] h = no_bytes
joined_bytes (x ∷ xs) h = let z = every-split bytes_ok x xs h in bytes-append x (joined xs) (ok-bytes x z.0) (joined_bytes xs z.1)

-- ---- its table and its store

module _ (s : Scene) (ok : scene_ok s ≡ true) where
  pub own_table : List ℕ
  own_table = scene_table s table_min_entries

  pub own_store : List ℕ
  own_store = scene_store s (length (scene_bytes s))

  -- the store is bytes,
  pub own-bytes : Bytes own_store
  unfolding own_store scene_store padded_to scene_bytes
  own-bytes =
      let lines = every_map line_ok bytes_ok (λ (l : Line). l.bytes) (λ l h. h) (lines_of s) (lines_ok s (sayable s ok)) in
      let n = length (scene_bytes s) - length (scene_bytes s) in
      bytes-append (scene_bytes s) (replicate n 0) (joined_bytes _ lines) (ok-bytes (replicate n 0) (blank-bytes n))

  -- the table passes its test with it,
  pub own-valid : valid_table own_table (length own_store) ≡ true
  unfolding own_table own_store scene_table scene_store padded_to
  own-valid =
      let numbers = scene_numbers s in
      let few = numbers-few s ok in
      let long : length (scene_table s table_min_entries) ≡ table_min_entries =
      omega (arith, length-append numbers (replicate (table_min_entries - length numbers) 0), length-replicate {A = ℕ} (table_min_entries - length numbers) 0) in
      let room = length-append (scene_bytes s) (replicate (length (scene_bytes s) - length (scene_bytes s)) 0) in
      (valid-table own_table (length own_store)).1 (omega arith, s, ok, omega arith, rw long)

  -- and the two hold the scene
  pub own-scene : scene_in own_table own_store ≡ s
  unfolding own_table own_store
  own-scene = lent_back s table_min_entries (length (scene_bytes s)) ok
