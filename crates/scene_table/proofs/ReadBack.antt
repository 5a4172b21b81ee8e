-- A scene's table read back: the scene itself, with what a function gives for each run of its bytes.
-- Assumes nothing.
use mathlib.Core.Path.{◌≡◌, refl, sym, ◌∙◌}
use mathlib.Core.Bool.{Bool, true, false, cond, ◌&&◌}
use mathlib.Core.List.{List, [], ◌∷◌, ◌++◌, map, append_assoc}
use Prim.Native.Nat.{ℕ, ◌+◌, ◌^◌}
use borrow.Author.Tests.{eqb-true}
use lib.Dec.{lit<, ltb, eqb}
use lib.ListN.{length, length-append}
use Rattle.octets.specs.declared.place.Place.{Place}
use Rattle.scene_table.specs.Scene.{Cell, Input, Output, Scene, cell_bytes, cell_lengths, bytes_line, hash_line, input_line, output_line, cell_line}
use Rattle.scene_table.specs.Lent.{table_entry, hash_length, cell_from, input_from, output_from, cell_record_from, bytes_from, cell_record_places, cell_field_places, bytes_place, input_record_places, place_at}
use Rattle.scene_table.specs.Valid.{bytes_ok, hash_bytes_ok, cell_ok, input_ok, output_ok}
use Rattle.octets.proofs.Truth.{and_both}
use Rattle.scene_table.proofs.Stands.{Stands, record-first, record-entry, record-u64, record-bytes}

-- a scene with g of each run of bytes
unfoldable pub cell_with : (List ℕ → List ℕ) → Cell → Cell
cell_with g c = record {
  type_hash = g c.type_hash;
  data_hash = g c.data_hash;
  type_script = g c.type_script;
  content = g c.content;
}

unfoldable pub input_with : (List ℕ → List ℕ) → Input → Input
input_with g i = record { group = i.group; since = i.since; cell = cell_with g i.cell; capacity = i.capacity }

unfoldable pub output_with : (List ℕ → List ℕ) → Output → Output
output_with g o = record { cell = cell_with g o.cell; capacity = o.capacity }

unfoldable pub scene_with : (List ℕ → List ℕ) → Scene → Scene
scene_with g s = record {
  script = g s.script;
  transaction = g s.transaction;
  inputs = map (input_with g) s.inputs;
  outputs = map (output_with g) s.outputs;
  deps = map (cell_with g) s.deps;
  witnesses = map g s.witnesses;
  digits = s.digits;
}

-- what `from` gives at the place of a part of the bytes is g of the part
abbrev pub Gives : (Place → List ℕ) → (List ℕ → List ℕ) → List ℕ → Type 0
Gives from g store = (p q r : List ℕ) (at n : ℕ) → store ≡ p ++ (q ++ r) → length p ≡ at → length q ≡ n → from (place_at at n) ≡ g q

type-hash : (b : Bool) (hash : List ℕ) → cond b (eqb (length hash) 0) (hash_bytes_ok hash) ≡ true → cond b 0 32 ≡ length hash
unfolding hash_bytes_ok
type-hash true hash h = sym (eqb-true (length hash) 0 h)
type-hash false hash h = sym (eqb-true (length hash) 32 (and_both (eqb (length hash) 32) (bytes_ok hash) h).0)

pub hash-long : (hash : List ℕ) → hash_bytes_ok hash ≡ true → length hash ≡ 32
unfolding hash_bytes_ok
hash-long hash h = eqb-true (length hash) 32 (and_both (eqb (length hash) 32) (bytes_ok hash) h).0

-- the hashes of a cell have the lengths that the table says
pub cell-hashes : (c : Cell) → cell_ok c ≡ true → (hash_length (length c.type_script) ≡ length c.type_hash) × (length c.data_hash ≡ 32)
unfolding cell_ok hash_length
cell-hashes c h =
    let first = cond (eqb (length c.type_script) 0) (eqb (length c.type_hash) 0) (hash_bytes_ok c.type_hash) in
    let last = bytes_ok c.type_script && bytes_ok c.content in
    let ok = and_both first (hash_bytes_ok c.data_hash && last) h in
    (type-hash (eqb (length c.type_script) 0) c.type_hash ok.0, hash-long c.data_hash (and_both (hash_bytes_ok c.data_hash) last ok.1).0)

module _ (from : Place → List ℕ) (g : List ℕ → List ℕ) (table store : List ℕ) (gives : Gives from g store) where
  cell-back : (c : Cell) (front back : List ℕ) (used : ℕ) → cell_ok c ≡ true → store ≡ front ++ (cell_bytes c ++ back) → length front ≡ used
      → cell_from from (cell_field_places used (length c.type_script) (length c.content)) ≡ cell_with g c
  unfolding cell_bytes cell_from cell_field_places cell_with
  cell-back c front back used h e l =
      let a = c.type_hash in
      let b = c.data_hash in
      let t = c.type_script in
      let d = c.content in
      let la = (cell-hashes c h).0 in
      let lb : length b ≡ 32 = (cell-hashes c h).1 in
      let ea : store ≡ front ++ (a ++ (b ++ (t ++ (d ++ back)))) = e ∙ simp append_assoc in
      let eb : store ≡ (front ++ a) ++ (b ++ (t ++ (d ++ back))) = e ∙ simp append_assoc in
      let et : store ≡ (front ++ a ++ b) ++ (t ++ (d ++ back)) = e ∙ simp append_assoc in
      let ed : store ≡ (front ++ a ++ b ++ t) ++ (d ++ back) = e ∙ simp append_assoc in
      let nb : length (front ++ a) ≡ used + length a = rw (length-append, l) in
      let nt : length (front ++ a ++ b) ≡ used + length a + 32 = rw (length-append, nb, lb) in
      let nd : length (front ++ a ++ b ++ t) ≡ used + length a + 32 + length t = rw (length-append, nt) in
      rw (
        la,
        gives front a (b ++ (t ++ (d ++ back))) used (length a) ea l refl,
        gives (front ++ a) b (t ++ (d ++ back)) (used + length a) 32 eb nb lb,
        gives (front ++ a ++ b) t (d ++ back) (used + length a + 32) (length t) et nt refl,
        gives (front ++ a ++ b ++ t) d back (used + length a + 32 + length t) (length d) ed nd refl,
      )

  pub bytes_back : (bs : List ℕ) (at used : ℕ) → bytes_ok bs ≡ true → Stands table store at used (bytes_line bs ∷ []) → bytes_from from table at ≡ g bs
  unfolding bytes_place bytes_line
  bytes_back bs at used h s =
      rw
      (record-first table store s, record-entry table store {l = bytes_line bs} 0 (lit< tt) s)
      (gives s.front bs s.back used (length bs) (record-bytes table store s) s.start refl)

  pub hash-back : (hash : List ℕ) (at used : ℕ) → hash_bytes_ok hash ≡ true → Stands table store at used (hash_line hash ∷ []) → from (place_at (table_entry table at) 32) ≡ g hash
  unfolding hash_line
  hash-back hash at used h s =
      rw (record-first table store s) (gives s.front hash s.back used 32 (record-bytes table store s) s.start (hash-long hash h))

  pub record-back : (c : Cell) (at used : ℕ) → cell_ok c ≡ true → Stands table store at used (cell_line c ∷ []) → cell_record_from from table at ≡ cell_with g c
  unfolding cell_record_places cell_field_places cell_line cell_lengths
  record-back c at used h s =
      rw
      (record-first table store s, record-entry table store {l = cell_line c} 0 (lit< tt) s, record-entry table store {l = cell_line c} 1 (lit< tt) s)
      (cell-back c s.front s.back used h (record-bytes table store s) s.start)

  pub output-back : (o : Output) (at used : ℕ) → output_ok o ≡ true → Stands table store at used (output_line o ∷ []) → output_from from table at ≡ output_with g o
  unfolding output_from cell_record_places cell_field_places output_line cell_lengths output_with output_ok
  output-back o at used h s =
      let ok = and_both (cell_ok o.cell) (ltb o.capacity (2 ^ 64)) h in
      rw (
        record-first table store s,
        record-entry table store {l = output_line o} 0 (lit< tt) s,
        record-entry table store {l = output_line o} 1 (lit< tt) s,
        record-u64 table store {l = output_line o} 2 o.capacity (lit< tt) refl refl s,
        cell-back o.cell s.front s.back used ok.0 (record-bytes table store s) s.start,
      )

  pub input_back : (i : Input) (at used : ℕ) → input_ok i ≡ true → Stands table store at used (input_line i ∷ []) → input_from from table at ≡ input_with g i
  unfolding input_from input_record_places input_line cell_lengths input_with input_ok
  input_back i at used h s =
      let capacity = ltb i.capacity (2 ^ 64) in
      let ok = and_both (ltb i.group 2) (ltb i.since (2 ^ 64) && (cell_ok i.cell && capacity)) h in
      let behind = and_both (ltb i.since (2 ^ 64)) (cell_ok i.cell && capacity) ok.1 in
      let cell = and_both (cell_ok i.cell) capacity behind.1 in
      rw (
        record-first table store s,
        record-entry table store {l = input_line i} 0 (lit< tt) s,
        record-u64 table store {l = input_line i} 1 i.since (lit< tt) refl refl s,
        record-entry table store {l = input_line i} 3 (lit< tt) s,
        record-entry table store {l = input_line i} 4 (lit< tt) s,
        record-u64 table store {l = input_line i} 5 i.capacity (lit< tt) refl refl s,
        cell-back i.cell s.front s.back used cell.0 (record-bytes table store s) s.start,
      )
