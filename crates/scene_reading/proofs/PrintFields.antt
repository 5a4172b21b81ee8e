-- The printed fields of a cell, of an output and of an input: each has its form, and they hold the bytes and numbers that were
-- printed.
-- Assumes nothing.
use Prim.Native.Nat.{ℕ, ◌+◌, ◌*◌, ◌^◌, ◌<◌}
use mathlib.Core.Path.{◌≡◌, refl, ap}
use mathlib.Core.Bool.{Bool, true, false, cond, ◌&&◌}
use mathlib.Core.List.{List, [], ◌∷◌, ◌++◌}
use native.Mathlib.Omega.{arith}
use borrow.Author.Tests.{ltb-true, eqb-true, eqb-false, lt-ltb}
use lib.ListN.{length, get_or}
use lib.Dec.{ltb, leb, eqb}
use Rattle.octets.specs.Lists.{every}
use Rattle.text.specs.Text.{hex_ok, hex_val, number_in}
use Rattle.scene_line.specs.declared.form.Form.TheVariants.{Group, TypeHash, Capacity}
use Rattle.scene_line.specs.Line.{forms_ok}
use Rattle.scene_table.specs.Scene.{Cell, Input, Output}
use Rattle.scene_table.specs.Valid.{bytes_ok, hash_bytes_ok, cell_ok, input_ok, output_ok}
use Rattle.octets.proofs.Truth.{and_left, and_right}
use Rattle.text.specs.Print.{hex_text, number_text, digits_text}
use Rattle.text.proofs.HexLaws.{hex-text-length}
use Rattle.scene_reading.specs.Print.{cell_fields, input_fields, output_fields}
use Rattle.scene_reading.specs.Reading.{cell_of, decimal_field, input_of, output_of}
use Rattle.scene_reading.proofs.PrintDigits.{hex-back, hex-ok, hex-high, decimal-back, decimal-high, digits-form, digits-high, digits-back}

-- a hash
pub record HashHolds (hash : List ℕ) : Type 0 where
  pub long : length hash ≡ 32
  pub bytes : bytes_ok hash ≡ true

pub hash-holds : (hash : List ℕ) → hash_bytes_ok hash ≡ true → HashHolds hash
unfolding hash_bytes_ok
hash-holds hash h = record { long = eqb-true (length hash) 32 (and_left (eqb (length hash) 32) (bytes_ok hash) h); bytes = and_right (eqb (length hash) 32) (bytes_ok hash) h }

-- its text has 64 digits
pub hash-form : (hash : List ℕ) → HashHolds hash → (eqb (length (hex_text hash)) 64 && hex_ok (hex_text hash)) ≡ true
hash-form hash h =
    let e : 2 * length hash ≡ 64 = let l = h.long in omega arith in
    rw (hex-text-length hash, e) (hex-ok hash h.bytes)

-- a cell's type hash by its type script
pub data Typed (hash script : List ℕ) : Type 0 where
  bare : length hash ≡ 0 → length script ≡ 0 → Typed hash script
  typed : HashHolds hash → 0 < length script → Typed hash script

pub record CellHolds (c : Cell) : Type 0 where
  pub type : Typed c.type_hash c.type_script
  pub hash : HashHolds c.data_hash
  pub script : bytes_ok c.type_script ≡ true
  pub content : bytes_ok c.content ≡ true

type-holds : (hash script : List ℕ) (b : Bool) → eqb (length script) 0 ≡ b → cond b (eqb (length hash) 0) (hash_bytes_ok hash) ≡ true → Typed hash script
type-holds hash script true e h = bare (eqb-true (length hash) 0 h) (eqb-true (length script) 0 e)
type-holds hash script false e h = typed (hash-holds hash h) (let z : length script ≡ 0 → ⊥ = eqb-false (length script) 0 e in omega arith)

pub cell_holds : (c : Cell) → cell_ok c ≡ true → CellHolds c
unfolding cell_ok
cell_holds c h =
    let t = cond (eqb (length c.type_script) 0) (eqb (length c.type_hash) 0) (hash_bytes_ok c.type_hash) in
    let b = bytes_ok c.type_script && bytes_ok c.content in
    let h₁ = and_right t (hash_bytes_ok c.data_hash && b) h in
    let h₂ = and_right (hash_bytes_ok c.data_hash) b h₁ in
    record {
      type = type-holds c.type_hash c.type_script (eqb (length c.type_script) 0) refl (and_left t (hash_bytes_ok c.data_hash && b) h);
      hash = hash-holds c.data_hash (and_left (hash_bytes_ok c.data_hash) b h₁);
      script = and_left (bytes_ok c.type_script) (bytes_ok c.content) h₂;
      content = and_right (bytes_ok c.type_script) (bytes_ok c.content) h₂;
    }

no_bytes : (bs : List ℕ) → length bs ≡ 0 → bytes_ok bs ≡ true
unfolding bytes_ok every
no_bytes [] e = refl
no_bytes (b ∷ bs) e = absurd (omega arith)

type-bytes : (hash script : List ℕ) → Typed hash script → bytes_ok hash ≡ true
type-bytes hash script (bare e s) = no_bytes hash e
type-bytes hash script (typed h s) = h.bytes

module _ (c : Cell) (h : CellHolds c) where
  hash-bytes : bytes_ok c.type_hash ≡ true
  hash-bytes = type-bytes c.type_hash c.type_script h.type

  -- with fields behind them: none of a dep, the capacity of an input or an output
  module _ (rest : List (List ℕ)) where
    pub cell-high : every (every (leb 48)) rest ≡ true → every (every (leb 48)) (cell_fields c ++ rest) ≡ true
    unfolding cell_fields every
    cell-high e =
        rw (
          hex-high c.type_hash hash-bytes,
          hex-high c.data_hash h.hash.bytes,
          hex-high c.type_script h.script,
          hex-high c.content h.content,
        )
        e

    cell-form-by : Typed c.type_hash c.type_script → ((b : Bool) → forms_ok b Capacity rest ≡ true) → forms_ok true TypeHash (cell_fields c ++ rest) ≡ true
    unfolding cell_fields forms_ok
    cell-form-by (bare e s) f =
        rw (hex-text-length c.type_hash, e, hash-form c.data_hash h.hash, hex-text-length c.type_script, s, hex-ok c.content h.content) (f true)
    cell-form-by (typed t s) f =
        let e : 2 * length c.type_hash ≡ 64 = let l = t.long in omega arith in
        rw (
          hex-text-length c.type_hash,
          e,
          hex-ok c.type_hash hash-bytes,
          hash-form c.data_hash h.hash,
          hex-text-length c.type_script,
          lt-ltb 0 (2 * length c.type_script) (omega arith),
          hex-ok c.type_script h.script,
          hex-ok c.content h.content,
        )
        (f false)

    pub cell-form : ((b : Bool) → forms_ok b Capacity rest ≡ true) → forms_ok true TypeHash (cell_fields c ++ rest) ≡ true
    cell-form = cell-form-by h.type

    pub cell-back : cell_of 0 (cell_fields c ++ rest) ≡ c
    unfolding cell_fields cell_of
    cell-back =
        rw (
          hex-back c.type_hash hash-bytes,
          hex-back c.data_hash h.hash.bytes,
          hex-back c.type_script h.script,
          hex-back c.content h.content,
        )

-- an output: its cell and its capacity
pub record OutputHolds (o : Output) : Type 0 where
  pub cell : CellHolds o.cell
  pub capacity : o.capacity < 2 ^ 64

pub output-holds : (o : Output) → output_ok o ≡ true → OutputHolds o
unfolding output_ok
output-holds o h =
    let b = ltb o.capacity (2 ^ 64) in
    record {
      cell = cell_holds o.cell (and_left (cell_ok o.cell) b h);
      capacity = ltb-true o.capacity (2 ^ 64) (and_right (cell_ok o.cell) b h);
    }

module _ (o : Output) (h : OutputHolds o) where
  last : List (List ℕ)
  last = number_text o.capacity ∷ []

  pub output-high : every (every (leb 48)) (output_fields o) ≡ true
  unfolding output_fields last every
  output-high = cell-high o.cell h.cell last (rw (decimal-high o.capacity))

  pub output-form : forms_ok true TypeHash (output_fields o) ≡ true
  unfolding output_fields last forms_ok
  output-form = cell-form o.cell h.cell last (λ b. rw (decimal-back o.capacity h.capacity))

  pub output-back : output_of (output_fields o) ≡ o
  unfolding output_fields last cell_fields output_of decimal_field number_in
  output-back =
      let e : cell_of 0 (cell_fields o.cell ++ last) ≡ o.cell = cell-back o.cell h.cell last in
      rw (decimal-back o.capacity h.capacity, e)

-- the cell of an input with its capacity
abbrev spent_of : Input → Output
spent_of i = record { cell = i.cell; capacity = i.capacity }

pub record InputHolds (i : Input) : Type 0 where
  pub group : every (λ (d : ℕ). ltb d 2) (i.group ∷ []) ≡ true
  pub since : i.since < 2 ^ 64
  pub spent : OutputHolds (spent_of i)

pub input-holds : (i : Input) → input_ok i ≡ true → InputHolds i
unfolding input_ok output_ok every
input-holds i h =
    let g = ltb i.group 2 in
    let s = ltb i.since (2 ^ 64) in
    let o = output_ok (spent_of i) in
    let h₁ = and_right g (s && o) h in
    record {
      group = rw (and_left g (s && o) h);
      since = ltb-true i.since (2 ^ 64) (and_left s o h₁);
      spent = output-holds (spent_of i) (and_right s o h₁);
    }

module _ (i : Input) (h : InputHolds i) where
  pub input-high : every (every (leb 48)) (input_fields i) ≡ true
  unfolding input_fields output_fields every digits_text
  input-high =
      let e : every (leb 48) ((48 + i.group) ∷ []) ≡ true = digits-high 2 (omega arith) (i.group ∷ []) h.group in
      rw (e, decimal-high i.since) (output-high (spent_of i) h.spent)

  pub input-form : forms_ok true Group (input_fields i) ≡ true
  unfolding input_fields output_fields forms_ok digits_text
  input-form =
      rw (digits-form 2 (omega arith) (i.group ∷ []) h.group, decimal-back i.since h.since) (output-form (spent_of i) h.spent)

  pub input-fields-back : input_of (input_fields i) ≡ i
  unfolding input_fields output_fields input_of output_of cell_of decimal_field number_in digits_text
  input-fields-back =
      let g : hex_val (48 + i.group) ≡ i.group = ap (λ (ds : List ℕ). get_or ds 0 0) (digits-back 2 (omega arith) (i.group ∷ []) h.group) in
      let e : output_of (output_fields (spent_of i)) ≡ spent_of i = output-back (spent_of i) h.spent in
      rw (g, decimal-back i.since h.since) (ap (λ (o : Output). record { group = i.group; since = i.since; cell = o.cell; capacity = o.capacity }) e)
