-- The scene of a table alone: it is one that a text can say exactly where its counts, groups and digits are in range.
-- Assumes nothing.
use mathlib.Core.Path.{◌≡◌, refl}
use mathlib.Core.Bool.{Bool, true, false, cond, ◌&&◌, and-true}
use mathlib.Core.List.{List}
use Prim.Native.Nat.{ℕ, zero, suc, ◌+◌, ◌^◌, ◌<◌}
use native.Mathlib.Omega.{arith}
use borrow.Author.Tests.{lt-ltb}
use lib.Dec.{leb, ltb, eqb}
use lib.ListN.{length, replicate, length-replicate}
use Rattle.octets.specs.Lists.{every}
use Rattle.scene_table.specs.Lent.{table_entry, inputs_at, outputs_at, deps_at, witnesses_at, verdicts_at, records_at, table_u64, input_width, output_width, cell_width, bytes_width, hash_length, cell_from, input_from, output_from, cell_record_from, bytes_from, scene_from, blank_scene, input_count, output_count, dep_count, witness_count, digit_count, cell_record_places, cell_field_places, bytes_place, input_record_places, script_place, transaction_place, zeros_at}
use Rattle.scene_table.specs.Valid.{bytes_ok, hash_bytes_ok, cell_ok, input_ok, output_ok, few_of, digits_ok, scene_ok}
use Rattle.scene_table.specs.RecordsWalk.{group_ok}
use Rattle.scene_table.proofs.Records.{length-records}

pub blank-bytes : (n : ℕ) → bytes_ok (replicate n 0) ≡ true
unfolding bytes_ok every
blank-bytes zero = refl
blank-bytes (suc n) = blank-bytes n

pub blank-hash : hash_bytes_ok (replicate 32 0) ≡ true
unfolding hash_bytes_ok
blank-hash = blank-bytes 32

type-hash : (b : Bool) → cond b (eqb (length {A = ℕ} (replicate (cond b 0 32) 0)) 0) (hash_bytes_ok (replicate (cond b 0 32) 0)) ≡ true
type-hash true = refl
type-hash false = blank-hash

pub blank-cell : (start script content : ℕ) → cell_ok (cell_from zeros_at (cell_field_places start script content)) ≡ true
unfolding cell_ok cell_from cell_field_places hash_length
blank-cell start script content =
    rw (length-replicate {A = ℕ} script 0, type-hash (eqb script 0), blank-hash, blank-bytes script, blank-bytes content)

-- a test of each record's reading is a test of where each record begins
pub every-records : {A : Type 0} (p : A → Bool) (q : ℕ → Bool) (read : ℕ → A) (w n at : ℕ) → ((i : ℕ) → p (read i) ≡ q i)
    → every p (records_at read w n at) ≡ every q (records_at (λ (i : ℕ). i) w n at)
unfolding every records_at
every-records p q read w zero at h = refl
every-records p q read w (suc n) at h = rw (h at, every-records p q read w n (at + w) h)

all-records : {A : Type 0} (p : A → Bool) (read : ℕ → A) (w n at : ℕ) → ((i : ℕ) → p (read i) ≡ true) → few_of p (records_at read w n at) ≡ leb n 64
unfolding few_of every records_at
all-records p read w n at h = rw (length-records read w n at, all n at, and-true)
  where
    all : (n at : ℕ) → every p (records_at read w n at) ≡ true
    all zero at = refl
    all (suc n) at = rw (h at) (all n (at + w))

module _ (table : List ℕ) (small : (i : ℕ) → table_entry table i < 2 ^ 32) where
  -- two entries are the halves of a u64
  u64-ok : (at : ℕ) → ltb (table_u64 table at) (2 ^ 64) ≡ true
  u64-ok at =
      let h : table_u64 table at < 2 ^ 64 = omega (arith, small at, small (at + 1)) in
      lt-ltb (table_u64 table at) (2 ^ 64) h

  blank-input : (at : ℕ) → input_ok (input_from zeros_at table at) ≡ group_ok table at
  unfolding input_ok input_from input_record_places group_ok
  blank-input at =
      rw (
        u64-ok (at + 2),
        blank-cell (table_entry table at) (table_entry table (at + 4)) (table_entry table (at + 5)),
        u64-ok (at + 6),
        and-true,
      )

  blank-output : (at : ℕ) → output_ok (output_from zeros_at table at) ≡ true
  unfolding output_ok output_from cell_record_places
  blank-output at = rw (blank-cell (table_entry table at) (table_entry table (at + 1)) (table_entry table (at + 2))) (u64-ok (at + 3))

  blank-inputs : few_of input_ok (records_at (input_from zeros_at table) input_width (input_count table) inputs_at)
      ≡ (leb (input_count table) 64 && every (group_ok table) (records_at (λ (i : ℕ). i) input_width (input_count table) inputs_at))
  unfolding few_of
  blank-inputs =
      rw (
        length-records (input_from zeros_at table) input_width (input_count table) inputs_at,
        every-records input_ok (group_ok table) (input_from zeros_at table) input_width (input_count table) inputs_at blank-input,
      )

  pub blank_ok : scene_ok (blank_scene table)
      ≡ (leb (input_count table) 64 && every (group_ok table) (records_at (λ (i : ℕ). i) input_width (input_count table) inputs_at)
      && (leb (output_count table) 64
      && (leb (dep_count table) 64 && (leb (witness_count table) 64 && (leb (digit_count table) 16 && every (λ (d : ℕ). ltb d 3) (blank_scene table).digits)))))
  unfolding scene_ok blank_scene scene_from script_place transaction_place bytes_place cell_record_places cell_field_places digits_ok digit_count
  blank_ok =
      rw (
        blank-bytes (table_entry table 9),
        blank-hash,
        blank-inputs,
        all-records output_ok (output_from zeros_at table) output_width (output_count table) (outputs_at table) blank-output,
        all-records cell_ok (cell_record_from zeros_at table) cell_width (dep_count table) (deps_at table) (λ i. blank-cell (table_entry table i) (table_entry table (i + 1)) (table_entry table (i + 2))),
        all-records bytes_ok (bytes_from zeros_at table) bytes_width (witness_count table) (witnesses_at table) (λ i. blank-bytes (table_entry table (i + 1))),
        length-records (table_entry table) 1 (table_entry table (verdicts_at table + 1)) (verdicts_at table + 2),
      )
