-- The walk over all lines that a table says: each kind's records hold the table's own numbers, so only their offsets are tested.
-- Assumes nothing.
use mathlib.Core.Path.{◌≡◌, refl, ◌∙◌}
use mathlib.Core.Bool.{true}
use mathlib.Core.List.{List, [], ◌∷◌, ◌++◌, map}
use Prim.Native.Nat.{ℕ, zero, suc, ◌+◌, ◌*◌, ◌/◌, ◌%◌, ◌^◌, ◌<◌}
use native.Mathlib.Omega.{arith}
use lib.ListN.{length, replicate, length-append, length-replicate}
use Rattle.octets.specs.Lists.{every}
use Rattle.scene_table.specs.Scene.{Line, cell_bytes, cell_lengths, bytes_line, hash_line, input_line, output_line, cell_line, digits_line, lines_of}
use Rattle.scene_table.specs.Lent.{table_entry, inputs_at, outputs_at, deps_at, witnesses_at, verdicts_at, records_at, table_u64, input_width, output_width, cell_width, bytes_width, cell_from, input_from, output_from, cell_record_from, bytes_from, scene_from, blank_scene, input_count, witness_count, output_count, dep_count, digit_count, cell_record_places, cell_field_places, bytes_place, input_record_places, script_place, transaction_place, zeros_at, place_at}
use Rattle.scene_table.specs.RecordsWalk.{with_record, cell_size, record_step, walk_records, any_record, group_ok, bytes_size, cell_record_size, input_size, records_start, walk_head, walk_inputs, walk_outputs, walk_deps, walk_witnesses, walk_lines}
use Rattle.std.specs.Prelude.{Option}
use Rattle.scene_table.proofs.Records.{length-records}
use Rattle.scene_table.proofs.WalkLaws.{required-true}
use Rattle.scene_table.proofs.Lines.{cut, from_inputs, from_outputs, from_deps, from_witnesses, lines-by-kind}
use Rattle.scene_table.proofs.Segments.{Segment, join, retest, record-segment, records-segment}

-- bytes of a length, all zero
pub map-records : {A B : Type 0} (f : A → B) (read : ℕ → A) (w n at : ℕ) → map f (records_at read w n at) ≡ records_at (λ i. f (read i)) w n at
unfolding records_at
map-records f read w zero at = refl
map-records f read w (suc n) at = rw (map-records f read w n (at + w))

pub every_any : (l : List ℕ) → every any_record l ≡ true
unfolding every any_record
every_any [] = refl
every_any (x ∷ xs) = every_any xs

length-blank : (n : ℕ) → length {A = ℕ} (replicate n 0) ≡ n
length-blank n = length-replicate {A = ℕ} n 0

blank-cell : (start script content : ℕ) → length (cell_bytes (cell_from zeros_at (cell_field_places start script content))) ≡ cell_size script content
unfolding cell_bytes cell_from cell_field_places cell_size
blank-cell start script content = simp (length-append, length-replicate) (omega arith)

module _ (table : List ℕ) where
  -- the table's own numbers
  own-bytes : (at : ℕ) → (bytes_line (bytes_from zeros_at table at)).numbers ≡ cut table 1 (at + 1)
  unfolding bytes_line bytes_place cut records_at
  own-bytes at = rw (length-blank (table_entry table (at + 1)))

  own-cell : (at : ℕ) → (cell_line (cell_record_from zeros_at table at)).numbers ≡ cut table 2 (at + 1)
  unfolding cell_line cell_lengths cell_record_places cell_field_places cell_from cut records_at
  own-cell at =
      let two : at + 1 + 1 ≡ at + 2 = omega arith in
      rw (two, length-blank (table_entry table (at + 1)), length-blank (table_entry table (at + 2)))

  -- the halves of a u64 are the entries where they stand
  module _ (small : (i : ℕ) → table_entry table i < 2 ^ 32) where
    own-low : (at : ℕ) → table_u64 table at % 2 ^ 32 ≡ table_entry table at
    own-low at = omega (arith, small at)

    own-high : (at : ℕ) → table_u64 table at / 2 ^ 32 ≡ table_entry table (at + 1)
    own-high at = omega (arith, small at)

    own-output : (at : ℕ) → (output_line (output_from zeros_at table at)).numbers ≡ cut table 4 (at + 1)
    unfolding output_line cell_lengths output_from cell_record_places cell_field_places cell_from cut records_at
    own-output at =
        let two : at + 1 + 1 ≡ at + 2 = omega arith in
        let three : at + 2 + 1 ≡ at + 3 = omega arith in
        rw (own-low (at + 3), own-high (at + 3), two, three, length-blank (table_entry table (at + 1)), length-blank (table_entry table (at + 2)))

    own-input : (at : ℕ) → (input_line (input_from zeros_at table at)).numbers ≡ cut table 7 (at + 1)
    unfolding input_line cell_lengths input_from input_record_places cell_from cell_field_places cut records_at
    own-input at =
        let two : at + 1 + 1 ≡ at + 2 = omega arith in
        let three : at + 2 + 1 ≡ at + 3 = omega arith in
        let four : at + 3 + 1 ≡ at + 4 = omega arith in
        let five : at + 4 + 1 ≡ at + 5 = omega arith in
        let six : at + 5 + 1 ≡ at + 6 = omega arith in
        rw (
          own-low (at + 2),
          own-high (at + 2),
          own-low (at + 6),
          own-high (at + 6),
          two,
          three,
          four,
          five,
          six,
          length-blank (table_entry table (at + 4)),
          length-blank (table_entry table (at + 5)),
        )

  own-hash : (hash : List ℕ) → (hash_line hash).numbers ≡ cut table 0 11
  unfolding hash_line cut records_at
  own-hash hash = refl

  own-digits : (digits_line (records_at (table_entry table) 1 (digit_count table) (verdicts_at table + 2))).numbers ≡ cut table (suc (digit_count table)) (verdicts_at table + 1)
  unfolding digits_line cut records_at digit_count
  own-digits =
      let two : verdicts_at table + 1 + 1 ≡ verdicts_at table + 2 = omega arith in
      rw (two, length-records (table_entry table) 1 (table_entry table (verdicts_at table + 1)) (verdicts_at table + 2))

  -- one record, and records, without a further test
  one : (size : ℕ → ℕ) (k : Option ℕ) (at v : ℕ) (l : Line) → length l.bytes ≡ size at → l.numbers ≡ cut table v (at + 1)
      → Segment table (Unit {0}) k at (suc v) (l ∷ []) (record_step table any_record size k at)
  unfolding any_record
  one size k at v l sized own = retest table (λ t. tt) (λ t. refl) (record-segment table any_record size k at v l sized own)

  record-one : (size : ℕ) (k : Option ℕ) (at v : ℕ) (l : Line) → length l.bytes ≡ size → l.numbers ≡ cut table v (at + 1)
      → Segment table (Unit {0}) k at (suc v) (l ∷ []) (with_record k (table_entry table at) size)
  unfolding record_step any_record
  record-one size k at v l sized own = rw (required-true k) at (one (λ i. size) k at v l sized own)

  many : (size : ℕ → ℕ) (v : ℕ) (line : ℕ → Line) → ((at : ℕ) → length (line at).bytes ≡ size at) → ((at : ℕ) → (line at).numbers ≡ cut table v (at + 1))
      → (n at : ℕ) (k : Option ℕ) → Segment table (Unit {0}) k at (suc v * n) (records_at line (suc v) n at) (walk_records table any_record size (suc v) n at k)
  many size v line sized own n at k =
      retest table (λ t. tt) (λ t. every_any (records_at (λ (i : ℕ). i) (suc v) n at)) (records-segment table any_record size v line sized own n at k)

  -- the lines that the table says, kind by kind
  input_records : List Line
  input_records = records_at (λ i. input_line (input_from zeros_at table i)) input_width (input_count table) inputs_at

  output_records : List Line
  output_records = records_at (λ i. output_line (output_from zeros_at table i)) output_width (output_count table) (outputs_at table)

  dep_records : List Line
  dep_records = records_at (λ i. cell_line (cell_record_from zeros_at table i)) cell_width (dep_count table) (deps_at table)

  witness_records : List Line
  witness_records = records_at (λ i. bytes_line (bytes_from zeros_at table i)) bytes_width (witness_count table) (witnesses_at table)

  digits_record : Line
  digits_record = digits_line (records_at (table_entry table) 1 (digit_count table) (verdicts_at table + 2))

  kinds : List Line
  kinds =
      (bytes_line (bytes_from zeros_at table 8) ∷ [])
      ++ ((hash_line (zeros_at (place_at (table_entry table 10) 32)) ∷ [])
      ++ (input_records ++ (output_records ++ (dep_records ++ (witness_records ++ (digits_record ∷ []))))))

  lines-kinds : lines_of (blank_scene table) ≡ kinds
  unfolding blank_scene scene_from script_place transaction_place bytes_place digit_count input_records output_records dep_records witness_records digits_record kinds from_inputs from_outputs from_deps from_witnesses
  lines-kinds =
      lines-by-kind (blank_scene table)
      ∙ rw (
        map-records input_line (input_from zeros_at table) input_width (input_count table) inputs_at,
        map-records output_line (output_from zeros_at table) output_width (output_count table) (outputs_at table),
        map-records cell_line (cell_record_from zeros_at table) cell_width (dep_count table) (deps_at table),
        map-records bytes_line (bytes_from zeros_at table) bytes_width (witness_count table) (witnesses_at table),
      )

  -- how many entries they have
  unfoldable pub span : ℕ
  span = 2 + (1 + (input_width * input_count table + (output_width * output_count table + (cell_width * dep_count table + (bytes_width * witness_count table + suc (suc (digit_count table)))))))

  -- each input's group is 0 or 1
  unfoldable pub Groups : Type 0
  Groups = every (group_ok table) (records_at (λ (i : ℕ). i) input_width (input_count table) inputs_at) ≡ true

  pub whole : ((i : ℕ) → table_entry table i < 2 ^ 32) → Segment table Groups records_start 8 span (lines_of (blank_scene table)) (walk_lines table)
  unfolding walk_lines walk_witnesses walk_deps walk_outputs walk_inputs walk_head inputs_at outputs_at deps_at witnesses_at verdicts_at input_records output_records dep_records witness_records digits_record kinds span Groups bytes_size cell_record_size input_size bytes_line bytes_place hash_line digits_line input_line output_line cell_line input_from output_from input_record_places cell_record_places cell_field_places
  whole small =
      rw
      lines-kinds
      (retest
      table
      (λ t. t.1.1.0)
      (λ g. (tt, (tt, (g, (tt, (tt, (tt, tt)))))))
      (join
      table
      (one (bytes_size table) records_start 8 1 (bytes_line (bytes_from zeros_at table 8)) (length-blank (table_entry table 9)) (own-bytes 8))
      (join
      table
      (record-one 32 (record_step table any_record (bytes_size table) records_start 8) 10 0 (hash_line (zeros_at (place_at (table_entry table 10) 32))) refl (own-hash (zeros_at (place_at (table_entry table 10) 32))))
      (join
      table
      (records-segment table (group_ok table) (input_size table) 7 (λ i. input_line (input_from zeros_at table i)) (λ i. blank-cell (table_entry table i) (table_entry table (i + 4)) (table_entry table (i + 5))) (own-input small) (input_count table) inputs_at (walk_head table))
      (join
      table
      (many (cell_record_size table) 4 (λ i. output_line (output_from zeros_at table i)) (λ i. blank-cell (table_entry table i) (table_entry table (i + 1)) (table_entry table (i + 2))) (own-output small) (output_count table) (outputs_at table) (walk_inputs table))
      (join
      table
      (many (cell_record_size table) 2 (λ i. cell_line (cell_record_from zeros_at table i)) (λ i. blank-cell (table_entry table i) (table_entry table (i + 1)) (table_entry table (i + 2))) own-cell (dep_count table) (deps_at table) (walk_outputs table))
      (join
      table
      (many (bytes_size table) 1 (λ i. bytes_line (bytes_from zeros_at table i)) (λ i. length-blank (table_entry table (i + 1))) own-bytes (witness_count table) (witnesses_at table) (walk_deps table))
      (record-one 0 (walk_witnesses table) (verdicts_at table) (suc (digit_count table)) (digits_line (records_at (table_entry table) 1 (digit_count table) (verdicts_at table + 2))) refl own-digits))))))))
