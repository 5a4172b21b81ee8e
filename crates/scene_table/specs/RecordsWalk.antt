-- Private: no public contract cites this file.
-- The walk over a table's records that decides `valid_table`: each record's bytes begin where those of the record before it end.
use Rattle.std.specs.Prelude.{ℕ, zero, suc, ◌+◌, Bool, true, cond, ◌&&◌, List, length, drop, leb, ltb, eqb, None, Option, Some, is_some, unwrap_or}
use Rattle.octets.specs.Lists.{every}
use Rattle.protocol.specs.Limits.{table_min_entries, kind_max_lines, digits_max_count}
use Rattle.scene_table.specs.Lent.{table_entry, script_at, transaction_at, inputs_at, outputs_at, deps_at, witnesses_at, verdicts_at, digits_at, input_count, output_count, dep_count, witness_count, digit_count, input_width, output_width, cell_width, bytes_width, record_offset, bytes_length, input_record_group, input_script_length, input_data_length, cell_script_length, cell_data_length, hash_length, blank_scene}
use Rattle.scene_table.specs.declared.validity.RecordForm.{RecordForm}
use Rattle.scene_table.specs.declared.validity.RecordForm.TheVariants as form

-- where the bytes of the records so far end, none where one is not good; one test more
unfoldable pub required : Option ℕ → Bool → Option ℕ
required k ok = cond ok k None

-- a record whose bytes begin at `start`
unfoldable pub with_record : Option ℕ → ℕ → ℕ → Option ℕ
with_record None start size = None
with_record (Some used) start size = cond (eqb start used) (Some (start + size)) None

-- the record at `at`, by a test and a number of bytes for each record
unfoldable pub record_step : List ℕ → (ℕ → Bool) → (ℕ → ℕ) → Option ℕ → ℕ → Option ℕ
record_step table ok size k at = with_record (required k (ok at)) (record_offset table at) (size at)

-- n records of w entries, the first at `at`
unfoldable pub walk_records : List ℕ → (ℕ → Bool) → (ℕ → ℕ) → ℕ → ℕ → ℕ → Option ℕ → Option ℕ
walk_records table ok size w zero at k = k
walk_records table ok size w (suc n) at k = walk_records table ok size w n (at + w) (record_step table ok size k at)

unfoldable pub any_record : ℕ → Bool
any_record at = true

unfoldable pub group_ok : List ℕ → ℕ → Bool
group_ok table at = ltb (input_record_group table at) 2

unfoldable pub cell_size : ℕ → ℕ → ℕ
cell_size script content = hash_length script + 32 + script + content

unfoldable pub bytes_size : List ℕ → ℕ → ℕ
bytes_size table at = bytes_length table at

unfoldable pub cell_record_size : List ℕ → ℕ → ℕ
cell_record_size table at = cell_size (cell_script_length table at) (cell_data_length table at)

unfoldable pub input_size : List ℕ → ℕ → ℕ
input_size table at = cell_size (input_script_length table at) (input_data_length table at)

-- the test, the bytes and the entries of a record by its form
abbrev pub record_ok : List ℕ → RecordForm → ℕ → Bool
record_ok table form.Bytes = any_record
record_ok table form.Cell = any_record
record_ok table form.Output = any_record
record_ok table form.Input = group_ok table

abbrev pub record_size : List ℕ → RecordForm → ℕ → ℕ
record_size table form.Bytes = bytes_size table
record_size table form.Cell = cell_record_size table
record_size table form.Output = cell_record_size table
record_size table form.Input = input_size table

abbrev pub record_width : RecordForm → ℕ
record_width form.Bytes = bytes_width
record_width form.Cell = cell_width
record_width form.Output = output_width
record_width form.Input = input_width

unfoldable pub records_start : Option ℕ
records_start = Some 0

unfoldable pub walk_head : List ℕ → Option ℕ
walk_head table = with_record (record_step table any_record (bytes_size table) records_start script_at) (record_offset table transaction_at) 32

unfoldable pub walk_inputs : List ℕ → Option ℕ
walk_inputs table = walk_records table (group_ok table) (input_size table) input_width (input_count table) inputs_at (walk_head table)

unfoldable pub walk_outputs : List ℕ → Option ℕ
walk_outputs table = walk_records table any_record (cell_record_size table) output_width (output_count table) (outputs_at table) (walk_inputs table)

unfoldable pub walk_deps : List ℕ → Option ℕ
walk_deps table = walk_records table any_record (cell_record_size table) cell_width (dep_count table) (deps_at table) (walk_outputs table)

unfoldable pub walk_witnesses : List ℕ → Option ℕ
walk_witnesses table = walk_records table any_record (bytes_size table) bytes_width (witness_count table) (witnesses_at table) (walk_deps table)

unfoldable pub walk_lines : List ℕ → Option ℕ
walk_lines table = with_record (walk_witnesses table) (record_offset table (verdicts_at table)) 0

-- enough entries; script, tx and verdicts once, at most so many of the others and of digits
unfoldable pub counts_ok : List ℕ → Bool
counts_ok table =
    leb table_min_entries (length table)
    && eqb (table_entry table 0) 0
    && eqb (table_entry table 1) 1
    && eqb (table_entry table 2) 1
    && leb (input_count table) kind_max_lines
    && leb (output_count table) kind_max_lines
    && leb (dep_count table) kind_max_lines
    && leb (witness_count table) kind_max_lines
    && eqb (table_entry table 7) 1
    && leb (digit_count table) digits_max_count

-- the entries behind the last digit are zero
unfoldable pub zeros_behind : List ℕ → Bool
zeros_behind table = every (λ (e : ℕ). eqb e 0) (drop (digits_at table + digit_count table) table)

unfoldable pub rest_ok : List ℕ → ℕ → Bool
rest_ok table n =
    is_some (walk_lines table)
    && every (λ (d : ℕ). ltb d 3) (blank_scene table).digits
    && leb (unwrap_or (walk_lines table) 0) n
    && zeros_behind table
