-- Private: no public contract cites this file.
-- A total in the code beside the whole number, and how the two lists are read.
use Rattle.std.specs.Prelude.{ℕ, ◌-◌, ◌^◌, cond, List, leb, None, Option, Some}
use Rattle.scene_table.specs.Lent.{input_count, output_count}
use Rattle.scene_table.specs.Places.{input_capacity, output_capacity}
use Rattle.capacity.specs.declared.total.Side.{Side}
use Rattle.capacity.specs.declared.total.Side.TheVariants.{Inputs, Outputs}

-- the total n, where a u64 holds it
unfoldable pub total_of : ℕ → Option ℕ
total_of n = cond (leb n (2 ^ 64 - 1)) (Some n) None

abbrev pub side_count : Side → List ℕ → ℕ
side_count Inputs table = input_count table
side_count Outputs table = output_count table

abbrev pub side_capacity : Side → List ℕ → ℕ → ℕ
side_capacity Inputs table i = input_capacity table i
side_capacity Outputs table i = output_capacity table i
