-- A list's capacities are the table's, one by one.
-- Assumes nothing.
use mathlib.Core.Path.{◌≡◌}
use mathlib.Core.List.{List}
use Prim.Native.Nat.{ℕ, ◌+◌, ◌≤◌, ◌<◌}
use lib.ListN.{drop}
use Rattle.octets.specs.Lists.{sum}
use Rattle.scene_table.specs.Scene.{Input, Output}
use Rattle.scene_table.specs.Lent.{scene_in}
use Rattle.scene_table.proofs.Records.{Listed, map-listed}
use Rattle.scene_table.proofs.PlaceLaws.{lent_input, lent_output, lent-given}
use Rattle.capacity.specs.declared.total.Side.{Side}
use Rattle.capacity.specs.declared.total.Side.TheVariants.{Inputs, Outputs}
use Rattle.capacity.specs.Capacity.{capacities}
use Rattle.capacity.specs.Totals.{side_count, side_capacity}

-- the capacities are the table's
pub capacities-listed : (side : Side) (table store : List ℕ)
    → Listed (capacities side (scene_in table store)) (side_count side table) (side_capacity side table)
unfolding capacities lent_input lent_output
capacities-listed Inputs table store =
    map-listed (λ (i : Input). i.capacity) (scene_in table store).inputs _ (lent_input table store) (lent-given table store).inputs
capacities-listed Outputs table store =
    map-listed (λ (o : Output). o.capacity) (scene_in table store).outputs _ (lent_output table store) (lent-given table store).outputs

module _ (side : Side) (table store : List ℕ) (i : ℕ) where
  -- what is left of them, at a turn of the loop over them and at its end
  pub total_turn : i < side_count side table → sum (drop i (capacities side (scene_in table store)))
      ≡ side_capacity side table i + sum (drop (i + 1) (capacities side (scene_in table store)))
  unfolding sum
  total_turn h = rw ((capacities-listed side table store).turn i h)

  pub total_end : side_count side table ≤ i → sum (drop i (capacities side (scene_in table store))) ≡ 0
  unfolding sum
  total_end h = rw ((capacities-listed side table store).none i h)

pub ruleset totals = (total_turn, total_end)
