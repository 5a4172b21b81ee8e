-- `capacity::total::total_of` meets its contract: what is worked out and what is left give the whole. Assumes nothing.
use mathlib.Core.Path.{◌≡◌}
use Prim.Native.Nat.{◌+◌, ◌^◌, ◌<◌}
use lib.ListN.{drop}
use Rattle.octets.specs.Lists.{sum}
use Rattle.scene_table.specs.Lent.{scene_in}
use Rattle.capacity.specs.Capacity.{capacities, total_capacity}
use Rattle.capacity.proofs.total.total_of.Given as goal

abbrev pub invariant-loop-i : goal.invariant-loop-i
invariant-loop-i l =
    let s = scene_in l.scene.table l.scene.store in
    (total_capacity l.side s ≡ l.total + sum (drop l.i (capacities l.side s))) × (l.total < 2 ^ 64)
