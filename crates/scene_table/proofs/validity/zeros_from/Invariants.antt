-- `scene_table::validity::zeros_from` meets its contract: what was found of the entries passed, and the rest. Assumes nothing.
use Rattle.std.proofs.Common.{◌≡◌, ◌&&◌, eqb, drop}
use Rattle.octets.specs.Lists.{every}
use Rattle.scene_table.proofs.validity.zeros_from.Given as goal

abbrev pub invariant-loop-entry : goal.invariant-loop-entry
invariant-loop-entry l = every (λ e. eqb e 0) l.behind ≡ (l.zero && every (λ e. eqb e 0) (drop l.entry-index l.behind))
