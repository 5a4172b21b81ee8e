-- `scene_table::validity::zeros_from` meets its contract: what was found of the entries passed, and the rest. Assumes nothing.
use Rattle.std.proofs.Common.{◌≡◌, eqb, drop, sym, ◌∙◌, arith}
use mathlib.Core.Bool.{and-true}
use Rattle.std.proofs.lemmas.Grind.{common_steps}
use Rattle.octets.proofs.Every.{every-end}
use Rattle.scene_table.proofs.validity.zeros_from.Goals as goal

pub returns : goal.returns
returns c =
    let l = c.loop-entry in
    let behind : c.unwrap_or-behind.result.now ≡ drop c.args.first c.args.table.now = grind (arith, common_steps) in
    rw (← behind) (sym (l.invariant ∙ rw (every-end (λ e. eqb e 0) _ l.entry-index c.loop-entry-test.false) (and-true l.zero)))
