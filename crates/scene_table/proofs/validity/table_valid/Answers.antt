-- `scene_table::validity::table_valid` meets its contract: the walk decides. Assumes nothing.
use mathlib.Core.Path.{◌≡◌, sym, ◌∙◌}
use mathlib.Core.Bool.{true, false}
use Rattle.scene_table.specs.Lent.{table_entry}
use Rattle.scene_table.specs.RecordsWalk.{counts_ok}
use Rattle.scene_table.proofs.WalkDecides.{decides}
use Rattle.scene_table.proofs.validity.table_valid.Goals as goal

pub returns-then-counts_valid : goal.returns-then-counts_valid
unfolding table_entry
returns-then-counts_valid c =
    let a = c.args in
    let counted : counts_ok a.table.now ≡ true = sym c.counts_valid.ensures ∙ c.if-counts_valid.true in
    c.rest_valid.ensures ∙ rw counted at (decides a.table.now (λ i. (c.type_inv.table i).fits) a.room)

pub returns-else-counts_valid : goal.returns-else-counts_valid
unfolding table_entry
returns-else-counts_valid c =
    let a = c.args in
    let counted : counts_ok a.table.now ≡ false = sym c.counts_valid.ensures ∙ c.if-counts_valid.false in
    c.if-counts_valid.false ∙ rw counted at (decides a.table.now (λ i. (c.type_inv.table i).fits) a.room)
