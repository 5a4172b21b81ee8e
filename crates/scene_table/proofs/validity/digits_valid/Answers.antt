-- `scene_table::validity::digits_valid` meets its contract. Assumes nothing.
use Rattle.std.proofs.Common.{◌+◌, ◌∙◌, ltb, rules, tests}
use Rattle.std.proofs.lemmas.Iterator.{YieldsList-from_range}
use Rattle.std.proofs.lemmas.Iterator.Search.{all_from_yields_List}
use Rattle.scene_table.specs.Lent.{table_entry}
use Rattle.scene_table.proofs.WalkLaws.{digits_all}
use Rattle.scene_table.proofs.validity.digits_valid.Goals as goal

pub returns : goal.returns
returns c =
    let a = c.args in
    all_from_yields_List (λ i. ltb (table_entry a.table.now (a.first + i)) 3) _ _ c.all.result c.all.ensures.ran (YieldsList-from_range 0 a.n a.n (cc) (search rules)) (λ x b q k. search (rules, tests))
    ∙ digits_all (λ d. ltb d 3) (table_entry a.table.now) a.first a.n
