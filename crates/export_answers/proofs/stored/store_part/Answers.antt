-- `export_answers::stored::store_part` meets its contract: by the refusal, then by what is stored. Assumes nothing.
use mathlib.Core.Path.{◌≡◌}
use native.Mathlib.Omega.{arith}
use Rattle.export_answers.proofs.Fits.{part-refused, length-stored, length-kept}
use Rattle.export_answers.proofs.stored.store_part.Goals as goal

pub returns-then-refusal-ne0 : goal.returns-then-refusal-ne0
returns-then-refusal-ne0 c =
    let a = c.args in
    part-refused a.refusal c.if-refusal-ne0.true a.part.now a.out.now a.len.now

pub returns-then-number-eq0 : goal.returns-then-number-eq0
returns-then-number-eq0 c =
    let stored = c.store_front-number.ensures in
    let none : c.args.refusal ≡ 0 = omega arith in
    rw none (stored, length-stored 0 _ _ _ _ stored.0 c.if-number-eq0.true)

pub returns-else-number-eq0 : goal.returns-else-number-eq0
returns-else-number-eq0 c =
    let stored = c.store_front-number.ensures in
    let none : c.args.refusal ≡ 0 = omega arith in
    rw none (stored, length-kept 0 _ _ _ _ stored.0 c.if-number-eq0.false)
