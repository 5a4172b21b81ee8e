-- `export_answers::words::store_words` meets its contract: where there is room the front part is the words. Assumes nothing.
use mathlib.Core.Path.{◌∙◌}
use Prim.Native.Nat.{◌*◌, ◌≤◌, ◌<◌}
use native.Mathlib.Omega.{arith}
use lib.ListN.{length}
use Rattle.export_answers.proofs.Table64.{words-front, words-fit, words-short}
use Rattle.export_answers.proofs.words.store_words.Goals as goal

pub returns-then-end-out : goal.returns-then-end-out
returns-then-end-out c =
    let a = c.args in
    let room : 8 * length a.words.now ≤ length a.out.now = omega (arith, c.if-end-out.true) in
    let fit = words-fit a.words.now a.out.now room in
    (fit.0, words-front a.words.now a.out.now _ room c.store_each.ensures ∙ fit.1)

pub returns-else-end-out : goal.returns-else-end-out
returns-else-end-out c =
    let a = c.args in
    let none : length a.out.now < 8 * length a.words.now = omega (arith, c.if-end-out.false) in
    let short = words-short a.words.now a.out.now none in
    (c.too_short.ensures ∙ short.0, short.1)
