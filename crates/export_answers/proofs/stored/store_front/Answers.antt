-- `export_answers::stored::store_front` meets its contract, by whether there is room. Assumes nothing.
use mathlib.Core.Path.{◌∙◌}
use Rattle.export_answers.proofs.Fits.{bytes_fit, bytes-short}
use Rattle.export_answers.proofs.stored.store_front.Goals as goal

pub returns-then-bytes-out : goal.returns-then-bytes-out
returns-then-bytes-out c =
    let a = c.args in
    let fit = bytes_fit a.bytes.now a.out.now c.if-bytes-out.true in
    (fit.0, c.store_bytes.ensures ∙ fit.1)

pub returns-else-bytes-out : goal.returns-else-bytes-out
returns-else-bytes-out c =
    let a = c.args in
    let short = bytes-short a.bytes.now a.out.now c.if-bytes-out.false in
    (c.too_short.ensures ∙ short.0, short.1)
