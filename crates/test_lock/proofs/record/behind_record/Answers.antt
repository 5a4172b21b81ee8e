-- `test_lock::record::behind_record` meets its contract. Assumes nothing.
use native.Mathlib.Omega.{arith}
use mathlib.Core.Path.{ap, ◌∙◌}
use lib.ListN.{length, length-drop}
use Rattle.test_lock.proofs.record.behind_record.Goals as goal

pub returns : goal.returns
returns c =
    let line = ap length c.rest-line.ensures ∙ length-drop c.args.len c.args.text.now in
    let behind = c.tail.ensures.result_len in
    omega (arith, line, behind)
