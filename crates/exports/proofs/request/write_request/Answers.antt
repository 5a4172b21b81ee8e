-- `exports::request::write_request` meets its contract: where both slices have 32 bytes the arrays are them. Assumes nothing.
use mathlib.Core.Path.{sym, ◌∙◌}
use Rattle.protocol.specs.Rows.{◌then◌}
use Rattle.export_answers.proofs.Sizes.{first-whole, second-whole}
use Rattle.exports.specs.Writers.{buffer_after, lent_written, lent_stored}
use Rattle.exports.proofs.request.write_request.Goals as goal

pub returns : goal.returns
unfolding buffer_after lent_written lent_stored
returns c =
    let e = sym c.check_sizes.ensures ∙ c.in_ok-check_sizes.was in
    let w = rw (c.array_32.ensures ∙ first-whole _ _ e, c.array_32-2.ensures ∙ second-whole _ _ e) at c.encode_verifier_request.ensures in
    record { value = rw e w.value; out_after = rw e w.out_after }
