-- `exports_transaction::hashes::digest_lent` meets its contract: where both slices have 32 bytes the arrays are them. Assumes nothing.
use mathlib.Core.Path.{sym, ◌∙◌}
use Rattle.export_answers.proofs.Sizes.{first-whole, second-whole}
use Rattle.authorization.specs.Digest.{authorization_of}
use Rattle.exports_transaction.specs.Answers.{lent_digest}
use Rattle.exports_transaction.proofs.hashes.digest_lent.Goals as goal

pub returns : goal.returns
unfolding lent_digest authorization_of
returns c =
    let e = sym c.check_sizes.ensures ∙ c.in_ok-check_sizes.was in
    rw (c.authorization_digest.ensures, c.array_32-2.ensures ∙ second-whole _ _ e, c.array_32.ensures ∙ first-whole _ _ e, e)
