-- `exports_request::number_words` meets its contract: the words fill the array. Assumes nothing.
use mathlib.Core.Path.{refl, sym, ◌∙◌}
use Rattle.held_request.specs.Held.{held_reading}
use Rattle.exports_request.specs.Parts.{number_words}
use Rattle.exports_request.proofs.Parts.{words-fill}
use Rattle.exports_request.proofs.number_words.Goals as goal

pub returns : goal.returns
unfolding number_words held_reading
returns c =
    rw (sym c.verifier_profile.ensures, sym c.operation.ensures, sym c.slot.ensures, sym c.algorithm_id.ensures)
    (c.store_words.ensures.1 ∙ words-fill _ _ refl)
