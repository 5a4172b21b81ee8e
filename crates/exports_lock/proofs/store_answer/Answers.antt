-- `exports_lock::store_answer` meets its contract, as its three calls do. Assumes nothing.
use mathlib.Core.Path.{◌≡◌, refl, ◌∙◌}
use mathlib.Core.Bool.{Bool, true, false, cond}
use mir.Val.{bool_byte}
use Rattle.exports_lock.specs.Stored.{answer_words}
use Rattle.exports_lock.proofs.Room.{stored-behind}
use Rattle.exports_lock.proofs.store_answer.Goals as goal

-- the number of a test
number_of : (b : Bool) → bool_byte b ≡ cond b 1 0
number_of true = refl
number_of false = refl

pub returns : goal.returns
unfolding answer_words
returns c =
    let a = c.args in
    let stored = rw (c.store_words.ensures.1, number_of a.answer.reached) at c.store_bytes.ensures in
    rw stored at c.store_number.ensures ∙ stored-behind a.answer a.out.now c.requires
