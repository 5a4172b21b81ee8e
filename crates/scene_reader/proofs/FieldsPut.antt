-- Fields put down one by one. Assumes nothing.
use Prim.Native.Nat.{ℕ, ◌+◌}
use mathlib.Core.Path.{◌≡◌}
use mathlib.Core.List.{List, ◌∷◌}
use lib.ListN.{length, length-append}
use Rattle.octets.specs.Lists.{joined}

-- the bytes of the first field, and those of the others
pub joined-turn : (P ps : List (List ℕ)) (f : List ℕ) → P ≡ f ∷ ps → length (joined P) ≡ length f + length (joined ps)
unfolding joined
joined-turn P ps f e = rw e (length-append f (joined ps))
