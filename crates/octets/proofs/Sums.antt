-- Sums of lists of numbers, from a place on: a number more, and the end.
-- Assumes nothing.
use mathlib.Core.Path.{◌≡◌}
use mathlib.Core.List.{List}
use Prim.Native.Nat.{ℕ, ◌+◌, ◌≤◌, ◌<◌}
use native.Mathlib.Numerals.{add-one}
use lib.ListN.{length, drop, get_or, drop_of_length-le}
use lib.Seq.{drop-cons}
use Rattle.octets.specs.Lists.{sum}

-- a turn of a loop that adds: the number at i, and the rest
pub sum-turn : (ns : List ℕ) (i : ℕ) → i < length ns → sum (drop i ns) ≡ get_or ns i 0 + sum (drop (i + 1) ns)
unfolding sum
sum-turn ns i h = rw (add-one, drop-cons ns i 0)

-- nothing is left
pub sum-end : (ns : List ℕ) (i : ℕ) → length ns ≤ i → sum (drop i ns) ≡ 0
unfolding sum
sum-end ns i h = rw (drop_of_length-le ns h)
