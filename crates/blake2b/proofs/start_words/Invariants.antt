-- Word k is changed, for each k below i. Assumes nothing.
use Rattle.std.proofs.Common.{◌≡◌, ℕ, ◌*◌, ◌<◌, ◌≤◌, length, get_or}
use lib.Bits.{bit_xor}
use Rattle.octets.specs.Le.{number_at}
use Rattle.blake2b.proofs.start_words.Given as goal

abbrev pub invariant-loop-i : goal.invariant-loop-i
invariant-loop-i l =
    (length l.h ≡ 8)
    × ((k : ℕ) → k < l.i → get_or l.h k 0 ≡ bit_xor (get_or l.initial.h k 0) (number_at l.p (8 * k) 8))
    × ((k : ℕ) → l.i ≤ k → get_or l.h k 0 ≡ get_or l.initial.h k 0)
