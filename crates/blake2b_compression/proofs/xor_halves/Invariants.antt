-- Word k stands at place k, for each k below i. Assumes nothing.
use Rattle.std.proofs.Common.{◌≡◌, ℕ, ◌+◌, ◌<◌, length, get_or}
use lib.Bits.{bit_xor}
use Rattle.blake2b_compression.proofs.xor_halves.Given as goal

abbrev pub invariant-loop-i : goal.invariant-loop-i
invariant-loop-i l = (length l.next ≡ 8) × ((k : ℕ) → k < l.i → get_or l.next k 0 ≡ bit_xor (bit_xor (get_or l.h k 0) (get_or l.v k 0)) (get_or l.v (k + 8) 0))
