-- Word k stands at place k, for each k below i. Assumes nothing.
use Rattle.std.proofs.Common.{◌≡◌, ℕ, ◌*◌, ◌<◌, length, get_or}
use Rattle.octets.specs.Le.{number_at}
use Rattle.blake2b_compression.proofs.message_words.Given as goal

abbrev pub invariant-loop-i : goal.invariant-loop-i
invariant-loop-i l = (length l.m ≡ 16) × ((k : ℕ) → k < l.i → get_or l.m k 0 ≡ number_at l.block (8 * k) 8)
