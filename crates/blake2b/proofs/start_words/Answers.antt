-- `blake2b::start_words` meets its contract: each word is at its place. Assumes nothing.
use Rattle.std.proofs.Common.{arith}
use Rattle.octets.proofs.Filled.{tabulated}
use Rattle.blake2b_compression.specs.Compression.{IV}
use Rattle.blake2b.specs.Rfc7693.{start_words}
use Rattle.blake2b.proofs.start_words.Goals as goal

pub returns : goal.returns
unfolding start_words IV
returns c = tabulated _ 8 _ c.loop-i.invariant.0 (λ k h. c.loop-i.invariant.1 k (omega arith))
