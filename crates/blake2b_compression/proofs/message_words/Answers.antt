-- `blake2b_compression::message_words` meets its contract: each word is at its place. Assumes nothing.
use Rattle.std.proofs.Common.{arith}
use Rattle.octets.proofs.Filled.{tabulated}
use Rattle.blake2b_compression.specs.Compression.{words_of}
use Rattle.blake2b_compression.proofs.message_words.Goals as goal

pub returns : goal.returns
unfolding words_of
returns c = tabulated _ 16 _ c.loop-i.invariant.0 (λ k h. c.loop-i.invariant.1 k (omega arith))
