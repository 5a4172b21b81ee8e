-- `blake2b_compression::xor_halves` meets its contract: each word is at its place. Assumes nothing.
use Rattle.std.proofs.Common.{arith}
use Rattle.octets.proofs.Filled.{tabulated}
use Rattle.blake2b_compression.specs.Compression.{halves}
use Rattle.blake2b_compression.proofs.xor_halves.Goals as goal

pub returns : goal.returns
unfolding halves
returns c = tabulated _ 8 _ c.loop-i.invariant.0 (λ k h. c.loop-i.invariant.1 k (omega arith))
