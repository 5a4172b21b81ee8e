-- `blake2b::Blake2b::update` meets its contract: the waiting part is filled up, and then the locals stand where a block ends.
-- Assumes nothing.
use Rattle.std.proofs.Common.{◌-◌, ◌<◌, length}
use Rattle.blake2b.proofs.WholeBlocks.{WholeBlocks}
use Rattle.blake2b.proofs.Blake2b.update.Given as goal

abbrev pub invariant-loop-at : goal.invariant-loop-at
invariant-loop-at l = (l.at < length l.data) × WholeBlocks l.self l.data l.at l.h l.fed

abbrev pub decreases-loop-at : goal.decreases-loop-at
decreases-loop-at l = length l.data - l.at
