-- That many rounds are done, and the next one goes by this row. Assumes nothing.
use Rattle.std.proofs.Common.{◌≡◌, ◌%◌}
use Rattle.blake2b_compression.specs.Compression.{rounds}
use Rattle.blake2b_compression.proofs.mix_rounds.Given as goal

abbrev pub invariant-loop : goal.invariant-loop
invariant-loop l = (l.row ≡ l.counter % 10) × (l.v ≡ rounds l.counter l.m l.initial.v)
