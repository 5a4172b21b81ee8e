-- What is left to store, stored, is the whole. Assumes nothing.
use Rattle.std.proofs.Common.{◌≡◌, ◌*◌, length, drop}
use lib.Seq.{sets}
use Rattle.blake2b.specs.Rfc7693.{bytes_of}
use Rattle.blake2b.proofs.store_words.Given as goal

abbrev pub invariant-loop-i : goal.invariant-loop-i
invariant-loop-i l = (length l.h ≡ 8) × (sets l.out (8 * l.i) (bytes_of (drop l.i l.h)) ≡ sets l.initial.out 0 (bytes_of l.h))
