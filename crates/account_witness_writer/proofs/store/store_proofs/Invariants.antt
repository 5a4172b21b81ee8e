-- What is left to store, stored from here, is the whole. Assumes nothing.
use Rattle.std.proofs.Common.{◌≡◌, ◌+◌, ◌*◌, length, drop}
use lib.Seq.{sets}
use Rattle.octets.specs.Lists.{sum}
use Rattle.account_witness.specs.Reading.{proofs_bytes}
use Rattle.account_witness_writer.specs.Writer.{lent_proofs}
use Rattle.account_witness_writer.proofs.store.store_proofs.Given as goal

abbrev pub invariant-loop-slot : goal.invariant-loop-slot
invariant-loop-slot l = record {
  placed : l.at + length l.rest ≡ 16 + (8 * length l.yielded + length l.bytes);
  summed : sum (drop (length l.yielded) l.lengths) ≡ length l.rest;
  stored : sets l.out l.at (proofs_bytes (lent_proofs (drop (length l.yielded) l.slots) (drop (length l.yielded) l.lengths) l.rest)) ≡ sets l.initial.out 16 (proofs_bytes (lent_proofs l.slots l.lengths l.bytes));
}
