-- `account_witness_writer::store::store_proofs` meets its contract: what is left to store, stored from here, is the whole. Assumes nothing.
use Rattle.std.proofs.Common.{◌≡◌, length, get_or, arith, rules}
use Rattle.std.proofs.lemmas.List.{length_push}
use Rattle.std.proofs.lemmas.Slice.Zip.{zip_turn}
use Rattle.account_witness_writer.proofs.WriterLaws.{sum_turn, store_turn}
use Rattle.account_witness_writer.proofs.store.store_proofs.Goals as goal

pub loop-slot-preserved : goal.loop-slot-preserved
loop-slot-preserved c =
    let a = c.args in
    let l = c.loop-slot in
    let t = zip_turn a.slots.now a.lengths.now l.yielded c.into_iter-slot-iterator.result l.slot-iterator c.next.new.self c.next.result (search rules) (search rules) l.yielded_by (c.in-Some.field-0-0, c.in-Some.field-0-1) c.in-Some.is c.next.ensures.steps in
    let n = length_push l.yielded (c.in-Some.field-0-0, c.in-Some.field-0-1) in
    let s : c.in-Some.field-0-0.now ≡ get_or a.slots.now (length l.yielded) 0 = t.2 0 in
    let m : c.in-Some.field-0-1.now ≡ get_or a.lengths.now (length l.yielded) 0 = t.3 0 in
    record {
      placed = grind (arith, sum_turn);
      summed = grind (arith, sum_turn);
      stored = grind (arith, sum_turn, store_turn);
    }
