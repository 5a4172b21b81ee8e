-- `export_answers::words::store_each` meets its contract: what is left to store, stored, is the whole. Assumes nothing.
use Rattle.std.proofs.Common.{◌≡◌, refl, sym, ap, ◌∙◌, arith, length}
use lib.Seq.{length-sets}
use Rattle.export_answers.proofs.Table64.{word-stored, words-stored}
use Rattle.export_answers.proofs.words.store_each.Goals as goal

pub loop-i-preserved : goal.loop-i-preserved
loop-i-preserved c =
    let l = c.loop-i in
    let vs = c.args.words.now in
    record {
      whole = rw c.store_number.ensures (word-stored vs l.out l.i (omega arith) ∙ l.invariant.whole);
      kept = ap length c.store_number.ensures ∙ simp length-sets l.invariant.kept;
    }

pub returns : goal.returns
returns c =
    let l = c.loop-i in
    sym (words-stored c.args.words.now l.out l.i (omega arith)) ∙ l.invariant.whole
