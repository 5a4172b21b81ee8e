-- `export_answers::words::store_each`: what is left to store, stored, is the whole.
use Rattle.std.specs.Prelude.{◌≡◌, ◌*◌, length, drop}
use Rattle.std.proofs.lemmas.List.Edits.{sets}
use Rattle.export_answers.specs.Words.{word_bytes}
use Rattle.export_answers.proofs.words.store_each.Given as goal

abbrev pub invariant-loop-i : goal.invariant-loop-i
invariant-loop-i l = record {
  whole : sets l.out (8 * l.i) (word_bytes (drop l.i l.words)) ≡ sets l.initial.out 0 (word_bytes l.words);
  kept : length l.out ≡ length l.initial.out;
}
