-- `text::print::put_hex_within` meets its contract: what is left to store, stored, is the whole. Assumes nothing.
use Rattle.std.proofs.Common.{◌≡◌, ◌+◌, ◌*◌, drop}
use Rattle.std.proofs.lemmas.List.Edits.{sets}
use Rattle.text.specs.Print.{hex_text}
use Rattle.text.proofs.print.put_hex_within.Given as goal

abbrev pub invariant-loop-i : goal.invariant-loop-i
invariant-loop-i l = sets l.out (l.at + 2 * l.i) (hex_text (drop l.i l.bytes)) ≡ sets l.fn.out l.at (hex_text l.bytes)
