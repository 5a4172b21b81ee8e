-- `scene_reader::numbers::put_digits` meets its contract. Assumes nothing.
use Rattle.std.proofs.Common.{◌≡◌, ◌+◌, ◌∷◌, length, map, drop}
use Rattle.std.proofs.lemmas.List.Edits.{sets}
use Rattle.text.specs.Text.{hex_val}
use Rattle.scene_reader.proofs.numbers.put_digits.Given as goal

abbrev pub invariant-loop-i : goal.invariant-loop-i
invariant-loop-i l = sets l.fn.table l.at (length l.f ∷ map hex_val l.f) ≡ sets l.table (l.at + 1 + l.i) (map hex_val (drop l.i l.f))
