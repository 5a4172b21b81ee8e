-- `text::hex::decode_within` meets its contract. Assumes nothing.
use Rattle.std.proofs.Common.{◌≡◌, ◌+◌, ◌*◌, drop}
use Rattle.std.proofs.lemmas.List.Edits.{sets}
use Rattle.text.specs.Text.{hex_bytes}
use Rattle.text.proofs.hex.decode_within.Given as goal

abbrev pub invariant-loop-i : goal.invariant-loop-i
invariant-loop-i l = sets l.fn.dst l.at (hex_bytes l.src) ≡ sets l.dst (l.at + l.i) (hex_bytes (drop (2 * l.i) l.src))
