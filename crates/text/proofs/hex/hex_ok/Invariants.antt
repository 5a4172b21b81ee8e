-- `text::hex::hex_ok` meets its contract. Assumes nothing.
use Rattle.std.proofs.Common.{◌≡◌, ◌&&◌, drop}
use Rattle.octets.specs.Lists.{every}
use Rattle.text.specs.Text.{hex_ok, is_hex}
use Rattle.text.proofs.hex.hex_ok.Given as goal

abbrev pub invariant-loop-byte : goal.invariant-loop-byte
invariant-loop-byte l = hex_ok l.s ≡ (l.ok && every is_hex (drop l.byte-index l.s))
