-- A text says no more bytes than it has.
-- Assumes nothing.
use Prim.Native.Nat.{ℕ, ◌≤◌}
use mathlib.Core.List.{List, [], ◌∷◌, ◌++◌, map}
use native.Mathlib.Omega.{arith}
use lib.ListN.{length, length-append}
use Rattle.octets.specs.Lists.{joined}
use Rattle.text.specs.Text.{line_end}
use Rattle.scene_line.specs.Kind.{first_form}
use Rattle.scene_table.specs.Scene.{scene_bytes}
use Rattle.scene_reading.specs.Lines.{LinesAccepted, kind_of_line, fields_of_line, bytes_of_line}
use Rattle.scene_reading.specs.Reading.{scene_of}
use Rattle.scene_reading.proofs.Leaves.{bytes-said}
use Rattle.decide_scene.proofs.StoreEnough.{pieces-short, line-short}

-- lines say no more bytes than they and what stands behind them have
lines-short : (ls ms : List (List ℕ)) → length (joined (map bytes_of_line ls)) ≤ length (joined (ls ++ ms))
unfolding joined bytes_of_line fields_of_line
lines-short [] ms = omega arith
lines-short (l ∷ ls) ms =
    omega (
      arith,
      lines-short ls ms,
      line-short (first_form (kind_of_line l)) l,
      length-append (bytes_of_line l) (joined (map bytes_of_line ls)),
      length-append l (joined (ls ++ ms)),
    )

-- what a text says has no more bytes than the text
pub text-bytes : (text : List ℕ) (n : ℕ) (p : LinesAccepted text n) → length (scene_bytes (scene_of p.lines)) ≤ length text
text-bytes text n p =
    let short : length (joined (p.lines ++ ([] ∷ []))) ≤ length text = rw p.ended at (pieces-short line_end text) in
    rw (← bytes-said text n p) (omega (arith, lines-short p.lines ([] ∷ [])))
