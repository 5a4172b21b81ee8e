-- What the reader puts down of a line's fields is what they say.
-- Assumes nothing.
use Prim.Native.Nat.{ℕ}
use mathlib.Core.Path.{◌≡◌}
use mathlib.Core.List.{List, [], ◌∷◌, map, append_assoc, append-nil}
use lib.ListN.{length-map}
use Rattle.text.specs.Text.{hex_val, hex_bytes}
use Rattle.text.proofs.HexLaws.{hex-length}
use Rattle.scene_line.specs.declared.form.Form.{Form}
use Rattle.scene_line.specs.declared.form.Form.TheVariants.{Group, TypeHash, Hash, Hex, Digits}
use Rattle.scene_line.specs.Kind.{first_form}
use Rattle.scene_line.specs.Line.{field_bytes, line_bytes, line_entries}
use Rattle.scene_table.specs.Scene.{Line, cell_bytes, cell_lengths, bytes_line, hash_line, input_line, output_line, cell_line, digits_line}
use Rattle.scene_reading.specs.Lines.{kind_of_line, fields_of_line}
use Rattle.scene_reading.specs.Reading.{cell_of, decimal_field, input_of, output_of}

-- what the reader puts down of fields, the first of them of a form
unfoldable pub line_in : Form → List (List ℕ) → Line
line_in t fs = record { bytes = line_bytes t fs; numbers = line_entries t fs }

-- what it puts down of a line of the text
unfoldable pub line_read : List ℕ → Line
line_read l = line_in (first_form (kind_of_line l)) (fields_of_line l)

-- a line with one field: bytes, a hash, digits
module _ (f : List ℕ) where
  pub hex-put : line_in Hex (f ∷ []) ≡ bytes_line (hex_bytes f)
  unfolding line_in line_bytes line_entries field_bytes bytes_line
  hex-put = simp (append-nil, hex-length)

  pub hash-put : line_in Hash (f ∷ []) ≡ hash_line (hex_bytes f)
  unfolding line_in line_bytes line_entries field_bytes hash_line
  hash-put = simp append-nil

  pub digits-put : line_in Digits (f ∷ []) ≡ digits_line (map hex_val f)
  unfolding line_in line_bytes line_entries field_bytes digits_line
  digits-put = simp (append-nil, length-map)

-- a line with the fields of a cell, with its capacity behind them, and with those of an input
module _ (a b c d : List ℕ) where
  pub cell-put : line_in TypeHash (a ∷ b ∷ c ∷ d ∷ []) ≡ cell_line (cell_of 0 (a ∷ b ∷ c ∷ d ∷ []))
  unfolding line_in line_bytes line_entries field_bytes cell_line cell_bytes cell_lengths cell_of
  cell-put = simp (append_assoc, append-nil, hex-length)

  pub output-put : (v : List ℕ) → line_in TypeHash (a ∷ b ∷ c ∷ d ∷ v ∷ []) ≡ output_line (output_of (a ∷ b ∷ c ∷ d ∷ v ∷ []))
  unfolding line_in line_bytes line_entries field_bytes output_line cell_bytes cell_lengths output_of cell_of decimal_field
  output-put v = simp (append_assoc, append-nil, hex-length)

  pub input-put : (g t v : List ℕ) → line_in Group (g ∷ t ∷ a ∷ b ∷ c ∷ d ∷ v ∷ []) ≡ input_line (input_of (g ∷ t ∷ a ∷ b ∷ c ∷ d ∷ v ∷ []))
  unfolding line_in line_bytes line_entries field_bytes input_line cell_bytes cell_lengths input_of cell_of decimal_field
  input-put g t v = simp (append_assoc, append-nil, hex-length)
