-- The bytes of a reader's numbers: 64-bit words.
use Rattle.std.specs.Prelude.{ℕ, List, [], ◌∷◌}
use Rattle.octets.specs.Layout.{Field, layout_bytes}

unfoldable pub words : List ℕ → List Field
words [] = []
words (v ∷ vs) = record { width = 8; value = v } ∷ words vs

unfoldable pub word_bytes : List ℕ → List ℕ
word_bytes vs = layout_bytes (words vs)
