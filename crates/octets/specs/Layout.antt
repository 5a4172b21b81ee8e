-- A layout is a list of fields that follow one another, each a number with its width in bytes.
use Rattle.std.specs.Prelude.{ℕ, zero, suc, ◌+◌, ◌^◌, ◌<◌, List, [], ◌∷◌, ◌++◌}
use Rattle.octets.specs.Le.{to_le, number_at}

pub record Field : Type 0 where
  pub width : ℕ
  pub value : ℕ

-- its bytes
unfoldable pub layout_bytes : List Field → List ℕ
layout_bytes [] = []
layout_bytes (f ∷ fs) = to_le f.width f.value ++ layout_bytes fs

-- the fields of these widths in s, from `at` on
unfoldable pub layout_at : List ℕ → List ℕ → ℕ → List Field
layout_at [] s at = []
layout_at (w ∷ ws) s at = record { width = w; value = number_at s at w } ∷ layout_at ws s (at + w)

abbrev pub field_widths : List Field → List ℕ
field_widths [] = []
field_widths (f ∷ fs) = f.width ∷ field_widths fs

abbrev pub layout_width : List ℕ → ℕ
layout_width [] = 0
layout_width (w ∷ ws) = w + layout_width ws

-- each value fits its width
abbrev pub LayoutFits : List Field → Type 0
LayoutFits [] = Unit {0}
LayoutFits (f ∷ fs) = (f.value < 256 ^ f.width) × LayoutFits fs

-- the i-th value
abbrev pub field_value : ℕ → List Field → ℕ
field_value i [] = 0
field_value zero (f ∷ fs) = f.value
field_value (suc i) (f ∷ fs) = field_value i fs
