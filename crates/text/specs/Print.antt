-- Text as it is printed: lines of fields, and hexadecimal and decimal digits. Byte values are ASCII.
use Rattle.std.specs.Prelude.{ℕ, zero, suc, ◌+◌, ◌/◌, ◌%◌, cond, List, [], ◌∷◌, ◌++◌, map, ltb}
use Rattle.text.specs.Text.{line_end, comma}

-- texts with a c before each
unfoldable pub parted_by : ℕ → List (List ℕ) → List ℕ
parted_by c [] = []
parted_by c (t ∷ ts) = (c ∷ t) ++ parted_by c ts

-- 01: "fields parted by commas": a word and the fields after it
unfoldable pub line_text : List ℕ → List (List ℕ) → List ℕ
line_text word fs = word ++ parted_by comma fs

-- 01: "Text lines ended by byte 10"
unfoldable pub ended_lines : List (List ℕ) → List ℕ
ended_lines [] = []
ended_lines (l ∷ ls) = l ++ (line_end ∷ ended_lines ls)

-- 01: "two lower-case digits a byte"
unfoldable pub digit_text : ℕ → ℕ
digit_text d = cond (ltb d 10) (48 + d) (87 + d)

unfoldable pub hex_text : List ℕ → List ℕ
hex_text [] = []
hex_text (b ∷ bs) = digit_text (b / 16) ∷ digit_text (b % 16) ∷ hex_text bs

-- 01: "a decimal u64 without leading zeros, zero being `0`": at most n digits
unfoldable pub decimal_text : ℕ → ℕ → List ℕ
decimal_text zero v = []
decimal_text (suc n) v = cond (ltb v 10) ((48 + v) ∷ []) (decimal_text n (v / 10) ++ ((48 + v % 10) ∷ []))

-- the whole of it: a number of 64 bits has at most 20 digits
unfoldable pub number_text : ℕ → List ℕ
number_text v = decimal_text 20 v

-- "DIGITS", one byte each
unfoldable pub digits_text : List ℕ → List ℕ
digits_text digits = map (λ (d : ℕ). 48 + d) digits
