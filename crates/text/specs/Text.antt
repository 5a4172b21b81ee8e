-- Text as it is read: pieces between separators, and the values of hexadecimal and decimal digits. Byte values are ASCII.
use Rattle.std.specs.Prelude.{ℕ, ◌+◌, ◌-◌, ◌*◌, ◌%◌, ◌^◌, ◌≤◌, ◌<◌, Bool, cond, not, ◌&&◌, ◌||◌, ◌≡◌, List, [], ◌∷◌, ◌++◌, length, take, drop, get_or, ltb, leb, eqb, None, Option, Some}
use Rattle.octets.specs.Lists.{every}

-- 01: "Text lines ended by byte 10, fields parted by commas, no quoting"
abbrev pub line_end : ℕ
line_end = 10

abbrev pub comma : ℕ
comma = 44

-- the first piece with a text before it
unfoldable pub before : List ℕ → List (List ℕ) → List (List ℕ)
before t [] = t ∷ []
before t (p ∷ ps) = (t ++ p) ∷ ps

-- a text cut at each c, one piece more than there are separators
unfoldable pub pieces : ℕ → List ℕ → List (List ℕ)
unfolding before
pieces c [] = [] ∷ []
pieces c (x ∷ r) = cond (eqb x c) ([] ∷ pieces c r) (before (x ∷ []) (pieces c r))

-- n is where the first c stands in s, or the length of s where there is none
pub record Cut (c : ℕ) (s : List ℕ) (n : ℕ) : Type 0 where
  pub within : n ≤ length s
  pub cut : n < length s → pieces c s ≡ take n s ∷ pieces c (drop (n + 1) s)
  pub whole : n ≡ length s → pieces c s ≡ take n s ∷ []

-- low ≤ x ≤ high
abbrev pub in_range : ℕ → ℕ → ℕ → Bool
in_range low high x = leb low x && leb x high

-- 01: "two lower-case digits a byte": 0 to 9 or a to f
abbrev pub is_hex : ℕ → Bool
is_hex x = in_range 48 57 x || in_range 97 102 x

-- a digit's value; 0 for any other byte
unfoldable pub hex_val : ℕ → ℕ
hex_val x = cond (in_range 48 57 x) (x - 48) (cond (in_range 97 102 x) (x - 87) 0)

-- 01: "HEX, TYPESCRIPT and DATA have two lower-case digits a byte and may be empty."
unfoldable pub hex_ok : List ℕ → Bool
hex_ok s = eqb (length s % 2) 0 && every is_hex s

-- the bytes that pairs of digits stand for
unfoldable pub hex_bytes : List ℕ → List ℕ
hex_bytes [] = []
hex_bytes (x ∷ []) = []
hex_bytes (x ∷ y ∷ r) = (hex_val x * 16 + hex_val y) ∷ hex_bytes r

-- a number v followed by the decimal digits s
unfoldable pub decimal : ℕ → List ℕ → ℕ
decimal v [] = v
decimal v (x ∷ r) = decimal (v * 10 + (x - 48)) r

-- 01: "a decimal u64 without leading zeros, zero being `0`": its digits
abbrev pub plain : List ℕ → Bool
plain s = ltb 0 (length s) && (every (in_range 48 57) s && (eqb (length s) 1 || not (eqb (get_or s 0 0) 48)))

-- the u64 that decimal digits stand for
unfoldable pub number_of : List ℕ → Option ℕ
number_of s = cond (ltb (decimal 0 s) (2 ^ 64)) (Some (decimal 0 s)) None

-- 01: "SINCE is a decimal u64 without leading zeros, zero being `0`."; 02, change 9: CAPACITY is "written as SINCE is"
unfoldable pub decimal_of : List ℕ → Option ℕ
decimal_of s = cond (plain s) (number_of s) None

-- the number of such a field, 0 where it has none
unfoldable pub number_in : Option ℕ → ℕ
number_in (Some v) = v
number_in None = 0
