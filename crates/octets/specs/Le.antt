-- Little-endian numbers of any width: document 01, "Multi-byte numbers are little-endian."
use Rattle.std.specs.Prelude.{ℕ, zero, suc, ◌+◌, ◌*◌, ◌/◌, ◌%◌, ◌^◌, ◌<◌, List, [], ◌∷◌, take, drop, get_or}

-- the k lowest bytes of n, the lowest first
unfoldable pub to_le : ℕ → ℕ → List ℕ
to_le zero n = []
to_le (suc k) n = n % 256 ∷ to_le k (n / 256)

-- the number whose bytes are these, the lowest first
unfoldable pub from_le : List ℕ → ℕ
from_le [] = 0
from_le (b ∷ bs) = b + 256 * from_le bs

-- the number in the k bytes of s from `at` on; past the end there is nothing
unfoldable pub number_at : List ℕ → ℕ → ℕ → ℕ
number_at s at k = from_le (take k (drop at s))

-- a u64 as two u32, the low half first
abbrev pub u64_halves : ℕ → List ℕ
u64_halves n = n % 2 ^ 32 ∷ n / 2 ^ 32 ∷ []

-- every element is a byte
abbrev pub Bytes : List ℕ → Type 0
Bytes s = (i : ℕ) → get_or s i 0 < 256
