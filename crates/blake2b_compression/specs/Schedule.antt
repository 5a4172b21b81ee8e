-- The rule of the message schedule: each of its ten rows holds each of the places 0 to 15 once.
use Rattle.std.specs.Prelude.{ℕ, Bool, false, ◌&&◌, ◌||◌, T, List, [], ◌∷◌, length, ◌==◌, nat_lt}
use Rattle.octets.specs.Lists.{every}
use Rattle.blake2b_compression.specs.Compression.{SIGMA}

-- n stands in the list
abbrev pub holds : List ℕ → ℕ → Bool
holds [] n = false
holds (x ∷ xs) n = n == x || holds xs n

-- a row of sixteen places below 16 that holds each of 0 to 15
unfoldable pub permutation : List ℕ → Bool
permutation row =
    (length row == 16)
    && (every (λ (x : ℕ). nat_lt x 16) row
    && every (holds row) (0 ∷ 1 ∷ 2 ∷ 3 ∷ 4 ∷ 5 ∷ 6 ∷ 7 ∷ 8 ∷ 9 ∷ 10 ∷ 11 ∷ 12 ∷ 13 ∷ 14 ∷ 15 ∷ []))

pub sigma-rule : T (length SIGMA == 10 && every permutation SIGMA)
unfolding every SIGMA permutation
sigma-rule = tt
