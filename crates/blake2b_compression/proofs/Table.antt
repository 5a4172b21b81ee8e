-- What the rule of the message schedule says of a row and of a place in it.
-- Assumes nothing.
use Rattle.std.proofs.Common.{◌≡◌, ℕ, zero, suc, ◌%◌, ◌<◌, Bool, true, false, ◌&&◌, T, eqb, ltb, List, [], ◌∷◌, length, get_or, le_of_suc-le-suc, not-suc-le-zero, arith, eqb→eq, ltb→lt}
use Rattle.octets.specs.Lists.{every}
use Rattle.blake2b_compression.specs.Compression.{SIGMA, row_of}
use Rattle.blake2b_compression.specs.Schedule.{permutation, sigma-rule}

left : (a b : Bool) → T (a && b) → T a
left true b t = tt
left false b t = t

right : (a b : Bool) → T (a && b) → T b
right true b t = t
right false b t = absurd t

-- what a test says of every element it says of the one at k
at : {A : Type 0} (f : A → Bool) (xs : List A) → T (every f xs) → (k : ℕ) (d : A) → k < length xs → T (f (get_or xs k d))
unfolding every
at f [] t k d h = absurd (not-suc-le-zero h)
at f (x ∷ xs) t zero d h = left (f x) (every f xs) t
at f (x ∷ xs) t (suc k) d h = at f xs (right (f x) (every f xs) t) k d (le_of_suc-le-suc h)

-- a place that a row names is below 16
pub in_row : (row : List ℕ) → T (permutation row) → (k : ℕ) → k < 16 → get_or row k 0 < 16
unfolding permutation
in_row row t k h =
    let n : length row ≡ 16 = eqb→eq (length row) 16 (left (eqb (length row) 16) _ t) in
    ltb→lt (get_or row k 0) 16 (at (λ (x : ℕ). ltb x 16) row (left (every (λ (x : ℕ). ltb x 16) row) _ (right (eqb (length row) 16) _ t)) k 0 (omega arith))

-- the rule at the row of a round
pub row_rule : (i : ℕ) → T (permutation (row_of i))
unfolding row_of SIGMA
row_rule i = at permutation SIGMA (right (eqb (length SIGMA) 10) (every permutation SIGMA) sigma-rule) (i % 10) [] (omega arith)
