-- The numbers that the lock gives; 01, "Where each refusal is raised", and what document 02 adds.
use Rattle.std.specs.Prelude.{ℕ}
use mathlib.Core.List.{List, [], ◌∷◌, Memᴰ}

-- 0, "accepted"; the lock's own: "answer buffer too short for this request", 5, and "a table that the reader, scene length aside,
-- leaves for no accepted scene with a store this long", 7; the original's, 20 to 38 without 36, which is the public-key proof's, and
-- 37, the writers'; 39, a total's (02, change 9); change 1: "40 where a hash differs"; change 4: 42; change 6: 44; change 9: "48 where
-- outputs exceed inputs"; change 10: 49
abbrev pub lock_numbers : List ℕ
lock_numbers =
    0 ∷ 5 ∷ 7
    ∷ 20 ∷ 21 ∷ 22 ∷ 23 ∷ 24 ∷ 25 ∷ 26 ∷ 27 ∷ 28 ∷ 29 ∷ 30 ∷ 31 ∷ 32 ∷ 33 ∷ 34 ∷ 35 ∷ 38 ∷ 39
    ∷ 40 ∷ 42 ∷ 44 ∷ 48 ∷ 49 ∷ []

abbrev pub LockNumber : ℕ → Type 0
LockNumber n = Memᴰ n lock_numbers

-- those of the last row of the proofs and of the totals, and of an acceptance
abbrev pub last_numbers : List ℕ
last_numbers = 0 ∷ 28 ∷ 39 ∷ 48 ∷ []

abbrev pub LastNumber : ℕ → Type 0
LastNumber n = Memᴰ n last_numbers
