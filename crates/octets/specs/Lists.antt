-- Lists of numbers: equal or not, tested, strictly rising, added up, made from a function, joined from parts, and in an array.
use Rattle.std.specs.Prelude.{ℕ, zero, suc, ◌+◌, ◌≤◌, Bool, true, false, ◌&&◌, List, [], ◌∷◌, ◌++◌, eqb, leb, replicate}
use Rattle.std.proofs.lemmas.List.Edits.{sets}

-- the lists are equal
unfoldable pub same : List ℕ → List ℕ → Bool
same [] [] = true
same [] (y ∷ ys) = false
same (x ∷ xs) [] = false
same (x ∷ xs) (y ∷ ys) = eqb x y && same xs ys

-- every element passes the test
unfoldable pub every : {A : Type 0} → (A → Bool) → List A → Bool
every p [] = true
every p (x ∷ xs) = p x && every p xs

-- strictly rising, from `least` on
abbrev pub Rising : ℕ → List ℕ → Type 0
Rising least [] = Unit {0}
Rising least (s ∷ ss) = (least ≤ s) × Rising (s + 1) ss

-- the test of it
unfoldable pub is_rising : ℕ → List ℕ → Bool
is_rising least [] = true
is_rising least (s ∷ ss) = leb least s && is_rising (s + 1) ss

-- the numbers together
unfoldable pub sum : List ℕ → ℕ
sum [] = 0
sum (n ∷ ns) = n + sum ns

-- f 0, f 1, .. f (n - 1)
unfoldable pub tabulate : (ℕ → ℕ) → ℕ → List ℕ
tabulate f zero = []
tabulate f (suc n) = tabulate f n ++ (f n ∷ [])

-- parts one after another
unfoldable pub joined : List (List ℕ) → List ℕ
joined [] = []
joined (part ∷ parts) = part ++ joined parts

-- the list's bytes over n zeros: its first n bytes, and zeros where it has fewer
unfoldable pub array_of : ℕ → List ℕ → List ℕ
array_of n s = sets (replicate n 0) 0 s
