-- Lists whose elements all pass a test: one by one, by their parts, mapped, and by another test.
-- Assumes nothing.
use Prim.Native.Nat.{ℕ, zero, suc, ◌+◌, ◌≤◌, ◌<◌}
use mathlib.Core.Bool.{Bool, true, false, ◌&&◌, and-true, and_assoc}
use mathlib.Core.Path.{◌≡◌, refl, sym, ap}
use mathlib.Core.List.{List, [], ◌∷◌, ◌++◌, map}
use native.Mathlib.Numerals.{add-one}
use native.Mathlib.Omega.{arith}
use lib.ListN.{length, drop, get_or, drop_of_length-le}
use lib.Seq.{drop-cons}
use Rattle.std.specs.List.{list_all}
use Rattle.octets.specs.Lists.{every}
use Rattle.octets.proofs.Truth.{and_both, and_left, and_right, both-and}

module _ (p : ℕ → Bool) where
  -- what is left of a list, one element on
  module _ (s : List ℕ) (i : ℕ) (more : i < length s) where
    pub every_first : every p (drop i s) ≡ (p (get_or s i 0) && every p (drop (i + 1) s))
    unfolding every
    every_first = rw (add-one, drop-cons s i 0)

    -- a turn of a loop that keeps whether all passed so far
    pub every-next : (ok r : Bool) → r ≡ p (get_or s i 0) → (ok && every p (drop i s)) ≡ ((ok && r) && every p (drop (i + 1) s))
    every-next ok r e = rw (every_first, e) (sym (and_assoc ok (p (get_or s i 0)) (every p (drop (i + 1) s))))

  pub every-end : (s : List ℕ) (i : ℕ) → length s ≤ i → every p (drop i s) ≡ true
  unfolding every
  every-end s i h = rw (drop_of_length-le s h)

-- the library's test of every element
pub every_all : {A : Type 0} (p : A → Bool) (s : List A) → list_all p s ≡ every p s
unfolding every
every_all p [] = refl
every_all p (x ∷ s) = ap (λ (r : Bool). p x && r) (every_all p s)

-- each element
pub every-nth : {A : Type 0} (p : A → Bool) (s : List A) (i : ℕ) (d : A) → every p s ≡ true → i < length s → p (get_or s i d) ≡ true
unfolding every
every-nth p [] i d e h = absurd (omega arith)
every-nth p (x ∷ s) zero d e h = and_left (p x) (every p s) e
every-nth p (x ∷ s) (suc i) d e h = every-nth p s i d (and_right (p x) (every p s) e) (omega arith)

-- the first, and the others
pub every-split : {A : Type 0} (p : A → Bool) (x : A) (xs : List A) → every p (x ∷ xs) ≡ true → (p x ≡ true) × (every p xs ≡ true)
unfolding every
every-split p x xs h = and_both (p x) (every p xs) h

-- two lists end to end
pub every_append : {A : Type 0} (p : A → Bool) (xs ys : List A) → every p xs ≡ true → every p ys ≡ true → every p (xs ++ ys) ≡ true
unfolding every
every_append p [] ys h k = k
every_append p (x ∷ xs) ys h k = rw (and_left (p x) (every p xs) h, every_append p xs ys (and_right (p x) (every p xs) h) k)

pub every-left : {A : Type 0} (p : A → Bool) (xs ys : List A) → every p (xs ++ ys) ≡ true → every p xs ≡ true
unfolding every
every-left p [] ys h = refl
every-left p (x ∷ xs) ys h = rw (and_left (p x) (every p (xs ++ ys)) h) (every-left p xs ys (and_right (p x) (every p (xs ++ ys)) h))

pub every-right : {A : Type 0} (p : A → Bool) (xs ys : List A) → every p (xs ++ ys) ≡ true → every p ys ≡ true
unfolding every
every-right p [] ys h = h
every-right p (x ∷ xs) ys h = every-right p xs ys (and_right (p x) (every p (xs ++ ys)) h)

-- what f makes of the elements
pub every_map : {A B : Type 0} (p : A → Bool) (q : B → Bool) (f : A → B) → ((x : A) → p x ≡ true → q (f x) ≡ true)
    → (xs : List A) → every p xs ≡ true → every q (map f xs) ≡ true
unfolding every
every_map p q f h [] e = refl
every_map p q f h (x ∷ xs) e =
    let a = and_both (p x) (every p xs) e in
    both-and (q (f x)) (every q (map f xs)) (h x a.0) (every_map p q f h xs a.1)

-- a test that passes where another does
pub every_more : {A : Type 0} (p q : A → Bool) → ((x : A) → p x ≡ true → q x ≡ true) → (xs : List A) → every p xs ≡ true → every q xs ≡ true
unfolding every
every_more p q pq [] h = refl
every_more p q pq (x ∷ xs) h = rw (pq x (and_left (p x) (every p xs) h)) (every_more p q pq xs (and_right (p x) (every p xs) h))

-- what a loop needs that keeps whether all passed so far
pub ruleset every_turns = (every-next, every-end, and-true)
