-- The order of epochs by products is that of the pairs (number, fraction), and no product leaves 64 bits.
-- Assumes nothing.
use mathlib.Core.Path.{◌≡◌, refl, ap}
use mathlib.Core.Logic.{◌⊎◌, inl, inr, ◌↔◌}
use mathlib.Core.Bool.{Bool, true, false, ◌&&◌, ◌||◌, cond, false≢true}
use Prim.Native.Nat.{ℕ, ◌+◌, ◌*◌, ◌/◌, ◌%◌, ◌^◌, ◌≤◌, ◌<◌}
use native.Mathlib.Nat.{mul-le-mul, mul-le-mul_right, mul-lt-mul_of_pos_right, le_of_mul-le-mul_right, mod-lt}
use native.Mathlib.Omega.{arith}
use lib.Dec.{eqb, leb, ltb}
use borrow.Author.Tests.{le-leb, leb-true, leb-false, ltb-true, ltb-false, eqb-true, eqb-false}
use Rattle.since.specs.Epoch.{Epoch, epoch_of, epoch_well_formed, divisor, parts, epoch_leb}
use Rattle.since.specs.EpochOrder.{SameFraction, EpochLe, EpochOrder}

-- ---- whole numbers: n epochs and i parts of which d make one, against n', i' and d'

abbrev ByProducts : (n i d n' i' d' : ℕ) → Type 0
ByProducts n i d n' i' d' = (n * d + i) * d' ≤ (n' * d' + i') * d

-- a lower number is earlier, whatever the fractions, which are below one
lower : (n i d n' i' d' : ℕ) → n < n' → i < d → 0 < d' → ByProducts n i d n' i' d'
lower n i d n' i' d' l f p = omega (arith, mul-le-mul_right (d * d') l, mul-lt-mul_of_pos_right f p)

-- a higher one is not
not-higher : (n i d n' i' d' : ℕ) → i' < d' → 0 < d → ByProducts n i d n' i' d' → n ≤ n'
not-higher n i d n' i' d' f p h = go (leb n n') refl
  where
    go : (b : Bool) → leb n n' ≡ b → n ≤ n'
    go true e = leb-true n n' e
    go false e = absurd (omega (arith, mul-le-mul_right (d * d') (leb-false n n' e), mul-lt-mul_of_pos_right f p))

-- with one number the fractions decide
fractions : (n i d n' i' d' : ℕ) → n ≡ n' → ByProducts n i d n' i' d' ↔ (i * d' ≤ i' * d)
fractions n i d n' i' d' e = let k : n * (d * d') ≡ n' * (d * d') = ap (λ x. x * (d * d')) e in (λ h. omega arith, λ h. omega arith)

-- ---- epochs

pub divisor-positive : (e : Epoch) → 0 < divisor e
unfolding divisor
divisor-positive e = go (eqb e.length 0) refl
  where
    go : (b : Bool) → eqb e.length 0 ≡ b → 0 < cond b 1 e.length
    go true h = omega arith
    go false h = omega (arith, eqb-false e.length 0 h)

-- a well-formed fraction is below one
index_below : (e : Epoch) → epoch_well_formed e ≡ true → e.index < divisor e
unfolding epoch_well_formed divisor
index_below e h = go (ltb e.index e.length) refl (eqb e.index 0) refl (eqb e.length 0) refl h
  where
    go : (l : Bool) → ltb e.index e.length ≡ l → (i : Bool) → eqb e.index 0 ≡ i → (z : Bool) → eqb e.length 0 ≡ z
        → l || (i && z) ≡ true → e.index < cond z 1 e.length
    go true p i o true q h = let b = ltb-true e.index e.length p in absurd (omega (arith, eqb-true e.length 0 q))
    go true p i o false q h = ltb-true e.index e.length p
    go false p true o true q h = omega (arith, eqb-true e.index 0 o)
    go false p true o false q h = absurd (false≢true h)
    go false p false o z q h = absurd (false≢true h)

module _ (a b : Epoch) where
  abbrev Products : Type 0
  Products = parts a * divisor b ≤ parts b * divisor a

  by-products : epoch_leb a b ≡ true → Products
  unfolding epoch_leb
  by-products = leb-true (parts a * divisor b) (parts b * divisor a)

  from-products : Products → epoch_leb a b ≡ true
  unfolding epoch_leb
  from-products = le-leb (parts a * divisor b) (parts b * divisor a)

  pairs-there : epoch_well_formed b ≡ true → Products → EpochLe a b
  unfolding parts
  pairs-there q h = go (ltb a.number b.number) refl
    where
      go : (l : Bool) → ltb a.number b.number ≡ l → EpochLe a b
      go true e = inl (ltb-true a.number b.number e)
      go false e =
          let n = not-higher a.number a.index (divisor a) b.number b.index (divisor b) (index_below b q) (divisor-positive a) h in
          let s : a.number ≡ b.number = omega (arith, ltb-false a.number b.number e) in
          inr (s, (fractions a.number a.index (divisor a) b.number b.index (divisor b) s).0 h)

  pairs-back : epoch_well_formed a ≡ true → EpochLe a b → Products
  unfolding parts
  pairs-back p (inl l) = lower a.number a.index (divisor a) b.number b.index (divisor b) l (index_below a p) (divisor-positive b)
  pairs-back p (inr h) = (fractions a.number a.index (divisor a) b.number b.index (divisor b) h.0).1 h.1

  total : (epoch_leb a b ≡ true) ⊎ (epoch_leb b a ≡ true)
  unfolding epoch_leb
  total = go (leb (parts a * divisor b) (parts b * divisor a)) refl
    where
      go : (l : Bool) → leb (parts a * divisor b) (parts b * divisor a) ≡ l
          → (l ≡ true) ⊎ (leb (parts b * divisor a) (parts a * divisor b) ≡ true)
      go true h = inl refl
      go false h =
          inr (le-leb (parts b * divisor a) (parts a * divisor b) (omega (arith, leb-false (parts a * divisor b) (parts b * divisor a) h)))

transitive : (a b c : Epoch) → Products a b → Products b c → Products a c
transitive a b c h k =
    let z : parts a * divisor c * divisor b ≤ parts c * divisor a * divisor b = omega (arith, mul-le-mul_right (divisor c) h, mul-le-mul_right (divisor a) k) in
    le_of_mul-le-mul_right z (divisor-positive b)

equal : (a b : Epoch) → EpochLe a b → EpochLe b a → (a.number ≡ b.number) × SameFraction a b
equal a b (inl l) (inl m) = absurd (omega arith)
equal a b (inl l) (inr m) = absurd (omega (arith, m.0))
equal a b (inr l) (inl m) = absurd (omega (arith, l.0))
equal a b (inr l) (inr m) = (l.0, omega (arith, l.1, m.1))

pub epoch-order : EpochOrder
epoch-order = record {
  pairs = λ a b p q. (λ h. pairs-there a b q (by-products a b h), λ h. from-products a b (pairs-back a b p h));
  reflexive = λ a. from-products a a (omega arith);
  transitive = λ a b c h k. from-products a c (transitive a b c (by-products a b h) (by-products b c k));
  total = total;
  equal = λ a b p q h k. equal a b (pairs-there a b q (by-products a b h)) (pairs-there b a p (by-products b a k));
}

-- ---- the products of epochs whose parts have 32, 16 and 16 bits

product : (a b n m : ℕ) → a ≤ n → b ≤ m → a * b ≤ n * m
product a b n m p q = mul-le-mul {n₁ = a} {m₁ = b} {n₂ = n} {m₂ = m} p q

divisor-bound : (e : Epoch) → e.length < 2 ^ 16 → divisor e < 2 ^ 16
unfolding divisor
divisor-bound e h = go (eqb e.length 0)
  where
    go : (b : Bool) → cond b 1 e.length < 2 ^ 16
    go true = omega arith
    go false = h

-- no sum of parts leaves 64 bits,
pub parts-bound : (e : Epoch) → e.number < 2 ^ 32 → e.index < 2 ^ 16 → e.length < 2 ^ 16 → e.number * divisor e + e.index ≤ 281470681743360
parts-bound e n i l = omega (arith, product e.number (divisor e) 4294967295 65535 (omega arith) (omega (arith, divisor-bound e l)))

-- and no product of them with a divisor
pub product-bound : (a b : Epoch) → a.number < 2 ^ 32 → a.index < 2 ^ 16 → a.length < 2 ^ 16 → b.length < 2 ^ 16
    → parts a * divisor b < 2 ^ 64
unfolding parts
product-bound a b n i l m =
    omega (arith, product (a.number * divisor a + a.index) (divisor b) 281470681743360 65535 (parts-bound a n i l) (omega (arith, divisor-bound b m)))

-- of a value's own epochs each has at most 56 bits
pub epoch-products : (value other : ℕ) → parts (epoch_of value) * divisor (epoch_of other) < 2 ^ 56
unfolding parts epoch_of
epoch-products value other =
    let n : value % 2 ^ 24 < 2 ^ 24 = mod-lt value (omega arith) in
    let i : value / 2 ^ 24 % 2 ^ 16 < 2 ^ 16 = mod-lt _ (omega arith) in
    let l : value / 2 ^ 40 % 2 ^ 16 < 2 ^ 16 = mod-lt _ (omega arith) in
    let m : other / 2 ^ 40 % 2 ^ 16 < 2 ^ 16 = mod-lt _ (omega arith) in
    let d : divisor (epoch_of value) < 2 ^ 16 = divisor-bound (epoch_of value) l in
    let e : divisor (epoch_of other) < 2 ^ 16 = divisor-bound (epoch_of other) m in
    let p = product (value % 2 ^ 24) (divisor (epoch_of value)) 16777215 65535 (omega arith) (omega arith) in
    omega (arith, product (value % 2 ^ 24 * divisor (epoch_of value) + value / 2 ^ 24 % 2 ^ 16) (divisor (epoch_of other)) 1099511627775 65535 (omega arith) (omega arith))

-- for the check's own search
pub ruleset bounds = (parts-bound, product-bound)
