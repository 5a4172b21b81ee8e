-- What the rows of the totals say, for any scene: they pass where both totals are within a u64 and the inputs cover the outputs; they
-- give 39 where a total is above, and 48 where the outputs exceed the inputs and neither is.
-- Assumes nothing.
use Rattle.std.specs.Prelude.{Ok}
use mathlib.Core.Path.{◌≡◌, refl}
use mathlib.Core.Logic.{◌↔◌, ◌⊎◌, inl, inr}
use mathlib.Core.Bool.{Bool, true, false}
use Prim.Native.Nat.{ℕ, ◌+◌, ◌-◌, ◌^◌, ◌≤◌, ◌<◌}
use native.Mathlib.Omega.{arith}
use borrow.Author.Tests.{le-leb, leb-true, leb-false}
use lib.Dec.{leb}
use Rattle.protocol.specs.Rows.{AllPass, decide, check_number}
use Rattle.scene_table.specs.Scene.{Scene}
use Rattle.capacity.specs.Capacity.{input_total, output_total, total_rows, capacity_rows, TotalsPass, TotalAbove, OutputsExceed}

module _ (s : Scene) where
  pub totals-pass : AllPass (capacity_rows s) ↔ TotalsPass s
  unfolding capacity_rows total_rows
  totals-pass = (
    λ h. record {
      inputs = leb-true (input_total s) (2 ^ 64 - 1) h.0;
      outputs = leb-true (output_total s) (2 ^ 64 - 1) h.1.0;
      covered = leb-true (output_total s) (input_total s) h.1.1.0;
    },
    λ p. (
      le-leb (input_total s) (2 ^ 64 - 1) p.inputs,
      (le-leb (output_total s) (2 ^ 64 - 1) p.outputs, (le-leb (output_total s) (input_total s) p.covered, tt)),
    ),
  )

-- what the rows of two totals give, by their tests
module _ (n m : ℕ) where
  data Outcome : ℕ → Type 0 where
    above : (2 ^ 64 - 1 < n) ⊎ (2 ^ 64 - 1 < m) → Outcome 39
    exceed : n ≤ 2 ^ 64 - 1 → m ≤ 2 ^ 64 - 1 → n < m → Outcome 48
    pass : n ≤ 2 ^ 64 - 1 → m ≤ 2 ^ 64 - 1 → m ≤ n → Outcome 0

  outcome : Outcome (check_number (decide (Ok tt) (total_rows n m)))
  unfolding total_rows decide
  outcome = go (leb n (2 ^ 64 - 1)) refl (leb m (2 ^ 64 - 1)) refl (leb m n) refl
    where
      go : (a : Bool) → leb n (2 ^ 64 - 1) ≡ a → (b : Bool) → leb m (2 ^ 64 - 1) ≡ b → (c : Bool) → leb m n ≡ c
          → Outcome (check_number (decide (Ok tt) (total_rows n m)))
      go false p b q c r = rw p (above (inl (leb-false n (2 ^ 64 - 1) p)))
      go true p false q c r = rw (p, q) (above (inr (leb-false m (2 ^ 64 - 1) q)))
      go true p true q false r = rw (p, q, r) (exceed (leb-true n (2 ^ 64 - 1) p) (leb-true m (2 ^ 64 - 1) q) (leb-false m n r))
      go true p true q true r = rw (p, q, r) (pass (leb-true n (2 ^ 64 - 1) p) (leb-true m (2 ^ 64 - 1) q) (leb-true m n r))

  above-there : (k : ℕ) → Outcome k → k ≡ 39 → (2 ^ 64 - 1 < n) ⊎ (2 ^ 64 - 1 < m)
  above-there k (above h) e = h
  above-there k (exceed h i j) e = absurd (omega arith)
  above-there k (pass h i j) e = absurd (omega arith)

  above-back : (k : ℕ) → Outcome k → (2 ^ 64 - 1 < n) ⊎ (2 ^ 64 - 1 < m) → k ≡ 39
  above-back k (above h) a = refl
  above-back k (exceed h i j) (inl a) = absurd (omega arith)
  above-back k (exceed h i j) (inr a) = absurd (omega arith)
  above-back k (pass h i j) (inl a) = absurd (omega arith)
  above-back k (pass h i j) (inr a) = absurd (omega arith)

  exceed-there : (k : ℕ) → Outcome k → k ≡ 48 → (n ≤ 2 ^ 64 - 1) × (m ≤ 2 ^ 64 - 1) × (n < m)
  exceed-there k (above h) e = absurd (omega arith)
  exceed-there k (exceed h i j) e = (h, i, j)
  exceed-there k (pass h i j) e = absurd (omega arith)

  exceed-back : (k : ℕ) → Outcome k → n ≤ 2 ^ 64 - 1 → m ≤ 2 ^ 64 - 1 → n < m → k ≡ 48
  exceed-back k (above (inl h)) a b c = absurd (omega arith)
  exceed-back k (above (inr h)) a b c = absurd (omega arith)
  exceed-back k (exceed h i j) a b c = refl
  exceed-back k (pass h i j) a b c = absurd (omega arith)

module _ (s : Scene) where
  pub totals-above : (check_number (decide (Ok tt) (capacity_rows s)) ≡ 39) ↔ TotalAbove s
  unfolding capacity_rows
  totals-above =
      let o = outcome (input_total s) (output_total s) in
      (above-there (input_total s) (output_total s) _ o, above-back (input_total s) (output_total s) _ o)

  pub totals-exceed : (check_number (decide (Ok tt) (capacity_rows s)) ≡ 48) ↔ OutputsExceed s
  unfolding capacity_rows
  totals-exceed =
      let o = outcome (input_total s) (output_total s) in (
        λ e. let h = exceed-there (input_total s) (output_total s) _ o e in record { inputs = h.0; outputs = h.1; exceed = h.2 },
        λ h. exceed-back (input_total s) (output_total s) _ o h.inputs h.outputs h.exceed,
      )

  -- and nothing else but 0
  pub totals-number : (check_number (decide (Ok tt) (capacity_rows s)) ≡ 0) ⊎ (check_number (decide (Ok tt) (capacity_rows s)) ≡ 39) ⊎ (check_number (decide (Ok tt) (capacity_rows s)) ≡ 48)
  unfolding capacity_rows
  totals-number = go _ (outcome (input_total s) (output_total s))
    where
      go : (k : ℕ) → Outcome (input_total s) (output_total s) k → (k ≡ 0) ⊎ (k ≡ 39) ⊎ (k ≡ 48)
      go k (above h) = inr (inl refl)
      go k (exceed h i j) = inr (inr refl)
      go k (pass h i j) = inl refl

  -- where they pass, the inputs' capacity is the outputs' and the fee
  pub totals-balance : TotalsPass s → input_total s ≡ output_total s + (input_total s - output_total s)
  totals-balance p = omega (arith, p.covered)
