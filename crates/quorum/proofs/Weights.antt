-- The weight of a set of slots: the more members the more weight, and that of all slots is the weight of all entries.
-- Assumes nothing.
use mathlib.Core.Path.{◌≡◌, refl}
use mathlib.Core.Logic.{⊎_elim}
use mathlib.Core.List.Memᴰ
use mathlib.Core.List.{List, [], ◌∷◌, map, Memᴰ}
use Prim.Native.Nat.{ℕ, ◌+◌, ◌≤◌, zero-le}
use native.Mathlib.Nat.{le_refl}
use native.Mathlib.Omega.{arith}
use native.Mathlib.Decide.{ℕ_discrete}
use borrow.Author.Tests.{eq-eqb, ne_eqb}
use Rattle.octets.specs.Lists.{Rising, sum}
use Rattle.octets.proofs.RisingLaws.{rising-member}
use Rattle.account_state.specs.Reading.{EntryReading, entry_slots}
use Rattle.quorum.specs.Slots.{entry_for, slots_weight}

-- a set weighs no more than one that has all its members
module _ (es : List EntryReading) where
  pub weight-subset : (ss bs : List ℕ) (k l : ℕ) → Rising k ss → Rising l bs → ((s : ℕ) → Memᴰ s ss → Memᴰ s bs)
      → slots_weight es ss ≤ slots_weight es bs
  weight-subset [] bs k l rs ra sub = zero-le
  weight-subset (s ∷ ss) [] k l rs ra sub = absurd (Memᴰ.not-nil (sub s (Memᴰ.head refl)))
  weight-subset (s ∷ ss) (b ∷ bs) k l rs ra sub = go (ℕ_discrete s b)
      (λ sub'. weight-subset ss bs (s + 1) (b + 1) rs.1 ra.1 sub')
      (λ sub'. weight-subset (s ∷ ss) bs k (b + 1) rs ra.1 sub')
    where
      -- a member of s ∷ ss other than b is in bs
      past : (t : ℕ) → (t ≡ b → ⊥) → Memᴰ t (s ∷ ss) → Memᴰ t bs
      past t ne m = ⊎_elim (λ e. absurd (ne e)) (λ h. h) (Memᴰ.cases_cons (sub t m))

      go : Dec (s ≡ b)
          → (((t : ℕ) → Memᴰ t ss → Memᴰ t bs) → slots_weight es ss ≤ slots_weight es bs)
          → (((t : ℕ) → Memᴰ t (s ∷ ss) → Memᴰ t bs) → slots_weight es (s ∷ ss) ≤ slots_weight es bs)
          → slots_weight es (s ∷ ss) ≤ slots_weight es (b ∷ bs)
      go (yes e) both right =
          let w : slots_weight es ss ≤ slots_weight es bs = both (λ t m. past t (λ q. let h : s + 1 ≤ t = rising-member ss rs.1 m in omega arith) (Memᴰ.tail m)) in
          rw e (omega arith)
      go (no n) both right =
          let low : b + 1 ≤ s = rising-member bs ra.1 (past s n (Memᴰ.head refl)) in
          let w : slots_weight es (s ∷ ss) ≤ slots_weight es bs =
          right (λ t m. past t (λ q. let h : s ≤ t = rising-member (s ∷ ss) (le_refl s, rs.1) m in omega arith) m) in
          omega arith

-- an entry in front whose slot is below all of a list's leaves its weight as it is
weight-below : (e : EntryReading) (es : List EntryReading) (least : ℕ) (ss : List ℕ) → e.slot + 1 ≤ least → Rising least ss
    → slots_weight (e ∷ es) ss ≡ slots_weight es ss
unfolding entry_for
weight-below e es least [] h r = refl
weight-below e es least (s ∷ ss) h r =
    let other : e.slot ≡ s → ⊥ = λ q. omega (arith, r.0) in
    rw (ne_eqb e.slot s other, weight-below e es (s + 1) ss (omega (arith, r.0)) r.1)

-- where slots rise strictly, as an accepted state's do, all slots together weigh what all entries do
pub weight-all : (es : List EntryReading) (least : ℕ) → Rising least (entry_slots es)
    → slots_weight es (entry_slots es) ≡ sum (map (λ (e : EntryReading). e.weight) es)
unfolding entry_for sum
weight-all [] least r = refl
weight-all (e ∷ es) least r =
    rw (eq-eqb e.slot e.slot refl, weight-below e es (e.slot + 1) (entry_slots es) (le_refl (e.slot + 1)) r.1, weight-all es (e.slot + 1) r.1)
