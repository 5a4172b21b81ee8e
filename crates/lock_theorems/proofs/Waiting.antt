-- 02, change 4: an accepted recovery has waited, and where the lock gives 42 and 34.
-- Assumes nothing.
use Rattle.std.specs.Prelude.{Ok}
use mathlib.Core.Path.{◌≡◌, refl}
use mathlib.Core.Logic.{◌≢◌, ◌↔◌}
use mathlib.Core.Bool.{Bool, true, false}
use mathlib.Core.List.{List, ◌∷◌}
use Prim.Native.Nat.{ℕ, zero, suc, ◌<◌}
use native.Mathlib.Omega.{arith}
use lib.Dec.{eqb}
use borrow.Author.Tests.{ne_eqb, eqb-true, eqb-false}
use Rattle.protocol.specs.Rows.{Row, AllPass, decide, check_number}
use Rattle.protocol.proofs.AllPass.{all-pass-split, all-pass-passed}
use Rattle.protocol.proofs.GivenNumber.{given-between}
use Rattle.scene_table.specs.Scene.{Scene}
use Rattle.scene_table.specs.Lent.{scene_in}
use Rattle.group_sighash.specs.Witnesses.{other_rows}
use Rattle.state_transition.specs.Transition.{wait_rows}
use Rattle.state_transition.specs.Waiting.{WaitOver}
use Rattle.state_transition.proofs.WaitLaws.{wait-over, wait-malformed, wait-early}
use Rattle.account_lock.specs.Lock.{operation, early_rows, lock_of}
use Rattle.lock_theorems.specs.Before.{before_wait_rows}
use Rattle.lock_theorems.specs.Waiting.{wait, held_since, ComesToWait, WaitRefused, RecoveryEarly}
use Rattle.account_lock.proofs.LockTheorem.{lock-decision}
use Rattle.lock_theorems.proofs.OneOf.{one_of, not-one-of, within, Gives, gives_more, never-given}
use Rattle.lock_theorems.proofs.EarlyNumbers.{before_wait_numbers, spend-gives, rotation-gives, before-wait-gives, others-give}
use Rattle.lock_theorems.proofs.OwnNumber.{later_numbers, lock-own}
use Rattle.lock_theorems.proofs.Before.{early-spend, change-split, recovery-split}

-- ---- an accepted recovery

recovery-over : (s : Scene) → AllPass (early_rows s) → operation s ≡ 3 → WaitOver (wait s) (held_since s)
recovery-over s h e =
    let r = (all-pass-split (before_wait_rows s) _ (rw (recovery-split s e) at h)).1 in
    let w = (all-pass-split (wait_rows (wait s) (held_since s)) (other_rows s) r).0 in
    (wait-over (wait s) (held_since s)).0 (rw (all-pass-passed (wait_rows (wait s) (held_since s)) w))

-- ---- a number that of all rows before the proofs only a wait's give

above : (n : ℕ) → 0 ≢ n → 0 < n
above zero h = absurd (h refl)
above (suc n) h = omega arith

module _ (n : ℕ) (other : one_of (0 ∷ before_wait_numbers) n ≡ false) (s : Scene) where
  never : {ns : List ℕ} {rs : List Row} → Gives ns rs → within ns before_wait_numbers ≡ true → check_number (decide (Ok tt) rs) ≢ n
  never h w = never-given n (gives_more before_wait_numbers h w) other

  spend-not : operation s ≡ 1 → check_number (decide (Ok tt) (early_rows s)) ≢ n
  spend-not e = rw (early-spend s e) (never (spend-gives s) refl)

  rotation-not : operation s ≢ 1 → operation s ≢ 3 → check_number (decide (Ok tt) (early_rows s)) ≢ n
  rotation-not m k = rw (change-split s m, ne_eqb (operation s) 3 k) (never (rotation-gives s) refl)

  only-recovery : check_number (decide (Ok tt) (early_rows s)) ≡ n → operation s ≡ 3
  only-recovery q = go (eqb (operation s) 1) refl (eqb (operation s) 3) refl
    where
      go : (a : Bool) → eqb (operation s) 1 ≡ a → (b : Bool) → eqb (operation s) 3 ≡ b → operation s ≡ 3
      go a e true f = eqb-true (operation s) 3 f
      go true e false f = absurd (spend-not (eqb-true (operation s) 1 e) q)
      go false e false f = absurd (rotation-not (eqb-false (operation s) 1 e) (eqb-false (operation s) 3 f) q)

  recovery-given : operation s ≡ 3
      → (check_number (decide (Ok tt) (early_rows s)) ≡ n)
      ↔ (AllPass (before_wait_rows s) × (check_number (decide (Ok tt) (wait_rows (wait s) (held_since s))) ≡ n))
  recovery-given e =
      rw (recovery-split s e)
      (given-between n (above n (not-one-of (0 ∷ before_wait_numbers) 0 n refl other)) (before_wait_rows s) (wait_rows (wait s) (held_since s)) (other_rows s)
      (never (before-wait-gives s) refl) (never (others-give s) refl))

module _ (table store : List ℕ) (room : ℕ) where
  -- where the lock accepts a recovery, the state waits for nothing, or both numbers are well-formed and the wait is over
  pub recovery-waited : (lock_of table store room).found ≡ Ok tt → operation (scene_in table store) ≡ 3
      → WaitOver (wait (scene_in table store)) (held_since (scene_in table store))
  recovery-waited e = recovery-over (scene_in table store) ((lock-decision table store room).0 e).0.early

  abbrev s : Scene
  s = scene_in table store

  -- the lock gives such a number exactly where a recovery comes to its wait, and the wait's rows give it
  wait-given : (n : ℕ) → one_of later_numbers n ≡ false → one_of (0 ∷ before_wait_numbers) n ≡ false
      → (check_number (lock_of table store room).found ≡ n)
      ↔ (ComesToWait table store × (check_number (decide (Ok tt) (wait_rows (wait s) (held_since s))) ≡ n))
  wait-given n later other = (there, λ h. (lock-own n later table store room).1 (h.0.valid, (recovery-given n other s h.0.recovers).1 (h.0.earlier, h.1)))
    where
      there : check_number (lock_of table store room).found ≡ n
          → ComesToWait table store × (check_number (decide (Ok tt) (wait_rows (wait s) (held_since s))) ≡ n)
      there q =
          let o = (lock-own n later table store room).0 q in
          let e = only-recovery n other s o.1 in
          let z = (recovery-given n other s e).0 o.1 in
          (record { valid = o.0; recovers = e; earlier = z.0 }, z.1)

  -- the lock gives 42 exactly there, and so for a spend and a rotation never
  pub lock-forty-two : (check_number (lock_of table store room).found ≡ 42) ↔ WaitRefused table store
  lock-forty-two =
      let g = wait-given 42 refl refl in
      let m = wait-malformed (wait s) (held_since s) in
      (λ q. record { comes = (g.0 q).0; wait = m.0 (g.0 q).1 }, λ h. g.1 (h.comes, m.1 h.wait))

  -- and 34 exactly there
  pub lock-thirty-four : (check_number (lock_of table store room).found ≡ 34) ↔ RecoveryEarly table store
  lock-thirty-four =
      let g = wait-given 34 refl refl in
      let m = wait-early (wait s) (held_since s) in
      (λ q. record { comes = (g.0 q).0; wait = m.0 (g.0 q).1 }, λ h. g.1 (h.comes, m.1 h.wait))
