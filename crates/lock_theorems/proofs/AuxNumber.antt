-- The lock gives 44 exactly where the rows before a state pass and that state's reader gives 44: the current state of every operation,
-- and the successor of a rotation or a recovery.
-- Assumes nothing.
use Rattle.std.specs.Prelude.{Ok}
use mathlib.Core.Path.{◌≡◌, refl}
use mathlib.Core.Logic.{◌≢◌, ◌⊎◌, inl, inr, ⊎_elim, ◌↔◌}
use mathlib.Core.Bool.{Bool, true, false}
use mathlib.Core.List.{List, [], ◌∷◌, ◌++◌}
use Prim.Native.Nat.{ℕ}
use native.Mathlib.Omega.{arith}
use lib.Dec.{eqb}
use lib.ListN.{length}
use borrow.Author.Tests.{eqb-true, eqb-false}
use Rattle.protocol.specs.Rows.{Row, AllPass, decide, check_number}
use Rattle.protocol.proofs.GivenNumber.{given-either, given-between}
use Rattle.account_state.specs.State.{state_rows, state_fault}
use Rattle.scene_table.specs.Scene.{Scene}
use Rattle.scene_table.specs.Lent.{scene_in}
use Rattle.scene_table.specs.Valid.{valid_table}
use Rattle.group_sighash.specs.Witnesses.{other_rows}
use Rattle.account_lock.specs.Lock.{operation, current, successor, early_rows, lock_of}
use Rattle.lock_theorems.specs.Before.{before_current_rows, before_successor_rows}
use Rattle.lock_theorems.specs.AuxLimit.{CurrentLimited, LimitRefused}
use Rattle.lock_theorems.proofs.OneOf.{never-given}
use Rattle.lock_theorems.proofs.EarlyNumbers.{before-current-gives, witness-gives, after-current-gives, after-successor-gives}
use Rattle.lock_theorems.proofs.OwnNumber.{lock-own}
use Rattle.lock_theorems.proofs.Before.{witness_row, session_row, sequence_row, recovery_tail, before-successor, spend-split, successor-split}

module _ (s : Scene) where
  -- the rows before a state pass and its reader gives 44
  abbrev AtCurrent : Type 0
  AtCurrent = AllPass (before_current_rows s) × (check_number (state_fault (current s)) ≡ 44)

  abbrev AtSuccessor : Type 0
  AtSuccessor = AllPass (before_successor_rows s) × (check_number (state_fault (successor s)) ≡ 44)

  before-not : check_number (decide (Ok tt) (before_current_rows s)) ≢ 44
  before-not = never-given 44 (before-current-gives s) refl

  none-given : check_number (decide (Ok tt) []) ≢ 44
  unfolding decide
  none-given q = omega arith

  abbrev tail : List Row
  tail = session_row s ∷ sequence_row s ∷ (recovery_tail s ++ other_rows s)

  tail-not : check_number (decide (Ok tt) tail) ≢ 44
  tail-not = never-given 44 (after-successor-gives s) refl

  -- a spend's
  spend-44 : operation s ≡ 1 → (check_number (decide (Ok tt) (early_rows s)) ≡ 44) ↔ AtCurrent
  unfolding state_fault
  spend-44 e =
      rw (spend-split s e)
      (given-between 44 (omega arith) (before_current_rows s) (state_rows (current s)) (witness_row s ∷ other_rows s) before-not (never-given 44 (after-current-gives s) refl))

  -- a rotation's or a recovery's: its current state's, or where all before its successor pass, its successor's
  change-44 : operation s ≢ 1 → (check_number (decide (Ok tt) (early_rows s)) ≡ 44) ↔ (AtCurrent ⊎ AtSuccessor)
  unfolding state_fault
  change-44 n = rw (successor-split s n) (λ q. there (parts.0 q), λ h. parts.1 (back h))
    where
      parts : (check_number (decide (Ok tt) (before_successor_rows s ++ (state_rows (successor s) ++ tail))) ≡ 44)
          ↔ ((check_number (decide (Ok tt) (before_successor_rows s)) ≡ 44)
          ⊎ (AllPass (before_successor_rows s) × (check_number (decide (Ok tt) (state_rows (successor s) ++ tail)) ≡ 44)))
      parts = given-either 44 (omega arith) (before_successor_rows s) (state_rows (successor s) ++ tail)

      first : (check_number (decide (Ok tt) (before_successor_rows s)) ≡ 44) ↔ AtCurrent
      first =
          rw (before-successor s n)
          (given-between 44 (omega arith) (before_current_rows s) (state_rows (current s)) (witness_row s ∷ []) before-not
          (never-given 44 (witness-gives s) refl))

      second : (check_number (decide (Ok tt) (state_rows (successor s) ++ tail)) ≡ 44) ↔ (Unit {0} × (check_number (state_fault (successor s)) ≡ 44))
      second = given-between 44 (omega arith) [] (state_rows (successor s)) tail none-given tail-not

      there : (check_number (decide (Ok tt) (before_successor_rows s)) ≡ 44)
          ⊎ (AllPass (before_successor_rows s) × (check_number (decide (Ok tt) (state_rows (successor s) ++ tail)) ≡ 44)) → AtCurrent ⊎ AtSuccessor
      there (inl h) = inl (first.0 h)
      there (inr h) = inr (h.0, (second.0 h.1).1)

      back : AtCurrent ⊎ AtSuccessor
          → (check_number (decide (Ok tt) (before_successor_rows s)) ≡ 44)
          ⊎ (AllPass (before_successor_rows s) × (check_number (decide (Ok tt) (state_rows (successor s) ++ tail)) ≡ 44))
      back (inl h) = inl (first.1 h)
      back (inr h) = inr (h.0, second.1 (tt, h.1))

module _ (table store : List ℕ) (room : ℕ) where
  abbrev s : Scene
  s = scene_in table store

  -- the lock gives 44 exactly there, and for a successor never in a spend
  pub lock-forty-four : (check_number (lock_of table store room).found ≡ 44) ↔ LimitRefused table store
  lock-forty-four = (λ q. there (eqb (operation s) 1) refl (own.0 q).0 (own.0 q).1, back)
    where
      own : (check_number (lock_of table store room).found ≡ 44) ↔ ((valid_table table (length store) ≡ true) × (check_number (decide (Ok tt) (early_rows s)) ≡ 44))
      own = lock-own 44 refl table store room

      at-current : valid_table table (length store) ≡ true → AtCurrent s → CurrentLimited table store
      at-current v h = record { valid = v; earlier = h.0; state = h.1 }

      there : (b : Bool) → eqb (operation s) 1 ≡ b → valid_table table (length store) ≡ true → check_number (decide (Ok tt) (early_rows s)) ≡ 44 → LimitRefused table store
      there true e v q = inl (at-current v ((spend-44 s (eqb-true (operation s) 1 e)).0 q))
      there false e v q =
          let n = eqb-false (operation s) 1 e in
          ⊎_elim (λ h. inl (at-current v h)) (λ h. inr record { valid = v; changes = n; earlier = h.0; state = h.1 }) ((change-44 s n).0 q)

      current-back : (b : Bool) → eqb (operation s) 1 ≡ b → AtCurrent s → check_number (decide (Ok tt) (early_rows s)) ≡ 44
      current-back true e h = (spend-44 s (eqb-true (operation s) 1 e)).1 h
      current-back false e h = (change-44 s (eqb-false (operation s) 1 e)).1 (inl h)

      back : LimitRefused table store → check_number (lock_of table store room).found ≡ 44
      back (inl h) = own.1 (h.valid, current-back (eqb (operation s) 1) refl (h.earlier, h.state))
      back (inr h) = own.1 (h.valid, (change-44 s h.changes).1 (inr (h.earlier, h.state)))
