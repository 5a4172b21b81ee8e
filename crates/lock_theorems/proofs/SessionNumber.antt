-- The lock gives 49 exactly where it comes to a successor that passes its own checks and carries a session; for a spend never.
-- Assumes nothing.
use Rattle.std.specs.Prelude.{Ok}
use mathlib.Core.Path.{◌≡◌, refl}
use mathlib.Core.Logic.{◌≢◌, ◌↔◌}
use mathlib.Core.Bool.{Bool, true, false, true≢false}
use mathlib.Core.List.{List, [], ◌∷◌, ◌++◌}
use Prim.Native.Nat.{ℕ}
use native.Mathlib.Omega.{arith}
use Rattle.protocol.specs.Rows.{row, AllPass, decide, check_number}
use Rattle.protocol.specs.declared.error.ProtocolError.TheVariants.{SessionWithdrawn}
use Rattle.protocol.proofs.GivenNumber.{given-between}
use Rattle.account_state.specs.Reading.{state_reading}
use Rattle.scene_table.specs.Scene.{Scene}
use Rattle.scene_table.specs.Lent.{scene_in}
use Rattle.group_sighash.specs.Witnesses.{other_rows}
use Rattle.state_transition.specs.Session.{session_free}
use Rattle.state_transition.proofs.SessionLaws.{session-carried}
use Rattle.account_lock.specs.Lock.{operation, successor, early_rows, lock_of}
use Rattle.lock_theorems.specs.Before.{before_session_rows}
use Rattle.lock_theorems.specs.Session.{SessionRefused}
use Rattle.lock_theorems.proofs.OneOf.{never-given}
use Rattle.lock_theorems.proofs.EarlyNumbers.{spend-gives, before-session-gives, after-session-gives}
use Rattle.lock_theorems.proofs.OwnNumber.{lock-own}
use Rattle.lock_theorems.proofs.Before.{session_row, sequence_row, recovery_tail, early-spend, change-split}

-- the row of the session alone
session-49 : (free : Bool) → (check_number (decide (Ok tt) (row free SessionWithdrawn ∷ [])) ≡ 49) ↔ (free ≡ false)
unfolding decide
session-49 true = (λ q. absurd (omega arith), λ e. absurd (true≢false e))
session-49 false = (λ q. refl, λ e. refl)

module _ (s : Scene) where
  -- of a spend none gives it
  spend-not-49 : operation s ≡ 1 → check_number (decide (Ok tt) (early_rows s)) ≢ 49
  spend-not-49 e = rw (early-spend s e) (never-given 49 (spend-gives s) refl)

  change-49 : operation s ≢ 1
      → (check_number (decide (Ok tt) (early_rows s)) ≡ 49) ↔ (AllPass (before_session_rows s) × (session_free (state_reading (successor s)) ≡ false))
  change-49 n =
      let b = given-between 49 (omega arith) (before_session_rows s) (session_row s ∷ []) (sequence_row s ∷ (recovery_tail s ++ other_rows s))
      (never-given 49 (before-session-gives s) refl) (never-given 49 (after-session-gives s) refl) in
      let f = session-49 (session_free (state_reading (successor s))) in
      rw (change-split s n) (λ q. ((b.0 q).0, f.0 (b.0 q).1), λ h. b.1 (h.0, f.1 h.1))

module _ (table store : List ℕ) (room : ℕ) where
  -- the lock gives 49 exactly there, and so for a spend never
  pub lock-forty-nine : (check_number (lock_of table store room).found ≡ 49) ↔ SessionRefused table store
  lock-forty-nine = (there, back)
    where
      s : Scene
      s = scene_in table store

      there : check_number (lock_of table store room).found ≡ 49 → SessionRefused table store
      there q =
          let o = (lock-own 49 refl table store room).0 q in
          let n : operation s ≢ 1 = λ e. spend-not-49 s e o.1 in
          let z = (change-49 s n).0 o.1 in
          record { valid = o.0; changes = n; earlier = z.0; session = (session-carried (state_reading (successor s))).0 z.1 }

      back : SessionRefused table store → check_number (lock_of table store room).found ≡ 49
      back h =
          let c = (change-49 s h.changes).1 (h.earlier, (session-carried (state_reading (successor s))).1 h.session) in
          (lock-own 49 refl table store room).1 (h.valid, c)
