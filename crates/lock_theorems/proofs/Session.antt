-- 02, change 10: no accepted rotation or recovery leaves a session, and a spend is decided by document 01's rows.
-- Assumes nothing.
use Rattle.std.specs.Prelude.{Err, Ok}
use mathlib.Core.Path.{◌≡◌}
use mathlib.Core.Logic.{◌≢◌}
use mathlib.Core.Bool.{cond}
use mathlib.Core.List.{List}
use Prim.Native.Nat.{ℕ}
use lib.ListN.{length}
use Rattle.protocol.specs.Rows.{AllPass, decide}
use Rattle.protocol.specs.declared.error.ProtocolError.TheVariants.{SlicesDisagree}
use Rattle.protocol.proofs.AllPass.{all-pass-split}
use Rattle.account_state.specs.Reading.{state_reading}
use Rattle.scene_table.specs.Scene.{Scene}
use Rattle.scene_table.specs.Lent.{scene_in}
use Rattle.scene_table.specs.Valid.{valid_table}
use Rattle.state_transition.specs.Session.{SessionFree}
use Rattle.state_transition.proofs.SessionLaws.{session-free}
use Rattle.account_lock.specs.Lock.{operation, successor, early_rows, refused, or_walked, walk_result, lock_scene, lock_of}
use Rattle.lock_theorems.specs.Before.{early_spend_rows, before_session_rows}
use Rattle.account_lock.proofs.LockTheorem.{lock-decision}
use Rattle.lock_theorems.proofs.Before.{early-spend, change-split}

-- the row of the session is among those of a rotation and of a recovery
successor-free : (s : Scene) → AllPass (early_rows s) → operation s ≢ 1 → SessionFree (state_reading (successor s))
successor-free s h n =
    let r = (all-pass-split (before_session_rows s) _ (rw (change-split s n) at h)).1 in
    (session-free (state_reading (successor s))).0 r.0

module _ (table store : List ℕ) (room : ℕ) where
  -- where the lock accepts a rotation or a recovery, the reading of the successor has neither the flag nor an entry with the capability
  pub successor-clean : (lock_of table store room).found ≡ Ok tt → operation (scene_in table store) ≢ 1
      → SessionFree (state_reading (successor (scene_in table store)))
  successor-clean e n = successor-free (scene_in table store) ((lock-decision table store room).0 e).0.early n

  -- what the lock finds, makes and answers for a spend, from a state with either or with neither
  pub session-spends : operation (scene_in table store) ≡ 1
      → lock_of table store room
      ≡ cond (valid_table table (length store)) (or_walked (decide (Ok tt) (early_spend_rows (scene_in table store))) (walk_result (scene_in table store) room))
      (refused (Err SlicesDisagree))
  unfolding lock_of lock_scene
  session-spends e = rw (early-spend (scene_in table store) e)
