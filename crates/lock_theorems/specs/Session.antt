-- 02, change 10: "A successor may not carry either, so the next rotation or recovery cleans the account. .. Refused: 49, after the
-- successor's own checks and before its sequence."
use Rattle.std.specs.Prelude.{ℕ, ◌≡◌, ◌≢◌, true, List, length}
use Rattle.protocol.specs.Rows.{AllPass}
use Rattle.account_state.specs.Reading.{state_reading}
use Rattle.scene_table.specs.Lent.{scene_in}
use Rattle.scene_table.specs.Valid.{valid_table}
use Rattle.state_transition.specs.Session.{SessionFree}
use Rattle.account_lock.specs.Lock.{operation, successor}
use Rattle.lock_theorems.specs.Before.{before_session_rows}

-- where the lock gives 49
pub record SessionRefused (table store : List ℕ) : Type 0 where
  pub valid : valid_table table (length store) ≡ true
  -- a rotation or a recovery
  pub changes : operation (scene_in table store) ≢ 1
  pub earlier : AllPass (before_session_rows (scene_in table store))
  pub session : ¬ SessionFree (state_reading (successor (scene_in table store)))
