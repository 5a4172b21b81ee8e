-- 02, change 4: "Where bit or metric disagrees, or the input's value is lower, the refusal is 34. .. Refused: 42 where either number
-- has a reserved bit, metric 3, or an epoch index not below its length unless both are 0, after 29 and before 34."
use Rattle.std.specs.Prelude.{ℕ, ◌≡◌, true, List, length}
use Rattle.protocol.specs.Rows.{AllPass}
use Rattle.account_state.specs.Fields.{recovery_since_of}
use Rattle.scene_table.specs.Scene.{Scene}
use Rattle.scene_table.specs.Lent.{scene_in}
use Rattle.scene_table.specs.Valid.{valid_table}
use Rattle.state_transition.specs.Resolve.{state_since}
use Rattle.state_transition.specs.Waiting.{WaitMalformed, WaitEarly}
use Rattle.account_lock.specs.Lock.{account, operation, current}
use Rattle.lock_theorems.specs.Before.{before_wait_rows}

-- the state's wait, and the since of the input that holds the state
abbrev pub wait : Scene → ℕ
wait s = recovery_since_of (current s)

abbrev pub held_since : Scene → ℕ
held_since s = state_since (operation s) (account s) s

-- a recovery comes to its wait
pub record ComesToWait (table store : List ℕ) : Type 0 where
  pub valid : valid_table table (length store) ≡ true
  pub recovers : operation (scene_in table store) ≡ 3
  pub earlier : AllPass (before_wait_rows (scene_in table store))

-- where the lock gives 42
pub record WaitRefused (table store : List ℕ) : Type 0 where
  pub comes : ComesToWait table store
  pub wait : WaitMalformed (wait (scene_in table store)) (held_since (scene_in table store))

-- where it gives 34: both numbers are well-formed, and the wait is not over
pub record RecoveryEarly (table store : List ℕ) : Type 0 where
  pub comes : ComesToWait table store
  pub wait : WaitEarly (wait (scene_in table store)) (held_since (scene_in table store))
