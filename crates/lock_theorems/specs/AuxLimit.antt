-- 02, change 6: "The state reader takes that as its limit .. Refused: 44 in each entry, after the empty-aux check": where the lock
-- gives 44, for the current state and for its successor.
use Rattle.std.specs.Prelude.{ℕ, ◌≡◌, ◌≢◌, ◌⊎◌, true, List, length}
use Rattle.protocol.specs.Rows.{AllPass, check_number}
use Rattle.account_state.specs.State.{state_fault}
use Rattle.scene_table.specs.Lent.{scene_in}
use Rattle.scene_table.specs.Valid.{valid_table}
use Rattle.account_lock.specs.Lock.{operation, current, successor}
use Rattle.lock_theorems.specs.Before.{before_current_rows, before_successor_rows}

-- the rows before the current state pass, and its reader gives 44
pub record CurrentLimited (table store : List ℕ) : Type 0 where
  pub valid : valid_table table (length store) ≡ true
  pub earlier : AllPass (before_current_rows (scene_in table store))
  pub state : check_number (state_fault (current (scene_in table store))) ≡ 44

-- the rows before the successor pass, and its reader gives 44
pub record SuccessorLimited (table store : List ℕ) : Type 0 where
  pub valid : valid_table table (length store) ≡ true
  -- a rotation or a recovery
  pub changes : operation (scene_in table store) ≢ 1
  pub earlier : AllPass (before_successor_rows (scene_in table store))
  pub state : check_number (state_fault (successor (scene_in table store))) ≡ 44

-- where the lock gives 44
abbrev pub LimitRefused : List ℕ → List ℕ → Type 0
LimitRefused table store = CurrentLimited table store ⊎ SuccessorLimited table store
