-- What the lock does, for every table, store and length of the answer buffer: the statements that a reader looks for, in one record.
use Rattle.std.specs.Prelude.{ℕ, ◌+◌, ◌≤◌, ◌≡◌, ◌≢◌, ◌↔◌, true, false, List, length, Ok}
use Rattle.protocol.specs.Limits.{answer_buffer_length}
use Rattle.protocol.specs.Rows.{AllPass, check_number}
use Rattle.account_state.specs.Reading.{state_reading}
use Rattle.scene_table.specs.Lent.{scene_in}
use Rattle.scene_table.specs.Valid.{valid_table}
use Rattle.cell_hashes.specs.Hashes.{hash_rows}
use Rattle.capacity.specs.Capacity.{input_total, output_total, TotalsPass, TotalAbove, OutputsExceed}
use Rattle.state_transition.specs.Session.{SessionFree}
use Rattle.state_transition.specs.Waiting.{WaitOver}
use Rattle.account_lock.specs.Lock.{operation, successor, lock_of}
use Rattle.account_lock.specs.Decides.{EarlierPass, LockQuorum}
use Rattle.lock_theorems.specs.Numbers.{LockNumber}
use Rattle.lock_theorems.specs.Fee.{QuorumStands}
use Rattle.lock_theorems.specs.Real.{RealCells}
use Rattle.lock_theorems.specs.Session.{SessionRefused}
use Rattle.lock_theorems.specs.Waiting.{wait, held_since, WaitRefused, RecoveryEarly}
use Rattle.lock_theorems.specs.AuxLimit.{LimitRefused}

-- the lock accepts, and its number
abbrev pub Accepted : List ℕ → List ℕ → ℕ → Type 0
Accepted table store room = (lock_of table store room).found ≡ Ok tt

abbrev pub lock_number : List ℕ → List ℕ → ℕ → ℕ
lock_number table store room = check_number (lock_of table store room).found

-- what an acceptance follows from, and what follows from it
pub record AcceptanceStatements (table store : List ℕ) (room : ℕ) : Type 0 where
  -- demand 3: the rows before 28 pass, slots of the current state that approve reach its threshold, and the totals pass
  pub decides : Accepted table store room ↔ (EarlierPass table store room × LockQuorum table store room × TotalsPass (scene_in table store))
  -- change 1: it is about real cells
  pub real : Accepted table store room → RealCells table store room
  -- change 4: a recovery has waited
  pub waited : Accepted table store room → operation (scene_in table store) ≡ 3 → WaitOver (wait (scene_in table store)) (held_since (scene_in table store))
  -- change 9: the inputs are worth the outputs and the fee
  pub balance : Accepted table store room → input_total (scene_in table store) ≡ output_total (scene_in table store) + (lock_of table store room).fee
  -- change 10: a rotation or a recovery leaves no session
  pub clean : Accepted table store room → operation (scene_in table store) ≢ 1 → SessionFree (state_reading (successor (scene_in table store)))

-- which numbers it gives, and where
pub record NumberStatements (table store : List ℕ) (room : ℕ) : Type 0 where
  pub numbers : LockNumber (lock_number table store room)
  pub never-5 : answer_buffer_length ≤ room → lock_number table store room ≢ 5
  pub gives-7 : (lock_number table store room ≡ 7) ↔ (valid_table table (length store) ≡ false)
  pub gives-28 : (lock_number table store room ≡ 28) ↔ (EarlierPass table store room × ¬ LockQuorum table store room)
  pub gives-34 : (lock_number table store room ≡ 34) ↔ RecoveryEarly table store
  pub gives-39 : (lock_number table store room ≡ 39) ↔ (QuorumStands table store room × TotalAbove (scene_in table store))
  pub gives-40 : (lock_number table store room ≡ 40) ↔ ((valid_table table (length store) ≡ true) × ¬ AllPass (hash_rows (scene_in table store)))
  pub gives-42 : (lock_number table store room ≡ 42) ↔ WaitRefused table store
  pub gives-44 : (lock_number table store room ≡ 44) ↔ LimitRefused table store
  pub gives-48 : (lock_number table store room ≡ 48) ↔ (QuorumStands table store room × OutputsExceed (scene_in table store))
  pub gives-49 : (lock_number table store room ≡ 49) ↔ SessionRefused table store
