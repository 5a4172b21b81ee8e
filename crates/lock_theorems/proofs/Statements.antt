-- The statements that a reader looks for: what an acceptance follows from and what follows from it, which numbers the lock gives and
-- where. Each is proved in the file that is named beside it.
-- Assumes nothing.
use mathlib.Core.List.{List}
use Prim.Native.Nat.{ℕ}
use Rattle.account_lock.proofs.LockTheorem.{lock-decision}
use Rattle.lock_theorems.specs.Statements.{AcceptanceStatements, NumberStatements}
use Rattle.lock_theorems.proofs.Real.{lock-real}
use Rattle.lock_theorems.proofs.Session.{successor-clean}
use Rattle.lock_theorems.proofs.Waiting.{recovery-waited, lock-forty-two, lock-thirty-four}
use Rattle.lock_theorems.proofs.Fee.{result-balance, lock-thirty-nine, lock-forty-eight}
use Rattle.lock_theorems.proofs.Numbers.{lock-numbers, lock-seven}
use Rattle.lock_theorems.proofs.AnswerRoom.{lock-never-five}
use Rattle.lock_theorems.proofs.Unsatisfied.{lock-unsatisfied}
use Rattle.lock_theorems.proofs.HashNumber.{lock-forty}
use Rattle.lock_theorems.proofs.AuxNumber.{lock-forty-four}
use Rattle.lock_theorems.proofs.SessionNumber.{lock-forty-nine}

module _ (table store : List ℕ) (room : ℕ) where
  pub acceptance : AcceptanceStatements table store room
  acceptance = record {
    decides = lock-decision table store room;
    real = lock-real table store room;
    waited = recovery-waited table store room;
    balance = result-balance table store room;
    clean = successor-clean table store room;
  }

  pub numbers : NumberStatements table store room
  numbers = record {
    numbers = lock-numbers table store room;
    never-5 = lock-never-five table store room;
    gives-7 = lock-seven table store room;
    gives-28 = lock-unsatisfied table store room;
    gives-34 = lock-thirty-four table store room;
    gives-39 = lock-thirty-nine table store room;
    gives-40 = lock-forty table store room;
    gives-42 = lock-forty-two table store room;
    gives-44 = lock-forty-four table store room;
    gives-48 = lock-forty-eight table store room;
    gives-49 = lock-forty-nine table store room;
  }
