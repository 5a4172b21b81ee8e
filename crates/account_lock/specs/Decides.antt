-- Demand 3 for the lock: what an acceptance follows from.
-- 02, change 9: "A set of slots is still needed for acceptance, and, every earlier check passing, suffices only where the tests below
-- pass too, and then does."
use Rattle.std.specs.Prelude.{ℕ, ◌≡◌, ◌↔◌, true, List, length, Ok}
use Rattle.protocol.specs.Rows.{AllPass}
use Rattle.scene_table.specs.Lent.{scene_in}
use Rattle.scene_table.specs.Valid.{valid_table}
use Rattle.capacity.specs.Capacity.{TotalsPass}
use Rattle.decision.specs.Walk.{answered}
use Rattle.account_witness.specs.Reading.{witness_proofs}
use Rattle.decision.specs.Decision.{ProofsPass, Quorum}
use Rattle.account_lock.specs.declared.answer.LockAnswer.{LockAnswer}
use Rattle.account_lock.specs.Lock.{witness_lock, early_rows, context_of, lock_of, answer_of}

-- 01: "Earlier checks are its rows before the one for 28."
pub record EarlierPass (table store : List ℕ) (room : ℕ) : Type 0 where
  pub valid : valid_table table (length store) ≡ true
  pub early : AllPass (early_rows (scene_in table store))
  pub proofs : ProofsPass (context_of (scene_in table store) room) (witness_lock (scene_in table store))

-- a quorum of the account's current state among the proofs of the witness lock
abbrev pub LockQuorum : List ℕ → List ℕ → ℕ → Type 0
LockQuorum table store room =
    Quorum (context_of (scene_in table store) room) (witness_proofs (witness_lock (scene_in table store)))

-- what the lock promises, for an answer buffer that holds `before`: the answer r is the lock's, row by row
abbrev pub LockOutcome : List ℕ → List ℕ → List ℕ → LockAnswer → Type 0
LockOutcome table store before r = r ≡ answer_of (lock_of table store (length before))

-- the whole buffer afterwards
abbrev pub LockRequests : List ℕ → List ℕ → List ℕ → List ℕ → Type 0
LockRequests table store before after = after ≡ answered before (lock_of table store (length before)).made

-- demand 3
abbrev pub LockDecision : List ℕ → List ℕ → List ℕ → LockAnswer → Type 0
LockDecision table store before r = (r.found ≡ Ok tt)
    ↔ (EarlierPass table store (length before) × LockQuorum table store (length before) × TotalsPass (scene_in table store))
