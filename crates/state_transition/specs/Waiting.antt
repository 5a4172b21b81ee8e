-- 02, change 4: what a recovery waits for, of the state's recovery_since and the since of its input.
use Rattle.std.specs.Prelude.{ℕ, ◌≡◌, ◌≢◌, ◌⊎◌, true, false}
use Rattle.since.specs.Since.{since_fields, well_formed, Reached}

-- both numbers are well-formed
pub record WellFormed (wait since : ℕ) : Type 0 where
  pub state : well_formed (since_fields wait) ≡ true
  pub input : well_formed (since_fields since) ≡ true

-- "A recovery_since of 0 waits for nothing and neither number is tested."
abbrev pub WaitOver : ℕ → ℕ → Type 0
WaitOver wait since = (wait ≡ 0) ⊎ (WellFormed wait since × Reached (since_fields wait) (since_fields since))

-- "42 where either number has a reserved bit, metric 3, or an epoch index not below its length unless both are 0"
pub record WaitMalformed (wait since : ℕ) : Type 0 where
  pub waits : wait ≢ 0
  pub malformed : (well_formed (since_fields wait) ≡ false) ⊎ (well_formed (since_fields since) ≡ false)

-- "Where bit or metric disagrees, or the input's value is lower, the refusal is 34."
pub record WaitEarly (wait since : ℕ) : Type 0 where
  pub waits : wait ≢ 0
  pub formed : WellFormed wait since
  pub early : ¬ Reached (since_fields wait) (since_fields since)
