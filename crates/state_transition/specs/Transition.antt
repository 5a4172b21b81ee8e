-- 01, "Where each refusal is raised", from "data above 16,384" to "recovery off; since too low": the rows of the current state
-- and its successor.
use Rattle.std.specs.Prelude.{ℕ, ◌+◌, cond, List, [], ◌∷◌, ◌++◌, length, eqb, leb}
use Rattle.protocol.specs.Rows.{Row, row}
use Rattle.protocol.specs.declared.error.ProtocolError.TheVariants.{InvalidState, InvalidSequence, InvalidCapability, RecoveryLocked, InvalidSince, SessionWithdrawn}
use Rattle.account_state.specs.Fields.{flags_of, recovery_enabled, sequence_of, recovery_since_of}
use Rattle.account_state.specs.Reading.{state_reading}
use Rattle.account_state.specs.State.{state_rows}
use Rattle.since.specs.Since.{since_fields, well_formed, reached}
use Rattle.state_transition.specs.Session.{session_free}

-- "data above 16,384", 21, of the current state and of its successor
unfoldable pub data_rows : List ℕ → List ℕ → List Row
data_rows current successor =
    row (leb (length current) 16384) InvalidState ∷ row (leb (length successor) 16384) InvalidState ∷ []

-- "current state, then witness sequence", as above; 27
unfoldable pub current_rows : ℕ → List ℕ → List Row
current_rows sequence current = state_rows current ++ (row (eqb sequence (sequence_of current)) InvalidSequence ∷ [])

-- "successor state, its sequence not one more", as above; 27. 02, change 10: "49, after the successor's own checks and before its
-- sequence"
unfoldable pub successor_rows : List ℕ → List ℕ → List Row
successor_rows current successor =
    state_rows successor
    ++ (row (session_free (state_reading successor)) SessionWithdrawn
    ∷ row (eqb (sequence_of successor) (sequence_of current + 1)) InvalidSequence
    ∷ [])

-- 02, change 4, of recovery_since and the input's since: "A recovery_since of 0 waits for nothing and neither number is tested." "42
-- where either number has a reserved bit, metric 3, or an epoch index not below its length unless both are 0, after 29 and before 34."
-- "Where bit or metric disagrees, or the input's value is lower, the refusal is 34."
unfoldable pub wait_rows : ℕ → ℕ → List Row
wait_rows wait since =
    cond (eqb wait 0) []
    (row (well_formed (since_fields wait)) InvalidSince
    ∷ row (well_formed (since_fields since)) InvalidSince
    ∷ row (reached (since_fields wait) (since_fields since)) RecoveryLocked
    ∷ [])

-- "recovery off; since too low", 29; 34: flag 1 of the state, and its wait
unfoldable pub recovery_rows : ℕ → List ℕ → List Row
recovery_rows since current = row (recovery_enabled (flags_of current)) InvalidCapability ∷ wait_rows (recovery_since_of current) since

-- only a recovery (3) has the rows on recovery
unfoldable pub succession_rows : ℕ → ℕ → List ℕ → List ℕ → List Row
succession_rows operation since current successor =
    successor_rows current successor ++ cond (eqb operation 3) (recovery_rows since current) []

-- a spend (1) has no successor
unfoldable pub transition_rows : ℕ → ℕ → ℕ → List ℕ → List ℕ → List Row
transition_rows operation sequence since current successor =
    current_rows sequence current ++ cond (eqb operation 1) [] (succession_rows operation since current successor)
