-- What an operation asks for: the capability of each slot, and the weight that a set of slots has to reach.
use Rattle.std.specs.Prelude.{ℕ, Bool, false, cond, List, eqb, Err, Ok, Result}
use Rattle.protocol.specs.declared.error.ProtocolError.{ProtocolError}
use Rattle.protocol.specs.Policy.{capability_for, has_capability}
use Rattle.account_state.specs.Fields.{spend_threshold_of, rotate_threshold_of, recovery_threshold_of}

-- 01: "Capability bits 1, 2, 4, 8: spend, rotate, recovery, session issue." The capabilities have the bit that the operation needs
unfoldable pub has_bit : Result ℕ ProtocolError → ℕ → Bool
has_bit (Ok bit) capabilities = has_capability capabilities bit
has_bit (Err e) capabilities = false

unfoldable pub capable : ℕ → ℕ → Bool
capable operation capabilities = has_bit (capability_for operation) capabilities

-- 01, State header: "spend, rotate and recovery thresholds", for the operations 1, 2 and 3
unfoldable pub threshold_of : ℕ → List ℕ → ℕ
threshold_of operation state =
    cond (eqb operation 1) (spend_threshold_of state) (cond (eqb operation 2) (rotate_threshold_of state) (recovery_threshold_of state))
