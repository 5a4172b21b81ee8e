-- Algorithms, operations and capabilities.
use Rattle.std.specs.Prelude.{ℕ, ◌/◌, ◌%◌, Bool, ◌||◌, cond, List, [], ◌∷◌, eqb, Err, Ok, Result}
use Rattle.protocol.specs.declared.error.ProtocolError.{ProtocolError}
use Rattle.protocol.specs.Errors.{error_number}
use Rattle.protocol.specs.Rows.{Row, row}
use Rattle.protocol.specs.declared.error.ProtocolError.TheVariants.{InvalidOperation}

-- 01, each entry: "algorithm 0x0001, 0x0101, 0x0102, 0x0103 or 0x0201 (33)"
unfoldable pub is_supported_algorithm : ℕ → Bool
is_supported_algorithm a =
    eqb a 0x0001 || (eqb a 0x0101 || (eqb a 0x0102 || (eqb a 0x0103 || eqb a 0x0201)))

-- 01, witness lock: "operation 1 to 3"; writers: "Operation outside 1 to 3 is 37 in them."
unfoldable pub is_operation : ℕ → Bool
is_operation o = eqb o 1 || (eqb o 2 || eqb o 3)

-- "Operation outside 1 to 3 is 37 in them."
unfoldable pub operation_rows : ℕ → List Row
operation_rows o = row (is_operation o) InvalidOperation ∷ []

-- 01: "Capability bits 1, 2, 4, 8: spend, rotate, recovery, session issue."
unfoldable pub capability_for : ℕ → Result ℕ ProtocolError
capability_for o =
    cond (eqb o 1) (Ok 1) (cond (eqb o 2) (Ok 2) (cond (eqb o 3) (Ok 4) (Err InvalidOperation)))

-- the capabilities have this bit; 0 is no bit
unfoldable pub has_capability : ℕ → ℕ → Bool
has_capability capabilities bit = eqb (capabilities / bit % 2) 1
