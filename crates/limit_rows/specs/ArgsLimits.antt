-- Args, operations and capability bits, computed from the definitions.
use Rattle.std.specs.Prelude.{ℕ, ◌+◌, ◌≡◌, List, [], ◌∷◌, map, length, Ok}
use Rattle.octets.specs.Lists.{tabulate}
use Rattle.protocol.specs.Rows.{decide, check_number}
use Rattle.protocol.specs.Args.{read_args, account_of}
use Rattle.protocol.specs.Policy.{operation_rows, capability_for}

-- the numbers of an operation in a writer, and of its capability
abbrev operation_number : ℕ → ℕ
operation_number o = check_number (decide (Ok tt) (operation_rows o))

abbrev needed_number : ℕ → ℕ
needed_number o = check_number (capability_for o)

pub record ArgsLimits : Type 0 where
  -- "33 bytes, 0x01 and the account id. Length 32 or 34 is 20; then a wrong first byte is 32.": 32 bytes and 0x02 are marked rows
  pub of-33 : (id : List ℕ) → length id ≡ 32 → check_number (read_args (1 ∷ id)) ≡ 0
  pub of-34 : (s : List ℕ) → length s ≡ 34 → check_number (read_args s) ≡ 20
  pub first-byte-0 : (id : List ℕ) → length id ≡ 32 → check_number (read_args (0 ∷ id)) ≡ 32
  pub account : account_of (1 ∷ tabulate (λ i. i + 2) 32) ≡ tabulate (λ i. i + 2) 32
  -- "Operation outside 1 to 3 is 37 in them."
  pub operations : map operation_number (0 ∷ 1 ∷ 2 ∷ 3 ∷ 4 ∷ []) ≡ 37 ∷ 0 ∷ 0 ∷ 0 ∷ 37 ∷ []
  -- "Capability bits 1, 2, 4, 8: spend, rotate, recovery, session issue."
  pub spend : capability_for 1 ≡ Ok 1
  pub rotate : capability_for 2 ≡ Ok 2
  pub recovery : capability_for 3 ≡ Ok 4
  pub others : map needed_number (0 ∷ 4 ∷ []) ≡ 37 ∷ 37 ∷ []
