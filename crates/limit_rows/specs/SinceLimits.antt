-- Waiting periods: 02, change 4, and the bits of CKB's RFC 0017, computed from the definitions.
use Rattle.std.specs.Prelude.{ℕ, ◌+◌, ◌*◌, ◌^◌, ◌≡◌, [], ◌∷◌, map, replicate, Ok}
use Rattle.protocol.specs.Rows.{decide, check_number}
use Rattle.since.specs.Epoch.{epoch_of}
use Rattle.since.specs.Since.{since_fields}
use Rattle.state_transition.specs.Transition.{wait_rows}

-- the rows of a wait, by the state's recovery_since and the input's since
abbrev wait_number : ℕ → ℕ → ℕ
wait_number wait since = check_number (decide (Ok tt) (wait_rows wait since))

-- an absolute since of a metric, and one in epochs: number, index, length
abbrev in_metric : ℕ → ℕ → ℕ
in_metric metric value = metric * 2 ^ 61 + value

abbrev in_epoch : ℕ → ℕ → ℕ → ℕ
in_epoch number index length = in_metric 1 (length * 2 ^ 40 + index * 2 ^ 24 + number)

abbrev relative : ℕ → ℕ
relative since = 2 ^ 63 + since

-- by one number of both, a wait that is over at itself where it is well-formed
abbrev by_both : ℕ → ℕ
by_both since = wait_number since since

pub record SinceLimits : Type 0 where
  -- RFC 0017: relative_flag, metric_flag, five reserved bits, 56 bits of value; of an epoch 24 bits of number, 16 of index, 16 of length
  pub fields : since_fields (2 ^ 63 + 2 * 2 ^ 61 + 3 * 2 ^ 56 + 4) ≡ record { relative = 1; metric = 2; reserved = 3; value = 4 }
  pub epoch : epoch_of (5 * 2 ^ 40 + 3 * 2 ^ 24 + 7) ≡ record { number = 7; index = 3; length = 5 }
  -- "42 where either number has a reserved bit, metric 3, or an epoch index not below its length unless both are 0"
  pub reserved : map by_both (2 ^ 56 ∷ 2 ^ 57 ∷ 2 ^ 58 ∷ 2 ^ 59 ∷ 2 ^ 60 ∷ []) ≡ replicate 5 42
  pub highest : map by_both (2 ^ 55 ∷ in_metric 2 (2 ^ 55) ∷ 2 ^ 63 ∷ relative (in_metric 2 1) ∷ []) ≡ replicate 4 0
  pub metrics : map by_both (in_metric 0 1 ∷ in_metric 1 1 ∷ in_metric 2 1 ∷ in_metric 3 1 ∷ []) ≡ 0 ∷ 0 ∷ 0 ∷ 42 ∷ []
  pub indices : map by_both (in_epoch 9 0 0 ∷ in_epoch 9 1 0 ∷ in_epoch 9 4 5 ∷ in_epoch 9 5 5 ∷ in_epoch 9 65534 65535 ∷ []) ≡ 0 ∷ 42 ∷ 0 ∷ 42 ∷ 0 ∷ []
  pub either : wait_number (2 ^ 56) 1 ∷ wait_number 1 (2 ^ 56) ∷ [] ≡ 42 ∷ 42 ∷ []
  -- "A recovery_since of 0 waits for nothing and neither number is tested."
  pub no-wait : wait_number 0 (2 ^ 56) ∷ wait_number 0 0 ∷ [] ≡ 0 ∷ 0 ∷ []
  -- "The relative bit and the metric must agree with the state's."
  pub disagree : wait_number 1 (relative 1) ∷ wait_number (relative 1) 1 ∷ wait_number 1 (in_metric 2 1) ∷ wait_number (in_metric 2 1) (in_metric 1 1) ∷ [] ≡ replicate 4 34
  -- "Blocks and seconds compare as whole numbers."; "Equal values pass."
  pub blocks : wait_number 10 9 ∷ wait_number 10 10 ∷ wait_number 10 11 ∷ [] ≡ 34 ∷ 0 ∷ 0 ∷ []
  pub seconds : wait_number (in_metric 2 10) (in_metric 2 9) ∷ wait_number (in_metric 2 10) (in_metric 2 10) ∷ wait_number (in_metric 2 10) (in_metric 2 11) ∷ [] ≡ 34 ∷ 0 ∷ 0 ∷ []
  -- "Epochs compare as number plus index over length, exactly, by products of whole numbers, 0 over 0 counting as 0."
  pub numbers : wait_number (in_epoch 5 0 1) (in_epoch 4 9 10) ∷ wait_number (in_epoch 4 9 10) (in_epoch 5 0 1) ∷ [] ≡ 34 ∷ 0 ∷ []
  pub fractions : wait_number (in_epoch 5 1 2) (in_epoch 5 2 4) ∷ wait_number (in_epoch 5 2 4) (in_epoch 5 1 2) ∷ wait_number (in_epoch 5 1 2) (in_epoch 5 2 5) ∷ wait_number (in_epoch 5 1 2) (in_epoch 5 3 5) ∷ [] ≡ 0 ∷ 0 ∷ 34 ∷ 0 ∷ []
  pub zero : wait_number (in_epoch 5 0 0) (in_epoch 5 0 7) ∷ wait_number (in_epoch 5 0 7) (in_epoch 5 0 0) ∷ wait_number (in_epoch 5 1 7) (in_epoch 5 0 0) ∷ wait_number (in_epoch 5 0 0) (in_epoch 4 6 7) ∷ [] ≡ 0 ∷ 0 ∷ 34 ∷ 34 ∷ []
