-- CKB's RFC 0017, the since of an input: the highest 8 of its 64 bits are flags, the other 56 the value.
use Rattle.std.specs.Prelude.{ℕ, ◌/◌, ◌%◌, ◌^◌, ◌≤◌, ◌≡◌, ◌≢◌, Bool, not, ◌&&◌, ◌||◌, cond, eqb, leb}
use Rattle.since.specs.Epoch.{epoch_of, epoch_well_formed, epoch_leb}
use Rattle.since.specs.EpochOrder.{EpochLe}
-- relative: relative_flag, the highest bit: at 1 the value counts from the block that has the input's cell, at 0 it is absolute
-- metric: metric_flag, the two bits below it: 0 blocks, 1 epochs, 2 seconds; 3 is invalid
-- reserved: the other five flags, kept for other use
-- value: the other 56 bits
pub use Rattle.since.specs.declared.since.Since.{Since}

unfoldable pub since_fields : ℕ → Since
since_fields n = record { relative = n / 2 ^ 63; metric = n / 2 ^ 61 % 4; reserved = n / 2 ^ 56 % 32; value = n % 2 ^ 56 }

-- the metric is 1
unfoldable pub in_epochs : Since → Bool
in_epochs s = eqb s.metric 1

-- 02, change 4: refused is "a reserved bit, metric 3, or an epoch index not below its length unless both are 0"
unfoldable pub well_formed : Since → Bool
well_formed s = eqb s.reserved 0 && (not (eqb s.metric 3) && (not (in_epochs s) || epoch_well_formed (epoch_of s.value)))

-- "Blocks and seconds compare as whole numbers. Epochs compare as number plus index over length"
unfoldable pub value_leb : Since → Since → Bool
value_leb w s = cond (in_epochs w) (epoch_leb (epoch_of w.value) (epoch_of s.value)) (leb w.value s.value)

-- the wait w is over at s: "The relative bit and the metric must agree with the state's"; "Where bit or metric disagrees, or the
-- input's value is lower", it is not; "Equal values pass"
unfoldable pub reached : Since → Since → Bool
reached w s = eqb w.relative s.relative && (eqb w.metric s.metric && value_leb w s)

-- what that says: bit and metric agree, and the value is no lower
pub record Reached (w s : Since) : Type 0 where
  pub relative : w.relative ≡ s.relative
  pub metric : w.metric ≡ s.metric
  -- in epochs by number, then by fraction; in blocks and in seconds as whole numbers
  pub epochs : w.metric ≡ 1 → EpochLe (epoch_of w.value) (epoch_of s.value)
  pub numbers : w.metric ≢ 1 → w.value ≤ s.value

-- absolute, in blocks, and without a reserved bit: what document 01's plain numbers meant
pub record AbsoluteBlocks (s : Since) : Type 0 where
  pub relative : s.relative ≡ 0
  pub metric : s.metric ≡ 0
  pub reserved : s.reserved ≡ 0
