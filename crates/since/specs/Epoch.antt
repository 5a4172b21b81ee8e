-- A value in epochs, by CKB's RFC 0017: N + I / L, where N has the lowest 24 bits of the value, I the 16 bits above them and L the
-- highest 16 of its 56.
use Rattle.std.specs.Prelude.{ℕ, ◌+◌, ◌*◌, ◌/◌, ◌%◌, ◌^◌, Bool, ◌&&◌, ◌||◌, cond, eqb, leb, ltb}
-- N is `number`, I `index` and L `length`
pub use Rattle.since.specs.declared.epoch.Epoch.{Epoch}

unfoldable pub epoch_of : ℕ → Epoch
epoch_of value = record { number = value % 2 ^ 24; index = value / 2 ^ 24 % 2 ^ 16; length = value / 2 ^ 40 % 2 ^ 16 }

-- 02, change 4: refused is "an epoch index not below its length unless both are 0"
unfoldable pub epoch_well_formed : Epoch → Bool
epoch_well_formed e = ltb e.index e.length || (eqb e.index 0 && eqb e.length 0)

-- "0 over 0 counting as 0", as 0 over 1 does
unfoldable pub divisor : Epoch → ℕ
divisor e = cond (eqb e.length 0) 1 e.length

-- the epochs in parts, as many to an epoch as the divisor says: N + I / L is this over the divisor
unfoldable pub parts : Epoch → ℕ
parts e = e.number * divisor e + e.index

-- the first is not later than the second: "Epochs compare as number plus index over length, exactly, by products of whole numbers"
unfoldable pub epoch_leb : Epoch → Epoch → Bool
epoch_leb a b = leb (parts a * divisor b) (parts b * divisor a)
