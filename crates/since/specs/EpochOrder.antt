-- What the order of epochs means: by number, then by fraction.
use Rattle.std.specs.Prelude.{◌*◌, ◌≤◌, ◌<◌, ◌≡◌, ◌⊎◌, ◌↔◌, true}
use Rattle.since.specs.Epoch.{Epoch, epoch_well_formed, divisor, epoch_leb}

-- I / L is not above I' / L', and both are the same
abbrev pub FractionLe : Epoch → Epoch → Type 0
FractionLe a b = a.index * divisor b ≤ b.index * divisor a

abbrev pub SameFraction : Epoch → Epoch → Type 0
SameFraction a b = a.index * divisor b ≡ b.index * divisor a

-- the pairs (number, fraction) in order
abbrev pub EpochLe : Epoch → Epoch → Type 0
EpochLe a b = (a.number < b.number) ⊎ ((a.number ≡ b.number) × FractionLe a b)

pub record EpochOrder : Type 0 where
  pub pairs : (a b : Epoch) → epoch_well_formed a ≡ true → epoch_well_formed b ≡ true → (epoch_leb a b ≡ true) ↔ EpochLe a b
  pub reflexive : (a : Epoch) → epoch_leb a a ≡ true
  pub transitive : (a b c : Epoch) → epoch_leb a b ≡ true → epoch_leb b c ≡ true → epoch_leb a c ≡ true
  pub total : (a b : Epoch) → (epoch_leb a b ≡ true) ⊎ (epoch_leb b a ≡ true)
  -- each is not later than the other only where number and fraction are the same
  pub equal : (a b : Epoch) → epoch_well_formed a ≡ true → epoch_well_formed b ≡ true
      → epoch_leb a b ≡ true → epoch_leb b a ≡ true → (a.number ≡ b.number) × SameFraction a b
