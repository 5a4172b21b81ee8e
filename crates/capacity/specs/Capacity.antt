-- 02, change 9: the totals of all inputs and of all outputs, the lock's rows for them, and the fee.
use Rattle.std.specs.Prelude.{ℕ, ◌-◌, ◌^◌, ◌≤◌, ◌<◌, List, [], ◌∷◌, map, ◌⊎◌, leb, Err, Ok, Result}
use Rattle.octets.specs.Lists.{sum}
use Rattle.protocol.specs.Rows.{Row, row, decide, ◌then◌, Check}
use Rattle.protocol.specs.declared.error.ProtocolError.{ProtocolError}
use Rattle.protocol.specs.declared.error.ProtocolError.TheVariants.{LengthOverflow, OutputsExceedInputs}
use Rattle.scene_table.specs.Scene.{Input, Output, Scene}
use Rattle.capacity.specs.declared.total.Side.{Side}
use Rattle.capacity.specs.declared.total.Side.TheVariants.{Inputs, Outputs}

-- "Input and output lines end with a new field CAPACITY": those of all inputs, of other locks too, and those of all outputs
unfoldable pub capacities : Side → Scene → List ℕ
capacities Inputs s = map (λ (i : Input). i.capacity) s.inputs
capacities Outputs s = map (λ (o : Output). o.capacity) s.outputs

-- "inputs' total" and "outputs' total", whole numbers of any size
unfoldable pub total_capacity : Side → Scene → ℕ
total_capacity side s = sum (capacities side s)

abbrev pub input_total : Scene → ℕ
input_total s = total_capacity Inputs s

abbrev pub output_total : Scene → ℕ
output_total s = total_capacity Outputs s

-- "39 where a total passes 2^64−1, inputs first, then 48 where outputs exceed inputs"
unfoldable pub total_rows : ℕ → ℕ → List Row
total_rows inputs outputs =
    row (leb inputs (2 ^ 64 - 1)) LengthOverflow
    ∷ row (leb outputs (2 ^ 64 - 1)) LengthOverflow
    ∷ row (leb outputs inputs) OutputsExceedInputs
    ∷ []

unfoldable pub capacity_rows : Scene → List Row
capacity_rows s = total_rows (input_total s) (output_total s)

-- what these rows say
pub record TotalsPass (s : Scene) : Type 0 where
  pub inputs : input_total s ≤ 2 ^ 64 - 1
  pub outputs : output_total s ≤ 2 ^ 64 - 1
  pub covered : output_total s ≤ input_total s

-- where they give 39, and where they give 48
abbrev pub TotalAbove : Scene → Type 0
TotalAbove s = (2 ^ 64 - 1 < input_total s) ⊎ (2 ^ 64 - 1 < output_total s)

pub record OutputsExceed (s : Scene) : Type 0 where
  pub inputs : input_total s ≤ 2 ^ 64 - 1
  pub outputs : output_total s ≤ 2 ^ 64 - 1
  pub exceed : input_total s < output_total s

-- "On acceptance the answer line ends with a further field FEE .. On refusal that field is empty": the fee is 0 there
abbrev pub fee_where : Check → ℕ → ℕ
fee_where (Ok _) fee = fee
fee_where (Err e) fee = 0

-- "inputs' total less outputs' total", or the refusal
unfoldable pub fee_for : ℕ → ℕ → Result ℕ ProtocolError
fee_for inputs outputs = decide (Ok tt) (total_rows inputs outputs) then Ok (inputs - outputs)

unfoldable pub fee_of : Scene → Result ℕ ProtocolError
fee_of s = fee_for (input_total s) (output_total s)
