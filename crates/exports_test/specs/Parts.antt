-- What the hash in parts refuses.
use Rattle.std.specs.Prelude.{ℕ, List, [], ◌∷◌, leb, length, Ok}
use Rattle.protocol.specs.Rows.{row, decide, Check}
use Rattle.protocol.specs.declared.error.ProtocolError.TheVariants.{SlicesDisagree}

-- 01: "slices that don't agree with each other are 7, before all else": the first part is no longer than the data
unfoldable pub parts_fault : List ℕ → ℕ → Check
parts_fault bytes first = decide (Ok tt) (row (leb first (length bytes)) SlicesDisagree ∷ [])
