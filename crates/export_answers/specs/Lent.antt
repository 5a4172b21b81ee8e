-- Slices that are lent for 32 bytes.
use Rattle.std.specs.Prelude.{ℕ, List, [], ◌∷◌, eqb, length, Ok}
use Rattle.protocol.specs.Rows.{Row, row, decide, Check}
use Rattle.protocol.specs.declared.error.ProtocolError.TheVariants.{SlicesDisagree}

-- 01: "slices that don't agree with each other are 7, before all else"; a slice that is lent for 32 bytes has 32
abbrev pub size_row : List ℕ → Row
size_row s = row (eqb (length s) 32) SlicesDisagree

-- two of them
unfoldable pub sizes_fault : List ℕ → List ℕ → Check
sizes_fault a b = decide (Ok tt) (size_row a ∷ size_row b ∷ [])
