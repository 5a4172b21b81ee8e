-- 01, main.rs: "Sighash input: transaction hash; canonical first group witness; other group witnesses; .. Each witness is
-- preceded by its length as u64." What one witness adds to the input.
use Rattle.std.specs.Prelude.{ℕ, List, ◌++◌, length}
use Rattle.octets.specs.Le.{to_le}

unfoldable pub hashed_witness : List ℕ → List ℕ
hashed_witness witness = to_le 8 (length witness) ++ witness
