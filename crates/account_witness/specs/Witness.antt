-- The whole witness lock, of at most 16 proofs: one list of rows.
use Rattle.std.specs.Prelude.{ℕ, List, ◌∷◌, ◌++◌, leb, Ok, Result}
use Rattle.protocol.specs.declared.error.ProtocolError.{ProtocolError}
use Rattle.protocol.specs.Rows.{Row, row, ◌then◌, decide, Check}
use Rattle.protocol.specs.declared.error.ProtocolError.TheVariants.{InvalidWitness}
use Rattle.account_witness.specs.Fields.{proof_count_of}
use Rattle.account_witness.specs.declared.header.AccountWitnessHeader.{AccountWitnessHeader}
use Rattle.account_witness.specs.Header.{witness_header_rows, witness_header_of}
use Rattle.account_witness.specs.Walk.{witness_proof_rows}

-- 01: "Counts 17 to 255 pass `parse_witness_header`; `run` refuses them with 22 before it looks for the state."
abbrev pub count_row : List ℕ → Row
count_row s = row (leb (proof_count_of s) 16) InvalidWitness

-- then the proofs
unfoldable pub witness_rows : List ℕ → List Row
witness_rows s = witness_header_rows s ++ (count_row s ∷ witness_proof_rows s)

unfoldable pub witness_fault : List ℕ → Check
witness_fault s = decide (Ok tt) (witness_rows s)

unfoldable pub read_witness : List ℕ → Result AccountWitnessHeader ProtocolError
read_witness s = witness_fault s then Ok (witness_header_of s)
