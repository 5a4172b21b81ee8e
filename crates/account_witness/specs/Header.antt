-- 01, Witness lock: "16 to 131,072 bytes; `CKAW`, version 1, operation 1 to 3, proof count, 0, sequence (u64). Every fault is
-- 22, version too."
use Rattle.std.specs.Prelude.{ℕ, List, [], ◌∷◌, leb, eqb, length, Ok, Result}
use Rattle.protocol.specs.declared.error.ProtocolError.{ProtocolError}
use Rattle.octets.specs.Layout.{Field}
use Rattle.protocol.specs.Policy.{is_operation}
use Rattle.protocol.specs.Rows.{Row, row, ◌then◌, decide}
use Rattle.protocol.specs.declared.error.ProtocolError.TheVariants.{InvalidWitness}
use Rattle.account_witness.specs.Fields.{witness_magic_of, witness_version_of, operation_of, proof_count_of, witness_reserved_of, witness_sequence_of, witness_header_length}
use Rattle.account_witness.specs.declared.header.AccountWitnessHeader.{AccountWitnessHeader}

-- `CKAW` as a number
abbrev pub witness_magic : ℕ
witness_magic = 0x57414b43

unfoldable pub witness_header_rows : List ℕ → List Row
witness_header_rows s =
    row (leb witness_header_length (length s)) InvalidWitness
    ∷ row (leb (length s) 131072) InvalidWitness
    ∷ row (eqb (witness_magic_of s) witness_magic) InvalidWitness
    ∷ row (eqb (witness_version_of s) 1) InvalidWitness
    ∷ row (is_operation (operation_of s)) InvalidWitness
    ∷ row (eqb (witness_reserved_of s) 0) InvalidWitness
    ∷ []

unfoldable pub witness_header_of : List ℕ → AccountWitnessHeader
witness_header_of s = record { operation = operation_of s; proof_count = proof_count_of s; state_sequence = witness_sequence_of s }

-- 01: "Counts 17 to 255 pass `parse_witness_header`"
unfoldable pub read_witness_header : List ℕ → Result AccountWitnessHeader ProtocolError
read_witness_header s = decide (Ok tt) (witness_header_rows s) then Ok (witness_header_of s)

-- the layout
unfoldable pub witness_header_fields : ℕ → ℕ → ℕ → List Field
witness_header_fields operation count sequence =
    record { width = 4; value = witness_magic }
    ∷ record { width = 1; value = 1 }
    ∷ record { width = 1; value = operation }
    ∷ record { width = 1; value = count }
    ∷ record { width = 1; value = 0 }
    ∷ record { width = 8; value = sequence }
    ∷ []
