-- 01, main.rs: "Sighash input: transaction hash; canonical first group witness; other group witnesses; witnesses whose index is
-- at least the number of inputs." The sighash of a scene, and what its function answers.
use Rattle.std.specs.Prelude.{ℕ, List, ◌∷◌, ◌++◌, length, leb, Ok, Result}
use Rattle.protocol.specs.Rows.{Row, row, decide, ◌then◌}
use Rattle.protocol.specs.declared.error.ProtocolError.{ProtocolError}
use Rattle.protocol.specs.declared.error.ProtocolError.TheVariants.{InvalidWitness}
use Rattle.molecule.specs.Table3.{table_rows}
use Rattle.authorization.specs.Sighash.{sighash_of}
use Rattle.scene_table.specs.Scene.{Scene}
use Rattle.group_sighash.specs.Witnesses.{group_of, first_witness, other_witnesses, witness_fits, other_rows}

-- over a first witness that is handed in, and over the group's
abbrev pub sighash_with : List ℕ → Scene → List ℕ
sighash_with first s = sighash_of s.transaction first (other_witnesses s)

unfoldable pub group_sighash : Scene → List ℕ
group_sighash s = sighash_with (first_witness s) s

-- the original's `canonical_group_sighash`: `load_witness` of the group's first (missing, above 132,096), `canonical_witness`
-- of it (its table), `load_witness` of each other that is hashed (above 132,096)
unfoldable pub sighash_rows : Scene → List Row
sighash_rows s =
    row (leb 1 (length (group_of s))) InvalidWitness
    ∷ row (witness_fits (first_witness s)) InvalidWitness
    ∷ (table_rows InvalidWitness (first_witness s) ++ other_rows s)

-- the sighash, or the refusal
unfoldable pub group_answer : Scene → Result (List ℕ) ProtocolError
group_answer s = decide (Ok tt) (sighash_rows s) then Ok (group_sighash s)
