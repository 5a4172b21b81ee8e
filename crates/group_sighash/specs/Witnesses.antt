-- The witnesses that the lock looks at.
use Rattle.std.specs.Prelude.{ℕ, Bool, cond, List, [], ◌∷◌, ◌++◌, length, drop, eqb, leb}
use Rattle.octets.specs.Lists.{every}
use Rattle.account_witness.specs.Witness.{count_row}
use Rattle.protocol.specs.Rows.{Row, row}
use Rattle.protocol.specs.declared.error.ProtocolError.TheVariants.{InvalidWitness}
use Rattle.molecule.specs.Bytes.{witness_lock_rows, read_witness_lock, bytes_in}
use Rattle.account_witness.specs.Header.{witness_header_rows}
use Rattle.scene_table.specs.Scene.{Input, Scene}

-- 01, The scene: "GROUP is 1 where the input runs this lock, else 0; witness i belongs to input i."; main.rs: "The group part
-- ends at its first missing witness."
unfoldable pub group_witnesses : List Input → List (List ℕ) → List (List ℕ)
group_witnesses [] ws = []
group_witnesses (i ∷ is) [] = []
group_witnesses (i ∷ is) (w ∷ ws) = cond (eqb i.group 1) (w ∷ group_witnesses is ws) (group_witnesses is ws)

unfoldable pub group_of : Scene → List (List ℕ)
group_of s = group_witnesses s.inputs s.witnesses

unfoldable pub head_of : List (List ℕ) → List ℕ
head_of [] = []
head_of (w ∷ ws) = w

-- "canonical first group witness; other group witnesses; witnesses whose index is at least the number of inputs"
unfoldable pub first_witness : Scene → List ℕ
first_witness s = head_of (group_of s)

unfoldable pub other_witnesses : Scene → List (List ℕ)
other_witnesses s = drop 1 (group_of s) ++ drop (length s.inputs) s.witnesses

-- a witness's lock: the bytes of its field 1, none where it is refused
unfoldable pub lock_in : List ℕ → List ℕ
lock_in witness = bytes_in witness (read_witness_lock witness)

-- 01, "Where each refusal is raised": "first group witness missing, above 132,096, table, empty lock, header, count", 22
unfoldable pub count_rows : List ℕ → List Row
count_rows lock = count_row lock ∷ []

unfoldable pub first_witness_rows : List ℕ → List Row
first_witness_rows witness =
    row (leb (length witness) 132096) InvalidWitness
    ∷ (witness_lock_rows witness ++ (witness_header_rows (lock_in witness) ++ count_rows (lock_in witness)))

unfoldable pub group_rows : Scene → List Row
group_rows s = row (leb 1 (length (group_of s))) InvalidWitness ∷ first_witness_rows (first_witness s)

-- "another hashed witness above 132,096", 22
unfoldable pub witness_fits : List ℕ → Bool
witness_fits w = leb (length w) 132096

unfoldable pub other_rows : Scene → List Row
other_rows s = row (every witness_fits (other_witnesses s)) InvalidWitness ∷ []
