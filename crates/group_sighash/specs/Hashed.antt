-- Private: no public contract cites this file.
-- The hashed witnesses, by the records of the table.
use Rattle.std.specs.Prelude.{◌≡◌, ℕ, ◌+◌, Bool, ◌||◌, cond, List, [], ◌∷◌, drop, eqb, leb, Option, Some, None}
use Rattle.scene_table.specs.Scene.{Input}
use Rattle.scene_table.specs.Lent.{scene_in, input_count}
use Rattle.scene_table.specs.Places.{input_group, witness_place}
use Rattle.octets.specs.Places.{bytes_at}
use Rattle.group_sighash.specs.Witnesses.{group_witnesses, first_witness, other_witnesses}

-- the witnesses of the group, and all those behind the inputs
unfoldable pub hashed_of : List Input → List (List ℕ) → List (List ℕ)
hashed_of [] ws = ws
hashed_of (i ∷ is) [] = []
hashed_of (i ∷ is) (w ∷ ws) = cond (eqb i.group 1) (w ∷ hashed_of is ws) (hashed_of is ws)

-- from witness i on
unfoldable pub hashed_from : List ℕ → List ℕ → ℕ → List (List ℕ)
hashed_from table store i = hashed_of (drop i (scene_in table store).inputs) (drop i (scene_in table store).witnesses)

unfoldable pub group_from : List ℕ → List ℕ → ℕ → List (List ℕ)
group_from table store i = group_witnesses (drop i (scene_in table store).inputs) (drop i (scene_in table store).witnesses)

unfoldable pub witness_at : List ℕ → List ℕ → ℕ → List ℕ
witness_at table store i = bytes_at store (witness_place table i)

-- witness i is one of them
unfoldable pub is_hashed : List ℕ → ℕ → Bool
is_hashed table i = leb (input_count table) i || input_group table i

-- the group's first witness, by its index, and where the hashed ones behind it begin; where there is none, no input of the group
-- has a witness, so those behind it are all that are hashed
abbrev pub first_at : List ℕ → List ℕ → Option ℕ → List ℕ
first_at table store (Some i) = witness_at table store i
first_at table store None = []

abbrev pub behind : Option ℕ → ℕ
behind (Some i) = i + 1
behind None = 0

-- the hashed witnesses from r on are those behind the first of the group
abbrev pub FirstOther : List ℕ → ℕ → Type 0
FirstOther table r = (store : List ℕ) → other_witnesses (scene_in table store) ≡ hashed_from table store r

-- the index is that of the group's first witness
pub record GroupBegins (table : List ℕ) (r : Option ℕ) : Type 0 where
  pub first : (store : List ℕ) → first_witness (scene_in table store) ≡ first_at table store r
  pub others : FirstOther table (behind r)
