-- 02, change 12: "Two scenes that differ only inside the lock field of the first group witness".
use Rattle.std.specs.Prelude.{◌≡◌, cond, List, [], ◌∷◌, ℕ, eqb}
use Rattle.molecule.specs.Table3.{field2, field3, table3_bytes}
use Rattle.scene_table.specs.Scene.{Input, Scene}
use Rattle.group_sighash.specs.Witnesses.{first_witness}

-- the witnesses of a transaction with another first group witness
unfoldable pub first_replaced : List ℕ → List Input → List (List ℕ) → List (List ℕ)
first_replaced witness [] ws = ws
first_replaced witness (i ∷ is) [] = []
first_replaced witness (i ∷ is) (w ∷ ws) = cond (eqb i.group 1) (witness ∷ ws) (w ∷ first_replaced witness is ws)

-- the scene with another first group witness, all else the same
unfoldable pub with_first_witness : List ℕ → Scene → Scene
with_first_witness witness s = record {
  script = s.script;
  transaction = s.transaction;
  inputs = s.inputs;
  outputs = s.outputs;
  deps = s.deps;
  witnesses = first_replaced witness s.inputs s.witnesses;
  digits = s.digits;
}

-- a witness with another lock field, fields 2 and 3 the same
unfoldable pub with_lock_field : List ℕ → List ℕ → List ℕ
with_lock_field field witness = table3_bytes (record { first = field; second = field2 witness; third = field3 witness })

-- two witnesses that are the same but for the lock field. The lock fields may have any lengths: where they differ, the total and the
-- offsets in front of the fields do too
pub record SameFields (v w : List ℕ) : Type 0 where
  pub second : field2 v ≡ field2 w
  pub third : field3 v ≡ field3 w

-- t is s but for the first group witness, and there fields 2 and 3 are the same
pub record DifferInLock (s t : Scene) : Type 0 where
  pub scene : t ≡ with_first_witness (first_witness t) s
  pub fields : SameFields (first_witness t) (first_witness s)
