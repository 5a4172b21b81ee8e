-- 02, change 12: "The border between group and extra witnesses isn't marked, and the statement names that."
use Rattle.std.specs.Prelude.{◌≡◌, true, List, [], ◌∷◌, ◌++◌, ℕ, ◌≤◌, eqb, length, take, drop, replicate}
use Rattle.octets.specs.Lists.{every}
use Rattle.scene_table.specs.Scene.{Input, Scene}
use Rattle.cell_search.specs.Search.{no_cell}
use Rattle.group_sighash.specs.Witnesses.{group_of}
use Rattle.digest_coverage.specs.Coverage.{sighash_input_of, sighash_parts}

-- the extra witnesses: "witnesses whose index is at least the number of inputs"
unfoldable pub extra_witnesses : Scene → List (List ℕ)
extra_witnesses s = drop (length s.inputs) s.witnesses

-- the scene with more inputs after its own, all else the same
unfoldable pub with_inputs : List Input → Scene → Scene
with_inputs more s = record {
  script = s.script;
  transaction = s.transaction;
  inputs = s.inputs ++ more;
  outputs = s.outputs;
  deps = s.deps;
  witnesses = s.witnesses;
  digits = s.digits;
}

-- inputs of the group, put after those of a scene that has a first group witness
pub record MoreGroup (more : List Input) (s : Scene) : Type 0 where
  pub first : 1 ≤ length (group_of s)
  pub group : every (λ (i : Input). eqb i.group 1) more ≡ true

-- the border is n witnesses further back in t: the first n extra witnesses of s are the group's there; and the sighash input is one
pub record BorderMoved (n : ℕ) (s t : Scene) : Type 0 where
  pub group : group_of t ≡ group_of s ++ take n (extra_witnesses s)
  pub extra : extra_witnesses t ≡ drop n (extra_witnesses s)
  pub covered : sighash_parts t ≡ sighash_parts s
  pub input : sighash_input_of (sighash_parts t) ≡ sighash_input_of (sighash_parts s)

-- the smallest such pair: two witnesses without a byte, and an input of the group, whose cell is empty, once or twice
unfoldable pub group_input : Input
group_input = record { group = 1; since = 0; cell = no_cell; capacity = 0 }

unfoldable pub two_witnesses : List Input → Scene
two_witnesses inputs = record {
  script = [];
  transaction = replicate 32 0;
  inputs = inputs;
  outputs = [];
  deps = [];
  witnesses = [] ∷ [] ∷ [];
  digits = [];
}

unfoldable pub second_extra : Scene
second_extra = two_witnesses (group_input ∷ [])

unfoldable pub second_of_group : Scene
second_of_group = two_witnesses (group_input ∷ group_input ∷ [])
