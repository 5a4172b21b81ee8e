-- The account's cells and states in a transaction: 01, "Where each refusal is raised", 02, change 10, computed from the definitions.
use Rattle.std.specs.Prelude.{ℕ, ◌-◌, ◌^◌, ◌≡◌, List, [], ◌∷◌, ◌++◌, map, length, replicate, Ok}
use Rattle.octets.specs.Le.{to_le}
use Rattle.protocol.specs.Rows.{decide, check_number}
use Rattle.scene_table.specs.Scene.{Cell, Scene}
use Rattle.state_transition.specs.Resolve.{type_rows, resolve_rows, current_state, successor_state, state_since}
use Rattle.state_transition.specs.Transition.{data_rows, transition_rows}
use Rattle.limit_rows.specs.StateLimits.{entry_with}

-- a state of one entry, whose recovery threshold is 1 where flag 1 is set: flags, sequence, recovery threshold, recovery_since,
-- capabilities
unfoldable pub state_at : ℕ → ℕ → ℕ → ℕ → ℕ → List ℕ
state_at flags sequence recovery since capabilities =
    (67 ∷ 75 ∷ 65 ∷ 83 ∷ 1 ∷ flags ∷ 32 ∷ 0 ∷ [])
    ++ to_le 8 sequence
    ++ (1 ∷ 0 ∷ 1 ∷ 0 ∷ recovery ∷ 0 ∷ 1 ∷ 0 ∷ [])
    ++ to_le 8 since
    ++ entry_with 81 0 0x0001 capabilities 1 0 1 32 1

-- a state with the sequence, with no recovery
abbrev plain_at : ℕ → List ℕ
plain_at sequence = state_at 0 sequence 0 0 0x0003

-- the rows of the current state and its successor, by operation, witness sequence and the input's since
abbrev transition_number : ℕ → ℕ → ℕ → List ℕ → List ℕ → ℕ
transition_number operation sequence since current successor =
    check_number (decide (Ok tt) (transition_rows operation sequence since current successor))

-- a spend by the witness sequence, where the state's is 5; a rotation from one sequence to another
abbrev by_sequence : ℕ → ℕ
by_sequence sequence = transition_number 1 sequence 0 (plain_at 5) []

abbrev rotation : ℕ → ℕ → ℕ
rotation from to = transition_number 2 from 0 (plain_at from) (plain_at to)

-- a rotation to a successor with these flags and capabilities
abbrev by_successor : ℕ → ℕ → ℕ → ℕ
by_successor flags recovery capabilities = transition_number 2 5 0 (plain_at 5) (state_at flags 6 recovery 0 capabilities)

-- a recovery from a state with these flags, recovery threshold and recovery_since, by the input's since
abbrev by_recovery : ℕ → ℕ → ℕ → ℕ → ℕ
by_recovery flags recovery wait since = transition_number 3 5 since (state_at flags 5 recovery wait 0x0007) (plain_at 6)

-- the rows on type scripts and on data
abbrev type_number : List ℕ → List ℕ → ℕ
type_number input output = check_number (decide (Ok tt) (type_rows input output))

abbrev data_number : List ℕ → List ℕ → ℕ
data_number current successor = check_number (decide (Ok tt) (data_rows current successor))

-- a scene with cells of these type hashes, and the number of the search for the account's state there
abbrev cell_named : List ℕ → Cell
cell_named hash = record { type_hash = hash; data_hash = []; type_script = []; content = [] }

abbrev scene_with : List (List ℕ) → List (List ℕ) → List (List ℕ) → Scene
scene_with inputs outputs deps =
    record {
      script = [];
      transaction = [];
      inputs = map (λ h. record { group = 1; since = 0; cell = cell_named h; capacity = 0 }) inputs;
      outputs = map (λ h. record { cell = cell_named h; capacity = 0 }) outputs;
      deps = map cell_named deps;
      witnesses = [];
      digits = [];
    }

abbrev found : ℕ → List (List ℕ) → List (List ℕ) → List (List ℕ) → ℕ
found operation inputs outputs deps = check_number (decide (Ok tt) (resolve_rows operation (7 ∷ []) (scene_with inputs outputs deps)))

-- the account's id, and another hash
abbrev account_id : List ℕ
account_id = 7 ∷ []

abbrev other_hash : List ℕ
other_hash = 8 ∷ []

-- a scene whose input, output and dep hold the account's state, with the data 1, 2 and 3
abbrev holder : ℕ → Cell
holder content = record { type_hash = account_id; data_hash = []; type_script = []; content = content ∷ [] }

abbrev three_states : Scene
three_states =
    record {
      script = [];
      transaction = [];
      inputs = record { group = 1; since = 8; cell = holder 1; capacity = 0 } ∷ [];
      outputs = record { cell = holder 2; capacity = 0 } ∷ [];
      deps = holder 3 ∷ [];
      witnesses = [];
      digits = [];
    }

pub record TransitionLimits : Type 0 where
  -- "spend: id among inputs 25; deps none 23, several 24"
  pub spends : found 1 (other_hash ∷ []) [] (other_hash ∷ account_id ∷ []) ∷ found 1 (account_id ∷ []) [] (account_id ∷ []) ∷ found 1 [] [] (other_hash ∷ []) ∷ found 1 [] [] (account_id ∷ account_id ∷ []) ∷ [] ≡ 0 ∷ 25 ∷ 23 ∷ 24 ∷ []
  -- "else: inputs none 23, several 24; outputs not one 26"
  pub rotations : found 2 (account_id ∷ []) (account_id ∷ []) [] ∷ found 2 [] (account_id ∷ []) (account_id ∷ []) ∷ found 2 (account_id ∷ account_id ∷ []) (account_id ∷ []) [] ∷ found 2 (account_id ∷ []) [] [] ∷ found 2 (account_id ∷ []) (account_id ∷ account_id ∷ []) [] ∷ [] ≡ 0 ∷ 23 ∷ 24 ∷ 26 ∷ 26 ∷ []
  pub recoveries : found 3 (account_id ∷ []) (account_id ∷ []) [] ∷ found 3 [] (account_id ∷ []) (account_id ∷ []) ∷ [] ≡ 0 ∷ 23 ∷ []
  -- "The current state is the data of the cell that the rows for 23 and 24 find."; since is its input's
  pub current : map (λ o. current_state o account_id three_states) (1 ∷ 2 ∷ 3 ∷ []) ≡ (3 ∷ []) ∷ (1 ∷ []) ∷ (1 ∷ []) ∷ []
  pub successor : map (λ o. successor_state o account_id three_states) (1 ∷ 2 ∷ 3 ∷ []) ≡ [] ∷ (2 ∷ []) ∷ (2 ∷ []) ∷ []
  pub input-since : state_since 3 account_id three_states ≡ 8
  -- "type script above 512 bytes 21, differing 26"
  pub type-512 : type_number (replicate 512 1) (replicate 512 1) ≡ 0
  pub type-513 : (script : List ℕ) → length script ≡ 513 → type_number script [] ≡ 21
  pub type-differs : type_number (1 ∷ []) (2 ∷ []) ≡ 26
  -- "data above 16,384", 21
  pub data-16384 : (state : List ℕ) → length state ≡ 16384 → data_number state state ≡ 0
  pub data-16385 : (state : List ℕ) → length state ≡ 16385 → data_number state [] ≡ 21
  pub successor-16385 : (state : List ℕ) → length state ≡ 16385 → data_number [] state ≡ 21
  -- "current state, then witness sequence", 27; "successor state, its sequence not one more", 27; "Sequence 2^64−1 with a valid
  -- successor is 27."
  pub witness-sequence : map by_sequence (4 ∷ 5 ∷ 6 ∷ []) ≡ 27 ∷ 0 ∷ 27 ∷ []
  pub successor-sequence : rotation 5 4 ∷ rotation 5 5 ∷ rotation 5 6 ∷ rotation 5 7 ∷ [] ≡ 27 ∷ 27 ∷ 0 ∷ 27 ∷ []
  pub last-sequence : rotation (2 ^ 64 - 2) (2 ^ 64 - 1) ∷ rotation (2 ^ 64 - 1) 0 ∷ rotation (2 ^ 64 - 1) (2 ^ 64 - 1) ∷ [] ≡ 0 ∷ 27 ∷ 27 ∷ []
  -- 02, change 10: "flag 2 or capability 0x0008"; "A successor may not carry either", 49
  pub sessions : by_successor 0 0 0x0003 ∷ by_successor 1 1 0x0007 ∷ by_successor 2 0 0x0003 ∷ by_successor 3 1 0x0007 ∷ by_successor 0 0 0x000b ∷ by_successor 0 0 0x000f ∷ [] ≡ 0 ∷ 0 ∷ 49 ∷ 49 ∷ 49 ∷ 49 ∷ []
  -- "recovery off; since too low", 29; 34: flag 1, and recovery_since of the current state
  pub recovery : by_recovery 0 0 0 0 ∷ by_recovery 2 0 0 0 ∷ by_recovery 1 1 0 0 ∷ by_recovery 3 1 0 0 ∷ [] ≡ 29 ∷ 29 ∷ 0 ∷ 0 ∷ []
  pub waits : by_recovery 1 1 10 9 ∷ by_recovery 1 1 10 10 ∷ by_recovery 1 1 (2 ^ 56) 10 ∷ [] ≡ 34 ∷ 0 ∷ 42 ∷ []
