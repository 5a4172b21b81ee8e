-- The witnesses, a proof's rows, the last rows of the walk and the totals: 01, "Where each refusal is raised", 02, changes 6 and 9,
-- computed from the definitions.
use Rattle.std.specs.Prelude.{ℕ, ◌+◌, ◌-◌, ◌^◌, ◌≡◌, Bool, true, false, List, [], ◌∷◌, ◌++◌, map, length, replicate, Ok, Err}
use Rattle.protocol.specs.declared.error.ProtocolError.TheVariants.{OutputsExceedInputs}
use Rattle.octets.specs.Le.{to_le}
use Rattle.octets.specs.Lists.{tabulate}
use Rattle.protocol.specs.Rows.{decide, check_number}
use Rattle.account_state.specs.Reading.{EntryReading}
use Rattle.account_witness.specs.Reading.{ProofReading}
use Rattle.scene_table.specs.Scene.{Cell, Scene}
use Rattle.scene_table.specs.Places.{verdict_at}
use Rattle.cell_search.specs.Search.{no_cell}
use Rattle.group_sighash.specs.Witnesses.{first_witness, other_witnesses, first_witness_rows, witness_fits}
use Rattle.quorum.specs.Operation.{threshold_of}
use Rattle.decision.specs.Proofs.{Context, request_limit_rows, authenticator_rows, proof_rows, request_of}
use Rattle.decision.specs.Walk.{last_rows, walk_from}
use Rattle.capacity.specs.Capacity.{total_rows, fee_where, fee_for}
use Rattle.limit_rows.specs.StateLimits.{head_places}
use Rattle.limit_rows.specs.WitnessLimits.{witness_front}
use Rattle.limit_rows.specs.MoleculeLimits.{table_with}

-- a witness whose lock is 16 bytes with no proof, by its total and what follows its lock
abbrev first_number : ℕ → List ℕ → ℕ
first_number total rest =
    check_number (decide (Ok tt) (first_witness_rows (table_with total 16 36 36 (to_le 4 16 ++ witness_front 87 1 1 0 0 ++ rest))))

-- inputs with these GROUPs, and six witnesses
abbrev group_scene : List ℕ → Scene
group_scene groups =
    record {
      script = [];
      transaction = [];
      inputs = map (λ g. record { group = g; since = 0; cell = no_cell; capacity = 0 }) groups;
      outputs = [];
      deps = [];
      witnesses = map (λ n. n ∷ []) (1 ∷ 2 ∷ 3 ∷ 4 ∷ 5 ∷ 6 ∷ []);
      digits = [];
    }

-- a proof's limits, by the lengths of aux, proof and what is left of the answer buffer
abbrev limit_number : ℕ → ℕ → ℕ → ℕ
limit_number aux proof left = check_number (decide (Ok tt) (request_limit_rows aux proof left))

-- an entry with these capabilities whose verifier is named by this hash type, and cells with a type hash of 1 and a data hash of 2
abbrev entry_naming : ℕ → ℕ → List ℕ → EntryReading
entry_naming capabilities hash_type code_hash =
    record { slot = 0; algorithm = 1; capabilities = capabilities; weight = 1; hash_type = hash_type; abi = 1; code_hash = code_hash; key = []; aux = 0 ∷ [] }

abbrev dep_cell : Cell
dep_cell = record { type_hash = 1 ∷ []; data_hash = 2 ∷ []; type_script = []; content = [] }

-- an operation's proof of one byte, by the entry's capabilities, and by its verifier
abbrev by_capability : ℕ → ℕ → ℕ
by_capability operation capabilities = check_number (decide (Ok tt) (authenticator_rows operation (dep_cell ∷ []) (entry_naming capabilities 1 (1 ∷ [])) 1 98))

abbrev by_verifier : List Cell → ℕ → ℕ → ℕ
by_verifier deps hash_type hash = check_number (decide (Ok tt) (authenticator_rows 1 deps (entry_naming 1 hash_type (hash ∷ [])) 1 98))

-- behind the last proof, by the approved weight and the threshold
abbrev last_number : Bool → ℕ → ℕ → ℕ
last_number clean weight threshold = check_number (decide (Ok tt) (last_rows clean weight threshold))

-- a spend over two entries, at slot 1 of weight 3 and at slot 0x0706 of weight 4, by its digits and its threshold
abbrev walked_entry : ℕ → ℕ → EntryReading
walked_entry slot weight =
    record { slot = slot; algorithm = 0x0504; capabilities = 1; weight = weight; hash_type = 1; abi = 1; code_hash = 1 ∷ []; key = tabulate (λ i. i + 41) 32; aux = 73 ∷ 74 ∷ [] }

abbrev walked_context : List ℕ → ℕ → Context
walked_context digits threshold =
    record {
      entries = walked_entry 1 3 ∷ walked_entry 0x0706 4 ∷ [];
      deps = dep_cell ∷ [];
      digits = digits;
      operation = 1;
      threshold = threshold;
      digest = tabulate (λ i. i + 9) 32;
      room = 1000;
    }

abbrev proof_at : ℕ → ProofReading
proof_at slot = record { slot = slot; bytes = 75 ∷ 76 ∷ 77 ∷ [] }

abbrev walk_number : List ℕ → ℕ → ℕ
walk_number digits threshold = check_number (walk_from (walked_context digits threshold) true 0 0 [] (proof_at 1 ∷ proof_at 0x0706 ∷ [])).found

abbrev totals_number : ℕ → ℕ → ℕ
totals_number inputs outputs = check_number (decide (Ok tt) (total_rows inputs outputs))

-- the fee that an answer shows
abbrev fee_shown : ℕ → ℕ → ℕ
fee_shown inputs outputs = fee_where (decide (Ok tt) (total_rows inputs outputs)) (inputs - outputs)

pub record ProofLimits : Type 0 where
  -- "first group witness .. above 132,096", 22; "another hashed witness above 132,096", 22
  pub witness-132096 : (rest : List ℕ) → length rest ≡ 132060 → first_number 132096 rest ≡ 0
  pub witness-132097 : (rest : List ℕ) → length rest ≡ 132061 → first_number 132097 rest ≡ 22
  pub other-132096 : (w : List ℕ) → length w ≡ 132096 → witness_fits w ≡ true
  pub other-132097 : (w : List ℕ) → length w ≡ 132097 → witness_fits w ≡ false
  -- "canonical first group witness; other group witnesses; witnesses whose index is at least the number of inputs"
  pub first-witness : first_witness (group_scene (0 ∷ 1 ∷ 0 ∷ 1 ∷ [])) ≡ 2 ∷ []
  pub other-witnesses : other_witnesses (group_scene (0 ∷ 1 ∷ 0 ∷ 1 ∷ [])) ≡ (4 ∷ []) ∷ (5 ∷ []) ∷ (6 ∷ []) ∷ []
  -- "spend, rotate and recovery thresholds", for the operations 1, 2 and 3
  pub thresholds : map (λ o. threshold_of o head_places) (1 ∷ 2 ∷ 3 ∷ []) ≡ 0x0a09 ∷ 0x0c0b ∷ 0x0e0d ∷ []
  -- "capability", 29: "Capability bits 1, 2, 4, 8: spend, rotate, recovery, session issue."
  pub spend : map (by_capability 1) (1 ∷ 2 ∷ 4 ∷ 8 ∷ 15 ∷ []) ≡ 0 ∷ 29 ∷ 29 ∷ 29 ∷ 0 ∷ []
  pub rotate : map (by_capability 2) (1 ∷ 2 ∷ 4 ∷ 8 ∷ 15 ∷ []) ≡ 29 ∷ 0 ∷ 29 ∷ 29 ∷ 0 ∷ []
  pub recovery : map (by_capability 3) (1 ∷ 2 ∷ 4 ∷ 8 ∷ 15 ∷ []) ≡ 29 ∷ 29 ∷ 0 ∷ 29 ∷ 0 ∷ []
  -- "verifier none or several", 30; "0 names a dep by data hash, 1 by type hash"
  pub by-type : map (by_verifier (dep_cell ∷ []) 1) (1 ∷ 2 ∷ []) ≡ 0 ∷ 30 ∷ []
  pub by-data : map (by_verifier (dep_cell ∷ []) 0) (1 ∷ 2 ∷ []) ≡ 30 ∷ 0 ∷ []
  pub several : by_verifier [] 1 1 ∷ by_verifier (dep_cell ∷ dep_cell ∷ []) 1 1 ∷ [] ≡ 30 ∷ 30 ∷ []
  -- "In the lock a request of above 69,728 bytes is 39, tested before aux above 4,096 (35); a proof above 65,536 is 35 before either."
  pub proof-limit : limit_number 2593 65536 100000 ∷ limit_number 2593 65537 100000 ∷ limit_number 5000 65537 100000 ∷ [] ≡ 0 ∷ 35 ∷ 35 ∷ []
  pub request-limit : limit_number 4096 65536 100000 ∷ limit_number 4097 65536 100000 ∷ limit_number 4097 65535 100000 ∷ [] ≡ 0 ∷ 39 ∷ 35 ∷ []
  -- "answer buffer too short for this request", 5: a request has 96 bytes beside aux and proof
  pub room : limit_number 1 1 97 ∷ limit_number 1 1 98 ∷ [] ≡ 5 ∷ 0 ∷ []
  -- "a proof without a digit counts as 2"
  pub digits : map (verdict_at (0 ∷ 1 ∷ [])) (0 ∷ 1 ∷ 2 ∷ []) ≡ 0 ∷ 1 ∷ 2 ∷ []
  -- "0 approved, 1 refused, 2 failed": "verdict 2", 31; "approved weight below threshold", 28; "slot unknown", 22
  pub approved : walk_number (0 ∷ 0 ∷ []) 7 ∷ walk_number (0 ∷ 0 ∷ []) 8 ∷ walk_number (0 ∷ 1 ∷ []) 3 ∷ walk_number (0 ∷ 1 ∷ []) 4 ∷ [] ≡ 0 ∷ 28 ∷ 0 ∷ 28 ∷ []
  pub failed : walk_number (0 ∷ 2 ∷ []) 1 ∷ walk_number (0 ∷ []) 1 ∷ [] ≡ 31 ∷ 31 ∷ []
  pub unknown : check_number (decide (Ok tt) (proof_rows (walked_context [] 1) 0 (proof_at 2))) ≡ 22
  -- the request of a proof: its profile is the first byte of aux
  pub request : request_of (walked_context [] 1) (proof_at 0x0706) ≡
      (67 ∷ 75 ∷ 86 ∷ 82 ∷ 1 ∷ 0 ∷ 96 ∷ 0 ∷ 4 ∷ 5 ∷ 6 ∷ 7 ∷ 1 ∷ 73 ∷ 0 ∷ 0 ∷ []) ++ tabulate (λ i. i + 9) 64
      ++ (2 ∷ 0 ∷ 0 ∷ 0 ∷ 3 ∷ 0 ∷ 0 ∷ 0 ∷ []) ++ replicate 8 0 ++ tabulate (λ i. i + 73) 5
  -- "bytes after the last proof", 22; "approved weight below threshold", 28
  pub last : last_number false 5 5 ∷ last_number true 4 5 ∷ last_number true 5 5 ∷ last_number true 0 0 ∷ [] ≡ 22 ∷ 28 ∷ 0 ∷ 28 ∷ []
  -- 02, change 9: "39 where a total passes 2^64−1, inputs first, then 48 where outputs exceed inputs"
  pub totals : totals_number (2 ^ 64 - 1) (2 ^ 64 - 1) ∷ totals_number (2 ^ 64) 0 ∷ totals_number 0 (2 ^ 64) ∷ totals_number 5 6 ∷ [] ≡ 0 ∷ 39 ∷ 39 ∷ 48 ∷ []
  pub fee : fee_for (2 ^ 64 - 1) 5 ∷ fee_for 5 5 ∷ fee_for 5 6 ∷ [] ≡ Ok (2 ^ 64 - 6) ∷ Ok 0 ∷ Err OutputsExceedInputs ∷ []
  -- "On refusal that field is empty"
  pub shown : fee_shown (2 ^ 64 - 1) 5 ∷ fee_shown 5 5 ∷ fee_shown 5 6 ∷ [] ≡ (2 ^ 64 - 6) ∷ 0 ∷ 0 ∷ []
