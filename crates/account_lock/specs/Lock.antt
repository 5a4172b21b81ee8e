-- The lock, row by row: 01, "Where each refusal is raised".
use Rattle.std.specs.Prelude.{ℕ, ◌-◌, Bool, true, false, cond, List, [], ◌∷◌, ◌++◌, length, replicate, leb, Err, Ok}
use Rattle.protocol.specs.Args.{args_rows, account_of}
use Rattle.protocol.specs.Rows.{Row, row, decide, Check}
use Rattle.protocol.specs.declared.error.ProtocolError.TheVariants.{InvalidArgs, SlicesDisagree}
use Rattle.molecule.specs.Bytes as molecule
use Rattle.authorization.specs.Digest.{digest_of}
use Rattle.scene_table.specs.Scene.{Scene}
use Rattle.scene_table.specs.Lent.{scene_in}
use Rattle.scene_table.specs.Valid.{valid_table}
use Rattle.cell_hashes.specs.Hashes.{hash_rows}
use Rattle.capacity.specs.Capacity.{input_total, output_total, capacity_rows, fee_where}
use Rattle.group_sighash.specs.Witnesses.{first_witness, lock_in, group_rows, other_rows}
use Rattle.group_sighash.specs.GroupSighash.{group_sighash}
use Rattle.state_transition.specs.Resolve.{resolve_rows, current_state, successor_state, state_since}
use Rattle.state_transition.specs.Transition.{data_rows, transition_rows}
use Rattle.decision.specs.Proofs.{Context, context_for}
use Rattle.decision.specs.Walk.{WalkOutcome, walk_lock}
use Rattle.account_witness.specs.Fields.{operation_of, witness_sequence_of}
use Rattle.account_state.specs.Fields.{sequence_of}
use Rattle.account_lock.specs.declared.answer.LockAnswer.{LockAnswer}

-- a script's args, and the account id in them
unfoldable pub args_in : List ℕ → List ℕ
args_in script = molecule.bytes_in script (molecule.read_script_args script)

unfoldable pub account_in : List ℕ → List ℕ
account_in script = account_of (args_in script)

-- "script above 512 bytes, its table, args", 20; 32
unfoldable pub script_rows : List ℕ → List Row
script_rows script = row (leb (length script) 512) InvalidArgs ∷ (molecule.script_args_rows script ++ args_rows (args_in script))

-- the account id, the witness lock, and its operation and sequence
unfoldable pub account : Scene → List ℕ
account s = account_in s.script

unfoldable pub witness_lock : Scene → List ℕ
witness_lock s = lock_in (first_witness s)

unfoldable pub operation : Scene → ℕ
operation s = operation_of (witness_lock s)

unfoldable pub witness_sequence : Scene → ℕ
witness_sequence s = witness_sequence_of (witness_lock s)

-- the account's current state, and its successor
unfoldable pub current : Scene → List ℕ
current s = current_state (operation s) (account s) s

unfoldable pub successor : Scene → List ℕ
successor s = successor_state (operation s) (account s) s

-- the rows on the states
unfoldable pub states_rows : Scene → List Row
states_rows s =
    data_rows (current s) (successor s)
    ++ transition_rows (operation s) (witness_sequence s) (state_since (operation s) (account s) s) (current s) (successor s)

-- the rows of what the script and the group's witness name: the account's states and the other witnesses
unfoldable pub late_rows : Scene → List Row
late_rows s = resolve_rows (operation s) (account s) s ++ (states_rows s ++ other_rows s)

-- every row behind the table's and before the proofs'. 02, change 1: 40 stands "after 7 and before the script"
unfoldable pub early_rows : Scene → List Row
early_rows s = hash_rows s ++ (script_rows s.script ++ (group_rows s ++ late_rows s))

-- 01, main.rs: "Digest input: `CKB_ACCOUNT_LOCK_V1`, operation, account id, sequence (u64), hash of the state, sighash."
unfoldable pub digest : Scene → List ℕ
digest s = digest_of (operation s) (account s) (sequence_of (current s)) (current s) (group_sighash s)

-- what the proofs are walked with, for an answer buffer of `room` bytes
unfoldable pub context_of : Scene → ℕ → Context
context_of s room = context_for (current s) s.deps s.digits (operation s) (digest s) room

-- what the lock finds, how many requests it made and their bytes end to end, the digest, where it was reached, and the fee
pub record Result : Type 0 where
  pub found : Check
  pub count : ℕ
  pub made : List ℕ
  pub reached : Bool
  pub digest : List ℕ
  pub fee : ℕ

unfoldable pub refused : Check → Result
refused found = record { found = found; count = 0; made = []; reached = false; digest = replicate 32 0; fee = 0 }

-- 02, change 9: 39 and 48 stand "both after 28", which is the walk's last row; "On acceptance .. FEE, inputs' total less outputs'
-- total", and on refusal none
unfoldable pub walked : WalkOutcome → Scene → Result
walked o s = record {
  found = decide o.found (capacity_rows s);
  count = o.count;
  made = o.made;
  reached = true;
  digest = digest s;
  fee = fee_where (decide o.found (capacity_rows s)) (input_total s - output_total s);
}

-- a refusal by the early rows, or what the walk over the proofs gives
unfoldable pub or_walked : Check → Result → Result
or_walked (Ok _) w = w
or_walked (Err e) w = refused (Err e)

unfoldable pub walk_result : Scene → ℕ → Result
walk_result s room = walked (walk_lock (context_of s room) (witness_lock s)) s

unfoldable pub lock_scene : Scene → ℕ → Result
lock_scene s room = or_walked (decide (Ok tt) (early_rows s)) (walk_result s room)

-- "lock: a table that the reader, scene length aside, leaves for no accepted scene with a store this long", 7
unfoldable pub lock_of : List ℕ → List ℕ → ℕ → Result
lock_of table store room =
    cond (valid_table table (length store)) (lock_scene (scene_in table store) room) (refused (Err SlicesDisagree))

-- "The lock returns number (0 accepted), count and total length of the requests made, and the digest, none if unreached."; 02,
-- change 9: and the fee
unfoldable pub answer_of : Result → LockAnswer
answer_of r = record {
  found = r.found;
  count = r.count;
  length = length r.made;
  reached = r.reached;
  digest = r.digest;
  fee = r.fee;
}
