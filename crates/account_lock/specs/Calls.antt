-- Private: no public contract cites this file.
-- What the lock's functions ask of their calls, and what they answer.
use Rattle.std.specs.Prelude.{◌≡◌, true, List, ℕ, length, Err, Ok, Result}
use Rattle.octets.specs.Places.{bytes_at}
use Rattle.protocol.specs.Policy.{is_operation}
use Rattle.protocol.specs.Rows.{Check}
use Rattle.protocol.specs.declared.error.ProtocolError.{ProtocolError}
use Rattle.scene_table.specs.Scene.{Scene}
use Rattle.scene_table.specs.Lent.{scene_in}
use Rattle.molecule.specs.Bytes.{witness_lock_place}
use Rattle.group_sighash.specs.Witnesses.{first_witness}
use Rattle.state_transition.specs.declared.resolve.ResolvedState.{ResolvedState}
use Rattle.state_transition.specs.Resolve.{since_at, state_since, successor_at}
use Rattle.decision.specs.Walk.{answered}
use Rattle.proof_walk.specs.declared.Authorization.{Authorization}
use Rattle.account_lock.specs.declared.answer.LockAnswer.{LockAnswer}
use Rattle.account_lock.specs.Lock as lock

-- the account and the group's first witness, of a scene where the rows of the script and of the group pass
pub record ScriptAndGroupPass (id bytes : List ℕ) (s : Scene) : Type 0 where
  pub account : id ≡ lock.account s
  pub whole : length id ≡ 32
  pub first : bytes ≡ first_witness s
  pub witness : bytes_at bytes (witness_lock_place bytes) ≡ lock.witness_lock s
  pub known : is_operation (lock.operation s) ≡ true

-- what the digest is over, beside the transaction
pub record DigestInputs (id bytes : List ℕ) (asked : ℕ) (state : List ℕ) (s : Scene) : Type 0 where
  pub account : id ≡ lock.account s
  pub whole : length id ≡ 32
  pub first : bytes ≡ first_witness s
  pub operation : asked ≡ lock.operation s
  pub current : state ≡ lock.current s

-- the witness lock, the current state, and what every request carries
pub record WalkInputs (bytes state : List ℕ) (given : Authorization) (s : Scene) : Type 0 where
  pub witness : bytes ≡ lock.witness_lock s
  pub current : state ≡ lock.current s
  pub known : is_operation (lock.operation s) ≡ true
  pub operation : given.operation ≡ lock.operation s
  pub digest : given.digest ≡ lock.digest s

-- the witness lock, its operation, the current state, and where it stands and its successor
pub record StatesFound (bytes : List ℕ) (asked : ℕ) (state : List ℕ) (found : ResolvedState) (s : Scene) : Type 0 where
  pub witness : bytes ≡ lock.witness_lock s
  pub operation : asked ≡ lock.operation s
  pub current : state ≡ lock.current s
  pub since : since_at found.current s ≡ state_since (lock.operation s) (lock.account s) s
  pub successor : successor_at (lock.operation s) found.successor s ≡ lock.successor s

-- what a function that gives a value found
abbrev pub found_by : {A : Type 0} → Result A ProtocolError → Check
found_by (Ok _) = Ok tt
found_by (Err e) = Err e

-- the answer is a result's, and the result's requests stand at the front of the buffer
abbrev pub ReturnsResult : (Scene → ℕ → lock.Result) → List ℕ → List ℕ → List ℕ → LockAnswer → Type 0
ReturnsResult result table store before r = r ≡ lock.answer_of (result (scene_in table store) (length before))

abbrev pub StoresRequests : (Scene → ℕ → lock.Result) → List ℕ → List ℕ → List ℕ → List ℕ → Type 0
StoresRequests result table store before after = after ≡ answered before (result (scene_in table store) (length before)).made
