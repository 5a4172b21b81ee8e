-- The lock's rows up to a place, written out in the order of 01, "Where each refusal is raised", with those that document 02 adds.
-- The lock's own list is `early_rows` of Lock.
use Rattle.std.specs.Prelude.{◌+◌, List, [], ◌∷◌, ◌++◌, eqb}
use Rattle.protocol.specs.Rows.{Row, row}
use Rattle.protocol.specs.declared.error.ProtocolError.TheVariants.{InvalidSequence, InvalidCapability, SessionWithdrawn}
use Rattle.account_state.specs.Fields.{flags_of, recovery_enabled, sequence_of}
use Rattle.account_state.specs.Reading.{state_reading}
use Rattle.account_state.specs.State.{state_rows}
use Rattle.scene_table.specs.Scene.{Scene}
use Rattle.cell_hashes.specs.Hashes.{hash_rows}
use Rattle.group_sighash.specs.Witnesses.{group_rows, other_rows}
use Rattle.state_transition.specs.Resolve.{spend_rows, change_rows, resolve_rows}
use Rattle.state_transition.specs.Session.{session_free}
use Rattle.state_transition.specs.Transition.{data_rows, current_rows}
use Rattle.account_lock.specs.Lock.{script_rows, account, operation, witness_sequence, current, successor}

-- what stands first for every operation: the hashes, the script and the group's first witness
unfoldable pub front_rows : Scene → List Row
front_rows s = hash_rows s ++ (script_rows s.script ++ group_rows s)

-- every row of a spend before the proofs: document 01's, after the hashes'. The current state is tested by its own checks and the
-- witness sequence alone, and there is no successor
unfoldable pub early_spend_rows : Scene → List Row
early_spend_rows s =
    front_rows s
    ++ (spend_rows (account s) s ++ ((data_rows (current s) [] ++ current_rows (witness_sequence s) (current s)) ++ other_rows s))

-- every row before the current state's own checks
unfoldable pub before_current_rows : Scene → List Row
before_current_rows s = front_rows s ++ (resolve_rows (operation s) (account s) s ++ data_rows (current s) (successor s))

-- every row of a rotation or a recovery before the successor's own checks
unfoldable pub before_successor_rows : Scene → List Row
before_successor_rows s =
    front_rows s
    ++ (change_rows (account s) s ++ (data_rows (current s) (successor s) ++ current_rows (witness_sequence s) (current s)))

-- every row of a rotation or a recovery before 49, which stands "after the successor's own checks"
unfoldable pub before_session_rows : Scene → List Row
before_session_rows s =
    front_rows s
    ++ (change_rows (account s) s
    ++ (data_rows (current s) (successor s) ++ (current_rows (witness_sequence s) (current s) ++ state_rows (successor s))))

-- every row of a recovery before 42, which stands "after 29 and before 34"
unfoldable pub before_wait_rows : Scene → List Row
before_wait_rows s =
    before_session_rows s
    ++ (row (session_free (state_reading (successor s))) SessionWithdrawn
    ∷ row (eqb (sequence_of (successor s)) (sequence_of (current s) + 1)) InvalidSequence
    ∷ row (recovery_enabled (flags_of (current s))) InvalidCapability
    ∷ [])
