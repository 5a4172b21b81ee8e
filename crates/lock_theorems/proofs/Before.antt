-- The lock's rows before the proofs are those before a place, those of the place, and those behind it.
-- Assumes nothing.
use mathlib.Core.Path.{◌≡◌, ◌∙◌}
use mathlib.Core.Logic.{◌≢◌}
use mathlib.Core.Bool.{cond}
use mathlib.Core.List.{List, [], ◌∷◌, ◌++◌, append_assoc, append-nil}
use Prim.Native.Nat.{◌+◌}
use native.Mathlib.Omega.{arith}
use lib.Dec.{eqb}
use borrow.Author.Tests.{eq-eqb, ne_eqb}
use Rattle.protocol.specs.Rows.{Row, row}
use Rattle.protocol.specs.declared.error.ProtocolError.TheVariants.{InvalidSequence, SessionWithdrawn}
use Rattle.account_state.specs.Fields.{sequence_of, recovery_since_of}
use Rattle.account_state.specs.Reading.{state_reading}
use Rattle.account_state.specs.State.{state_rows}
use Rattle.scene_table.specs.Scene.{Scene}
use Rattle.group_sighash.specs.Witnesses.{other_rows}
use Rattle.state_transition.specs.Resolve.{resolve_rows, successor_state, state_since}
use Rattle.state_transition.specs.Session.{session_free}
use Rattle.state_transition.specs.Transition.{current_rows, successor_rows, wait_rows, recovery_rows, succession_rows, transition_rows}
use Rattle.account_lock.specs.Lock.{account, operation, witness_sequence, current, successor, states_rows, late_rows, early_rows}
use Rattle.lock_theorems.specs.Before.{front_rows, early_spend_rows, before_current_rows, before_successor_rows, before_session_rows, before_wait_rows}

module _ (s : Scene) where
  -- the row of the witness sequence, the successor's session and its sequence, and the rows of a recovery
  abbrev pub witness_row : Row
  witness_row = row (eqb (witness_sequence s) (sequence_of (current s))) InvalidSequence

  abbrev pub session_row : Row
  session_row = row (session_free (state_reading (successor s))) SessionWithdrawn

  abbrev pub sequence_row : Row
  sequence_row = row (eqb (sequence_of (successor s)) (sequence_of (current s) + 1)) InvalidSequence

  abbrev pub recovery_tail : List Row
  recovery_tail = cond (eqb (operation s) 3) (recovery_rows (state_since (operation s) (account s) s) (current s)) []

  -- a spend has no successor
  pub early-spend : operation s ≡ 1 → early_rows s ≡ early_spend_rows s
  unfolding early_rows late_rows states_rows resolve_rows transition_rows successor successor_state early_spend_rows front_rows
  early-spend e = rw (eq-eqb _ 1 e) (simp (append_assoc, append-nil))

  -- a spend at its current state's own checks
  pub spend-split : operation s ≡ 1 → early_rows s ≡ before_current_rows s ++ (state_rows (current s) ++ (witness_row ∷ other_rows s))
  unfolding early_rows late_rows states_rows transition_rows current_rows before_current_rows front_rows
  spend-split e = rw (eq-eqb _ 1 e) (simp (append_assoc, append-nil))

  -- a rotation or a recovery at its current state's own checks, at its successor's, and behind these
  pub before-successor : operation s ≢ 1 → before_successor_rows s ≡ before_current_rows s ++ (state_rows (current s) ++ (witness_row ∷ []))
  unfolding resolve_rows current_rows before_successor_rows before_current_rows
  before-successor n = rw (ne_eqb _ 1 n) (simp append_assoc)

  pub successor-split : operation s ≢ 1
      → early_rows s ≡ before_successor_rows s ++ (state_rows (successor s) ++ (session_row ∷ sequence_row ∷ (recovery_tail ++ other_rows s)))
  unfolding early_rows late_rows states_rows resolve_rows transition_rows succession_rows successor_rows before_successor_rows front_rows
  successor-split n = rw (ne_eqb _ 1 n) (simp append_assoc)

  pub change-split : operation s ≢ 1 → early_rows s ≡ before_session_rows s ++ (session_row ∷ sequence_row ∷ (recovery_tail ++ other_rows s))
  unfolding early_rows late_rows states_rows resolve_rows transition_rows succession_rows successor_rows before_session_rows front_rows
  change-split n = rw (ne_eqb _ 1 n) (simp append_assoc)

  -- a recovery at its wait
  pub recovery-split : operation s ≡ 3
      → early_rows s ≡ before_wait_rows s ++ (wait_rows (recovery_since_of (current s)) (state_since (operation s) (account s) s) ++ other_rows s)
  unfolding before_wait_rows recovery_rows
  recovery-split e = change-split (λ o. omega arith) ∙ rw (eq-eqb (operation s) 3 e) (simp append_assoc)
