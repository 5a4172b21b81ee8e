-- What is known of a scene where the lock's rows before the proofs pass, part by part.
-- Assumes nothing.
use mathlib.Core.Path.{◌≡◌, refl, sym}
use mathlib.Core.Bool.{Bool, true, false, cond, true≢false}
use mathlib.Core.List.{List}
use Prim.Native.Nat.{ℕ, ◌≤◌, ◌<◌}
use lib.Dec.{eqb}
use lib.ListN.{length, drop}
use borrow.Author.Tests.{leb-true}
use Rattle.protocol.specs.Policy.{is_operation}
use Rattle.protocol.specs.Rows.{AllPass}
use Rattle.protocol.specs.declared.error.ProtocolError.TheVariants.{InvalidWitness}
use Rattle.protocol.proofs.AllPass.{all-pass-append, all-pass-split}
use Rattle.molecule.specs.Table3.{table_rows}
use Rattle.molecule.specs.Bytes as molecule
use Rattle.account_state.specs.Fields.{entry_count_of, flags_of, recovery_enabled, recovery_threshold_of, rotate_threshold_of, spend_threshold_of}
use Rattle.account_state.specs.State as state
use Rattle.account_witness.specs.Fields.{proof_count_of}
use Rattle.account_witness.specs.Header.{witness_header_rows}
use Rattle.scene_table.specs.Scene.{Scene}
use Rattle.cell_hashes.specs.Hashes.{hash_rows}
use Rattle.group_sighash.specs.Witnesses.{first_witness, lock_in, first_witness_rows, count_rows, group_rows, other_rows, witness_fits}
use Rattle.group_sighash.specs.GroupSighash.{sighash_rows}
use Rattle.state_transition.specs.Resolve.{resolve_rows, state_since}
use Rattle.state_transition.specs.Transition.{data_rows, current_rows, successor_rows, recovery_rows, succession_rows, transition_rows}
use Rattle.quorum.specs.Operation.{threshold_of}
use Rattle.account_lock.specs.Lock.{script_rows, account, operation, witness_lock, witness_sequence, current, successor, states_rows, late_rows, early_rows}
use Rattle.account_lock.proofs.LockLaws.{lock-rows, group-operation}

-- ---- the group's first witness

-- a group whose rows pass has a table,
module _ (s : Scene) (h : AllPass (group_rows s)) where
  pub group-table : AllPass (table_rows InvalidWitness (first_witness s))
  unfolding molecule.witness_lock_rows
  group-table = (all-pass-split (table_rows InvalidWitness (first_witness s)) _ (lock-rows s h).0).0

  -- at most 131,072 bytes and at most 16 proofs in its witness lock
  pub group-length : length (witness_lock s) ≤ 131072
  unfolding witness_lock witness_header_rows
  group-length = leb-true _ _ (all-pass-split (witness_header_rows (lock_in (first_witness s))) (count_rows (lock_in (first_witness s))) (lock-rows s h).1).0.1.0

  pub group-count : proof_count_of (witness_lock s) ≤ 16
  unfolding witness_lock count_rows
  group-count = leb-true _ _ (all-pass-split (witness_header_rows (lock_in (first_witness s))) (count_rows (lock_in (first_witness s))) (lock-rows s h).1).1.0

-- what the sighash tests has passed
pub group-hashed : (s : Scene) → AllPass (group_rows s) → AllPass (other_rows s) → AllPass (sighash_rows s)
unfolding sighash_rows group_rows first_witness_rows witness_fits
group-hashed s g o = (g.0, (g.1.0, all-pass-append (table_rows InvalidWitness (first_witness s)) (other_rows s) (group-table s g) o))

-- ---- every part

-- a state whose rows pass has spend and rotate thresholds, and where recovery is on a recovery threshold
pub record Thresholds (s : List ℕ) : Type 0 where
  pub spend : 1 ≤ spend_threshold_of s
  pub rotate : 1 ≤ rotate_threshold_of s
  pub recovery : recovery_enabled (flags_of s) ≡ true → 1 ≤ recovery_threshold_of s

state-thresholds : (s : List ℕ) → AllPass (state.state_rows s) → Thresholds s
unfolding state.state_rows state.state_tail_rows state.state_end_rows state.threshold_rows state.recovery_threshold_rows
state-thresholds s h =
    let e = (all-pass-split (state.entries_rows (entry_count_of s) (drop 32 s) 0) _ (all-pass-split (state.state_header_rows s) _ h).1).1 in
    record {
      spend = leb-true 1 _ e.1.0;
      rotate = leb-true 1 _ e.1.1.0;
      recovery = λ on. leb-true 1 _ (rw on at e.1.1.1.1.1).0;
    }

module _ (s : Scene) (h : AllPass (early_rows s)) where
  -- the rows of the hashes and of the script,
  pub hashes-pass : AllPass (hash_rows s)
  unfolding early_rows
  hashes-pass = (all-pass-split (hash_rows s) _ h).0

  pub script-passes : AllPass (script_rows s.script)
  unfolding early_rows
  script-passes = (all-pass-split (script_rows s.script) _ (all-pass-split (hash_rows s) _ h).1).0

  -- the group's, and those behind it
  pub late : AllPass (group_rows s) × AllPass (late_rows s)
  unfolding early_rows
  late = all-pass-split (group_rows s) _ (all-pass-split (script_rows s.script) _ (all-pass-split (hash_rows s) _ h).1).1

  pub transition : AllPass (transition_rows (operation s) (witness_sequence s) (state_since (operation s) (account s) s) (current s) (successor s))
  unfolding late_rows states_rows
  transition =
      let l = (all-pass-split (resolve_rows (operation s) (account s) s) _ late.1).1 in
      (all-pass-split (data_rows (current s) (successor s)) _ (all-pass-split (states_rows s) (other_rows s) l).0).1

  -- the rows of the current state pass
  pub state-passes : AllPass (state.state_rows (current s))
  unfolding transition_rows current_rows
  state-passes = (all-pass-split (state.state_rows (current s)) _ (all-pass-split (current_rows (witness_sequence s) (current s)) _ transition).0).0

  -- all other hashed witnesses fit
  pub others-fit : AllPass (other_rows s)
  unfolding late_rows
  others-fit = (all-pass-split (states_rows s) (other_rows s) (all-pass-split (resolve_rows (operation s) (account s) s) _ late.1).1).1

  -- ---- the threshold is above zero

  thresholds : Thresholds (current s)
  thresholds = state-thresholds (current s) state-passes

  -- only a recovery asks for recovery, and it is on then
  recovery-on : eqb (operation s) 1 ≡ false → eqb (operation s) 3 ≡ true → recovery_enabled (flags_of (current s)) ≡ true
  unfolding transition_rows succession_rows recovery_rows
  recovery-on p q =
      let c : AllPass (succession_rows (operation s) (state_since (operation s) (account s) s) (current s) (successor s)) =
      rw p at (all-pass-split (current_rows (witness_sequence s) (current s)) _ transition).1 in
      let r = (all-pass-split (successor_rows (current s) (successor s)) _ c).1 in
      (rw q at r).0

  -- so in the lock no threshold is 0: 28 is "approved weight below threshold" alone
  pub threshold-above : 0 < threshold_of (operation s) (current s)
  unfolding threshold_of is_operation
  threshold-above = go (eqb (operation s) 1) (eqb (operation s) 2) (eqb (operation s) 3) refl refl refl
    where
      go : (a b c : Bool) → eqb (operation s) 1 ≡ a → eqb (operation s) 2 ≡ b → eqb (operation s) 3 ≡ c
          → 0 < cond (eqb (operation s) 1) (spend_threshold_of (current s)) (cond (eqb (operation s) 2) (rotate_threshold_of (current s)) (recovery_threshold_of (current s)))
      go true b c p q r = rw p thresholds.spend
      go false true c p q r = rw (p, q) thresholds.rotate
      go false false true p q r = rw (p, q) (thresholds.recovery (recovery-on p r))
      go false false false p q r = absurd (true≢false (sym (rw (p, q, r) at (group-operation s late.0))))
