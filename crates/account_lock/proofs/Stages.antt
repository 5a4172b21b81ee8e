-- The lock's rows stage by stage, whatever finds what each stage finds.
-- Assumes nothing.
use Rattle.std.specs.Prelude.{Err, Ok}
use mathlib.Core.Path.{◌≡◌, refl}
use mathlib.Core.List.{List}
use mathlib.Core.Bool.{true}
use Prim.Native.Nat.{ℕ}
use Rattle.protocol.specs.Policy.{is_operation, operation_rows}
use Rattle.protocol.specs.Rows.{decide, ◌then◌, Check}
use Rattle.protocol.specs.declared.error.ProtocolError.{ProtocolError}
use Rattle.protocol.proofs.AllPass.{decide-both, then-assoc}
use Rattle.cell_hashes.specs.Hashes.{hash_rows}
use Rattle.scene_table.specs.Scene.{Scene}
use Rattle.group_sighash.specs.Witnesses.{group_rows, other_rows}
use Rattle.state_transition.specs.Resolve.{resolve_rows, resolved_of}
use Rattle.state_transition.specs.declared.resolve.ResolvedState.{ResolvedState}
use Rattle.account_lock.specs.Calls.{found_by}
use Rattle.account_lock.specs.Lock as lock

-- for an operation from 1 to 3 the search for the state finds what the lock's rows find
found-back : (k : Check) (f : ResolvedState) → found_by (k then Ok f) ≡ k
found-back (Ok _) f = refl
found-back (Err e) f = refl

pub resolved-found : (o : ℕ) (id : List ℕ) (s : Scene) → is_operation o ≡ true
    → found_by (resolved_of o id s) ≡ decide (Ok tt) (resolve_rows o id s)
unfolding resolved_of operation_rows decide
resolved-found o id s h = rw h (found-back (decide (Ok tt) (resolve_rows o id s)) _)

-- the result from the states on
abbrev pub late_result : Scene → ℕ → lock.Result
late_result s room = lock.or_walked (decide (Ok tt) (lock.late_rows s)) (lock.walk_result s room)

module _ (s : Scene) where
  pub late-found : {a b c : Check} → a ≡ decide (Ok tt) (resolve_rows (lock.operation s) (lock.account s) s) → b ≡ decide (Ok tt) (lock.states_rows s)
      → c ≡ decide (Ok tt) (other_rows s) → (a then b) then c ≡ decide (Ok tt) (lock.late_rows s)
  unfolding lock.late_rows
  late-found p q r = rw (p, q, r) (simp (decide-both, then-assoc))

  pub early-found : {a b c : Check} → a ≡ decide (Ok tt) (hash_rows s) → b ≡ decide (Ok tt) (lock.script_rows s.script) → c ≡ decide (Ok tt) (group_rows s)
      → decide (Ok tt) (lock.early_rows s) ≡ ((a then b) then c) then decide (Ok tt) (lock.late_rows s)
  unfolding lock.early_rows
  early-found p q r = rw (p, q, r) (simp (decide-both, then-assoc))

  pub scene-refused : (room : ℕ) {a b c : Check} (e : ProtocolError) → a ≡ decide (Ok tt) (hash_rows s) → b ≡ decide (Ok tt) (lock.script_rows s.script)
      → c ≡ decide (Ok tt) (group_rows s) → (a then b) then c ≡ Err e → lock.lock_scene s room ≡ lock.refused (Err e)
  unfolding lock.lock_scene lock.or_walked
  scene-refused room e p q r f = rw (early-found p q r, f)

  pub scene-late : (room : ℕ) {a b c : Check} → a ≡ decide (Ok tt) (hash_rows s) → b ≡ decide (Ok tt) (lock.script_rows s.script)
      → c ≡ decide (Ok tt) (group_rows s) → (a then b) then c ≡ Ok tt → lock.lock_scene s room ≡ late_result s room
  unfolding lock.lock_scene
  scene-late room p q r f = rw (early-found p q r, f)
