-- Demand 3: the lock accepts exactly where every earlier row passes, a quorum of the current state approves, and the totals pass.
-- Assumes nothing.
use Rattle.std.specs.Prelude.{Err, Ok}
use mathlib.Core.Path.{◌≡◌, refl, sym, ap, ◌∙◌}
use mathlib.Core.Logic.{◌↔◌}
use mathlib.Core.Bool.{Bool, true, false, cond}
use mathlib.Core.List.{List}
use Prim.Native.Nat.{ℕ}
use lib.ListN.{length}
use Rattle.protocol.specs.Rows.{decide, Check}
use Rattle.protocol.proofs.AllPass.{passed-all-pass, all-pass-passed, failed-passed, decide-then, then-passed}
use Rattle.protocol.specs.declared.error.ProtocolError.TheVariants.{SlicesDisagree}
use Rattle.scene_table.specs.Lent.{scene_in}
use Rattle.scene_table.specs.Valid.{valid_table}
use Rattle.capacity.specs.Capacity.{capacity_rows, TotalsPass}
use Rattle.capacity.proofs.TotalsTheorem.{totals-pass}
use Rattle.decision.specs.Proofs.{context_for}
use Rattle.decision.proofs.DecisionTheorem.{witness-decides}
use Rattle.account_lock.specs.Lock.{witness_lock, early_rows, context_of, Result, refused, walked, or_walked, walk_result, lock_scene, lock_of, answer_of}
use Rattle.account_lock.specs.declared.answer.LockAnswer.{LockAnswer}
use Rattle.account_lock.specs.Decides.{EarlierPass, LockQuorum, LockOutcome, LockDecision}

-- ---- what an acceptance follows from

module _ (table store : List ℕ) (room : ℕ) where
  -- an accepting result comes from the walk
  accepted-walk : (k : Check) (w : Result) → (or_walked k w).found ≡ Ok tt → (k ≡ Ok tt) × (w.found ≡ Ok tt)
  unfolding or_walked refused
  accepted-walk (Ok _) w e = (refl, e)
  accepted-walk (Err x) w e = failed-passed x e

  accepted : (lock_scene (scene_in table store) room).found ≡ Ok tt → valid_table table (length store) ≡ true
      → EarlierPass table store room × LockQuorum table store room × TotalsPass (scene_in table store)
  unfolding lock_scene walk_result walked context_of context_for
  accepted e v =
      let s = scene_in table store in
      let z = accepted-walk (decide (Ok tt) (early_rows s)) (walk_result s room) e in
      let early = passed-all-pass (early_rows s) z.0 in
      let w = then-passed _ _ (sym (decide-then _ (capacity_rows s)) ∙ z.1) in
      let d = (witness-decides (context_of s room) (witness_lock s)).0 w.0 in
      let totals = (totals-pass s).0 (passed-all-pass (capacity_rows s) w.1) in
      (record { valid = v; early = early; proofs = d.0 }, d.1, totals)

  pub lock-decision : ((lock_of table store room).found ≡ Ok tt)
      ↔ (EarlierPass table store room × LockQuorum table store room × TotalsPass (scene_in table store))
  unfolding lock_of lock_scene or_walked walk_result walked context_of context_for refused
  lock-decision = (there (valid_table table (length store)) refl, back)
    where
      there : (b : Bool) → valid_table table (length store) ≡ b
          → (cond b (lock_scene (scene_in table store) room) (refused (Err SlicesDisagree))).found ≡ Ok tt
          → EarlierPass table store room × LockQuorum table store room × TotalsPass (scene_in table store)
      there true v e = accepted e v
      there false v e = failed-passed SlicesDisagree e

      back : EarlierPass table store room × LockQuorum table store room × TotalsPass (scene_in table store) → (lock_of table store room).found ≡ Ok tt
      back h =
          let s = scene_in table store in
          rw
          (h.0.valid, all-pass-passed (early_rows s) h.0.early, (witness-decides (context_of s room) (witness_lock s)).1 (h.0.proofs, h.1))
          (all-pass-passed (capacity_rows s) ((totals-pass s).1 h.2))

-- ---- what the lock promises, from what it found of its table

pub lock-decided : (table store before : List ℕ) {r : LockAnswer} → LockOutcome table store before r → LockDecision table store before r
unfolding answer_of
lock-decided table store before e =
    let f = ap (λ (x : LockAnswer). x.found) e in
    let d = lock-decision table store (length before) in
    (λ h. d.0 (sym f ∙ h), λ q. f ∙ d.1 q)

module _ (table store : List ℕ) (room : ℕ) where
  pub lock-valid : valid_table table (length store) ≡ true → lock_of table store room ≡ lock_scene (scene_in table store) room
  unfolding lock_of
  lock-valid v = rw v

  pub lock-invalid : valid_table table (length store) ≡ false → lock_of table store room ≡ refused (Err SlicesDisagree)
  unfolding lock_of
  lock-invalid v = rw v

pub ruleset promises = (lock-valid, lock-invalid, lock-decision)
