-- 02, change 9: an accepted transaction's inputs are worth its outputs and the fee, a refused one has no fee, and where the lock gives
-- 39 and 48.
-- Assumes nothing.
use Rattle.std.specs.Prelude.{Err, Ok}
use mathlib.Core.Path.{◌≡◌, refl, sym, ap, ◌∙◌}
use mathlib.Core.Logic.{◌↔◌, ◌⊎◌, inl, inr}
use mathlib.Core.Bool.{Bool, true, false, cond}
use mathlib.Core.List.{List}
use Prim.Native.Nat.{ℕ, ◌+◌, ◌-◌}
use lib.ListN.{length}
use Rattle.protocol.specs.Rows.{decide, check_number, Check}
use Rattle.protocol.specs.declared.error.ProtocolError.{ProtocolError}
use Rattle.protocol.specs.declared.error.ProtocolError.TheVariants.{SlicesDisagree}
use Rattle.protocol.proofs.AllPass.{failed-passed}
use Rattle.scene_table.specs.Scene.{Scene}
use Rattle.scene_table.specs.Lent.{scene_in}
use Rattle.scene_table.specs.Valid.{valid_table}
use Rattle.capacity.specs.Capacity.{input_total, output_total, capacity_rows, TotalAbove, OutputsExceed}
use Rattle.capacity.proofs.TotalsTheorem.{totals-above, totals-exceed, totals-balance}
use Rattle.account_lock.specs.declared.answer.LockAnswer.{LockAnswer}
use Rattle.account_lock.specs.Lock.{early_rows, Result, refused, walked, or_walked, walk_result, lock_scene, lock_of, answer_of}
use Rattle.account_lock.specs.Decides.{EarlierPass, LockQuorum, LockOutcome}
use Rattle.lock_theorems.specs.Fee.{QuorumStands}
use Rattle.lock_theorems.specs.Numbers.{last_numbers}
use Rattle.account_lock.proofs.LockTheorem.{lock-decision}
use Rattle.lock_theorems.proofs.OneOf.{one_of, one-of-member, one-of-within, not-one-of}
use Rattle.lock_theorems.proofs.WalkNumbers.{totals_numbers}
use Rattle.lock_theorems.proofs.Unsatisfied.{lock-last, quorum-found, quorum-or-none, lock-unsatisfied}

-- the fee of a result is its scene's where it accepts, else 0
record FeeGiven (s : Scene) (r : Result) : Type 0 where
  accepted : r.found ≡ Ok tt → r.fee ≡ input_total s - output_total s
  refused : (e : ProtocolError) → r.found ≡ Err e → r.fee ≡ 0

refused-given : (s : Scene) (e : ProtocolError) → FeeGiven s (refused (Err e))
unfolding refused
refused-given s e = record { accepted = λ h. failed-passed e h; refused = λ x h. refl }

walked-given : (s : Scene) (room : ℕ) → FeeGiven s (walk_result s room)
unfolding walk_result walked
walked-given s room = record { accepted = λ h. rw h; refused = λ e h. rw h }

or-given : (s : Scene) (k : Check) (w : Result) → FeeGiven s w → FeeGiven s (or_walked k w)
unfolding or_walked
or-given s (Ok _) w g = g
or-given s (Err e) w g = refused-given s e

module _ (table store : List ℕ) (room : ℕ) where
  lock-given : FeeGiven (scene_in table store) (lock_of table store room)
  unfolding lock_of lock_scene
  lock-given = go (valid_table table (length store))
    where
      s : Scene
      s = scene_in table store

      go : (b : Bool) → FeeGiven s (cond b (lock_scene s room) (refused (Err SlicesDisagree)))
      go true = or-given s (decide (Ok tt) (early_rows s)) (walk_result s room) (walked-given s room)
      go false = refused-given s SlicesDisagree

  -- where the lock accepts, the capacity of all inputs is that of all outputs and the fee, as whole numbers
  pub result-balance : (lock_of table store room).found ≡ Ok tt
      → input_total (scene_in table store) ≡ output_total (scene_in table store) + (lock_of table store room).fee
  result-balance e =
      let totals = ((lock-decision table store room).0 e).2 in
      totals-balance (scene_in table store) totals ∙ rw (lock-given.accepted e)

  -- ---- 39 and 48

  -- a number of the totals is given where a quorum stands
  totals-stand : (n : ℕ) → one_of totals_numbers n ≡ true → check_number (lock_of table store room).found ≡ n
      → QuorumStands table store room × (check_number (decide (Ok tt) (capacity_rows (scene_in table store))) ≡ n)
  totals-stand n o h =
      let pass = (lock-last table store room).0 (one-of-member last_numbers (check_number (lock_of table store room).found) (rw h (one-of-within totals_numbers last_numbers n refl o))) in
      go pass (quorum-or-none table store room pass)
    where
      go : EarlierPass table store room → LockQuorum table store room ⊎ ¬ LockQuorum table store room
          → QuorumStands table store room × (check_number (decide (Ok tt) (capacity_rows (scene_in table store))) ≡ n)
      go pass (inl q) = ((pass, q), rw (quorum-found table store room pass q) at h)
      go pass (inr x) = absurd (not-one-of totals_numbers n 28 o refl (sym h ∙ (lock-unsatisfied table store room).1 (pass, x)))

  -- the lock gives 39 exactly where every earlier row passes, a quorum stands, and a total is above what a u64 holds
  pub lock-thirty-nine : (check_number (lock_of table store room).found ≡ 39) ↔ (QuorumStands table store room × TotalAbove (scene_in table store))
  lock-thirty-nine = (
    λ h. let z = totals-stand 39 refl h in (z.0, (totals-above (scene_in table store)).0 z.1),
    λ h. rw (quorum-found table store room h.0.0 h.0.1) ((totals-above (scene_in table store)).1 h.1),
  )

  -- and 48 exactly where neither is, and the outputs exceed the inputs
  pub lock-forty-eight : (check_number (lock_of table store room).found ≡ 48) ↔ (QuorumStands table store room × OutputsExceed (scene_in table store))
  lock-forty-eight = (
    λ h. let z = totals-stand 48 refl h in (z.0, (totals-exceed (scene_in table store)).0 z.1),
    λ h. rw (quorum-found table store room h.0.0 h.0.1) ((totals-exceed (scene_in table store)).1 h.1),
  )

-- ---- the fee of an answer

module _ (table store before : List ℕ) (r : LockAnswer) (o : LockOutcome table store before r) where
  found-given : (lock_of table store (length before)).found ≡ r.found
  unfolding answer_of
  found-given = sym (ap (λ (a : LockAnswer). a.found) o)

  fee-given : r.fee ≡ (lock_of table store (length before)).fee
  unfolding answer_of
  fee-given = ap (λ (a : LockAnswer). a.fee) o

  -- that of an acceptance balances
  pub fee-balance : r.found ≡ Ok tt → input_total (scene_in table store) ≡ output_total (scene_in table store) + r.fee
  fee-balance h = rw fee-given (result-balance table store (length before) (found-given ∙ h))

  -- and a refusal has none
  pub fee-none : (e : ProtocolError) → r.found ≡ Err e → r.fee ≡ 0
  fee-none e h = fee-given ∙ (lock-given table store (length before)).refused e (found-given ∙ h)
