-- What the lock gives where every earlier row passes: 28 exactly where there is no quorum, and with one what the totals give. So its
-- number is 0, 28, 39 or 48 exactly where every earlier row passes.
-- Assumes nothing.
use Rattle.std.specs.Prelude.{Err, Ok}
use mathlib.Core.Path.{◌≡◌, refl, sym, ap, ◌∙◌}
use mathlib.Core.Logic.{◌↔◌, ◌⊎◌, inl, inr}
use mathlib.Core.Bool.{Bool, true, false, cond, false≢true}
use mathlib.Core.List.Memᴰ
use mathlib.Core.List.{List, [], ◌∷◌}
use Prim.Native.Nat.{ℕ}
use lib.ListN.{length}
use Rattle.protocol.specs.Errors.{error_number}
use Rattle.protocol.specs.Rows.{decide, check_number, Check}
use Rattle.protocol.specs.declared.error.ProtocolError.TheVariants.{SlicesDisagree}
use Rattle.protocol.proofs.ErrorNumbers.{not-0}
use Rattle.protocol.proofs.AllPass.{passed-all-pass, decide-failed, failed-passed}
use Rattle.protocol.proofs.Each.{Refuses}
use Rattle.scene_table.specs.Scene.{Scene}
use Rattle.scene_table.specs.Lent.{scene_in}
use Rattle.scene_table.specs.Valid.{valid_table}
use Rattle.capacity.specs.Capacity.{capacity_rows}
use Rattle.decision.specs.Walk.{walk_lock}
use Rattle.decision.proofs.Quorum.{ZeroOr28}
use Rattle.decision.proofs.DecisionTheorem as walk
use Rattle.account_lock.specs.Lock.{witness_lock, early_rows, context_of, Result, refused, walked, or_walked, walk_result, lock_scene, lock_of}
use Rattle.account_lock.specs.Decides.{EarlierPass, LockQuorum}
use Rattle.lock_theorems.specs.Numbers.{last_numbers, LastNumber}
use Rattle.lock_theorems.proofs.DigestTheorem.{early-walked}
use Rattle.lock_theorems.proofs.OneOf.{one-of-member, member-one-of, one-of-within, one-of-shared, Among, given-refuses, given-one-of, never-given}
use Rattle.lock_theorems.proofs.EarlyNumbers.{early_numbers, early-gives}
use Rattle.lock_theorems.proofs.WalkNumbers.{proofs_numbers, totals_numbers, scene-walk, totals-give}

-- no row before the proofs gives one of them
early-last : (k : Check) (w : Result) → Refuses (Among early_numbers) k → LastNumber (check_number (or_walked k w).found)
    → (k ≡ Ok tt) × LastNumber (check_number w.found)
unfolding or_walked refused
early-last (Ok _) w r h = (refl, h)
early-last (Err e) w r h = absurd (false≢true (one-of-shared early_numbers last_numbers [] (error_number e) refl r (member-one-of last_numbers (error_number e) h)))

module _ (s : Scene) where
  -- where the walk and the totals give one of them, the walk gives 0 or 28,
  walk-last : (k : Check) → Refuses (Among proofs_numbers) k → LastNumber (check_number (decide k (capacity_rows s))) → ZeroOr28 (check_number k)
  walk-last (Ok _) r h = inl refl
  walk-last (Err e) r h =
      let last = member-one-of last_numbers (error_number e) (rw (decide-failed (capacity_rows s) e) at h) in
      inr (Memᴰ.eq_of_singleton (one-of-member (28 ∷ []) (error_number e) (one-of-shared proofs_numbers last_numbers (28 ∷ []) (error_number e) refl r last)))

  -- and the other way round
  last-walk : (k : Check) → ZeroOr28 (check_number k) → LastNumber (check_number (decide k (capacity_rows s)))
  last-walk (Ok _) h =
      let n = check_number (decide (Ok tt) (capacity_rows s)) in
      one-of-member last_numbers n (one-of-within (0 ∷ totals_numbers) last_numbers n refl (given-one-of (totals-give s)))
  last-walk (Err e) h = rw (decide-failed (capacity_rows s) e) (go h)
    where
      go : ZeroOr28 (error_number e) → LastNumber (error_number e)
      go (inl z) = Memᴰ.head z
      go (inr z) = Memᴰ.tail (Memᴰ.head z)

module _ (table store : List ℕ) (room : ℕ) where
  -- the lock's number is 0, 28, 39 or 48 exactly where every earlier row passes
  pub lock-last : LastNumber (check_number (lock_of table store room).found) ↔ EarlierPass table store room
  unfolding lock_of lock_scene refused walk_result walked
  lock-last = (there (valid_table table (length store)) refl, back)
    where
      there : (b : Bool) → valid_table table (length store) ≡ b
          → LastNumber (check_number (cond b (lock_scene (scene_in table store) room) (refused (Err SlicesDisagree))).found)
          → EarlierPass table store room
      there true v h =
          let s = scene_in table store in
          let z = early-last (decide (Ok tt) (early_rows s)) (walk_result s room) (given-refuses (early-gives s)) h in
          let early = passed-all-pass (early_rows s) z.0 in
          let w = (walk_lock (context_of s room) (witness_lock s)).found in
          let proofs = (walk.witness-zero-or-28 (context_of s room) (witness_lock s)).0 (walk-last s w (scene-walk s room early) z.1) in
          record { valid = v; early = early; proofs = proofs }
      there false v h = absurd (false≢true (member-one-of last_numbers 7 h))

      back : EarlierPass table store room → LastNumber (check_number (lock_of table store room).found)
      back h =
          let s = scene_in table store in
          let w = (walk_lock (context_of s room) (witness_lock s)).found in
          rw (early-walked table store room h.valid h.early)
          (last-walk s w ((walk.witness-zero-or-28 (context_of s room) (witness_lock s)).1 h.proofs))

  module _ (pass : EarlierPass table store room) where
    abbrev s : Scene
    s = scene_in table store

    abbrev w : Check
    w = (walk_lock (context_of s room) (witness_lock s)).found

    found : (lock_of table store room).found ≡ decide w (capacity_rows s)
    unfolding walk_result walked
    found = ap (λ (r : Result). r.found) (early-walked table store room pass.valid pass.early)

    -- with a quorum the totals decide
    pub quorum-found : LockQuorum table store room → (lock_of table store room).found ≡ decide (Ok tt) (capacity_rows s)
    quorum-found q =
        found ∙ ap (λ (k : Check). decide k (capacity_rows s)) ((walk.witness-decides (context_of s room) (witness_lock s)).1 (pass.proofs, q))

    -- and without one it is 28
    no-quorum : ¬ LockQuorum table store room → check_number (lock_of table store room).found ≡ 28
    no-quorum n = go w refl ((walk.witness-zero-or-28 (context_of s room) (witness_lock s)).1 pass.proofs)
      where
        go : (k : Check) → w ≡ k → ZeroOr28 (check_number w) → check_number (lock_of table store room).found ≡ 28
        go (Ok _) e h = absurd (n ((walk.witness-decides (context_of s room) (witness_lock s)).0 e).1)
        go (Err x) e (inl h) = absurd (not-0 x (rw e at h))
        go (Err x) e (inr h) = rw (found, e, decide-failed (capacity_rows s) x) (rw e at h)

    -- one of the two it is
    pub quorum-or-none : LockQuorum table store room ⊎ ¬ LockQuorum table store room
    quorum-or-none = go w refl
      where
        go : (k : Check) → w ≡ k → LockQuorum table store room ⊎ ¬ LockQuorum table store room
        go (Ok _) e = inl ((walk.witness-decides (context_of s room) (witness_lock s)).0 e).1
        go (Err x) e = inr (λ q. failed-passed x (sym e ∙ (walk.witness-decides (context_of s room) (witness_lock s)).1 (pass.proofs, q)))

  -- 28 exactly where every earlier row passes and there is no quorum
  pub lock-unsatisfied : (check_number (lock_of table store room).found ≡ 28) ↔ (EarlierPass table store room × ¬ LockQuorum table store room)
  lock-unsatisfied = (there, λ h. no-quorum h.0 h.1)
    where
      there : check_number (lock_of table store room).found ≡ 28 → EarlierPass table store room × ¬ LockQuorum table store room
      there h =
          let s = scene_in table store in
          let pass = lock-last.0 (Memᴰ.tail (Memᴰ.head h)) in
          (pass, λ q. never-given 28 (totals-give s) refl (rw (quorum-found pass q) at h))
