-- The numbers that the lock gives, for every table, store and answer buffer. So it never gives 6, and 7 only where the table fails its
-- test.
-- Assumes nothing.
use Rattle.std.specs.Prelude.{Err, Ok}
use mathlib.Core.Path.{◌≡◌, refl}
use mathlib.Core.Logic.{◌≢◌, ◌↔◌}
use mathlib.Core.Bool.{Bool, true, false, cond, true≢false}
use mathlib.Core.List.{List, ◌∷◌, ◌++◌}
use Prim.Native.Nat.{ℕ}
use lib.ListN.{length}
use Rattle.protocol.specs.Errors.{error_number}
use Rattle.protocol.specs.Rows.{decide, check_number, Check}
use Rattle.protocol.specs.declared.error.ProtocolError.TheVariants.{SlicesDisagree}
use Rattle.protocol.proofs.AllPass.{passed-all-pass}
use Rattle.protocol.proofs.Each.{Refuses}
use Rattle.scene_table.specs.Scene.{Scene}
use Rattle.scene_table.specs.Lent.{scene_in}
use Rattle.scene_table.specs.Valid.{valid_table}
use Rattle.account_lock.specs.Lock.{early_rows, refused, or_walked, walk_result, lock_scene, lock_of}
use Rattle.lock_theorems.specs.Numbers.{lock_numbers, LockNumber}
use Rattle.lock_theorems.proofs.OneOf.{one_of, one-of-member, member-one-of, not-one-of, one-of-within, Among, found-one-of, given-refuses}
use Rattle.lock_theorems.proofs.EarlyNumbers.{early_numbers, early-gives}
use Rattle.lock_theorems.proofs.WalkNumbers.{proofs_numbers, totals_numbers, walked-one-of}

-- what the lock gives over a scene
abbrev scene_numbers : List ℕ
scene_numbers = 0 ∷ (early_numbers ++ (proofs_numbers ++ totals_numbers))

scene-one-of : (s : Scene) (room : ℕ) → one_of scene_numbers (check_number (lock_scene s room).found) ≡ true
unfolding lock_scene or_walked refused
scene-one-of s room = go (decide (Ok tt) (early_rows s)) refl (given-refuses (early-gives s))
  where
    go : (k : Check) → decide (Ok tt) (early_rows s) ≡ k → Refuses (Among early_numbers) k
        → one_of scene_numbers (check_number (or_walked k (walk_result s room)).found) ≡ true
    go (Ok _) q h = one-of-within (0 ∷ (proofs_numbers ++ totals_numbers)) scene_numbers (check_number (walk_result s room).found) refl (walked-one-of s room (passed-all-pass (early_rows s) q))
    go (Err e) q h = one-of-within (0 ∷ early_numbers) scene_numbers (error_number e) refl (found-one-of early_numbers (Err e) h)

module _ (table store : List ℕ) (room : ℕ) where
  -- every number that the lock gives is one of the list
  pub lock-numbers : LockNumber (check_number (lock_of table store room).found)
  unfolding lock_of refused
  lock-numbers = go (valid_table table (length store))
    where
      go : (b : Bool) → LockNumber (check_number (cond b (lock_scene (scene_in table store) room) (refused (Err SlicesDisagree))).found)
      go true =
          let n = check_number (lock_scene (scene_in table store) room).found in
          one-of-member lock_numbers n (one-of-within scene_numbers lock_numbers n refl (scene-one-of (scene_in table store) room))
      go false = one-of-member lock_numbers 7 refl

  -- 7 is given exactly where the table fails its test
  pub lock-seven : (check_number (lock_of table store room).found ≡ 7) ↔ (valid_table table (length store) ≡ false)
  unfolding lock_of refused
  lock-seven = go (valid_table table (length store))
    where
      go : (b : Bool)
          → (check_number (cond b (lock_scene (scene_in table store) room) (refused (Err SlicesDisagree))).found ≡ 7) ↔ (b ≡ false)
      go true = (
        λ q. absurd (not-one-of scene_numbers (check_number (lock_scene (scene_in table store) room).found) 7 (scene-one-of (scene_in table store) room) refl q),
        λ e. absurd (true≢false e),
      )
      go false = (λ q. refl, λ e. refl)

  -- the lock never gives 6
  pub lock-never-six : check_number (lock_of table store room).found ≢ 6
  lock-never-six =
      let n = check_number (lock_of table store room).found in
      not-one-of lock_numbers n 6 (member-one-of lock_numbers n lock-numbers) refl
