-- A number that only some rows of the lock give: where the lock gives it.
-- Assumes nothing.
use Rattle.std.specs.Prelude.{Err, Ok}
use mathlib.Core.Path.{◌≡◌, refl}
use mathlib.Core.Logic.{◌≢◌, ◌↔◌}
use mathlib.Core.Bool.{Bool, true, false, cond, false≢true}
use mathlib.Core.List.{List, ◌∷◌, ◌++◌}
use Prim.Native.Nat.{ℕ}
use lib.ListN.{length}
use Rattle.protocol.specs.Rows.{decide, check_number, Check}
use Rattle.protocol.specs.declared.error.ProtocolError.TheVariants.{SlicesDisagree}
use Rattle.protocol.proofs.AllPass.{passed-all-pass}
use Rattle.scene_table.specs.Scene.{Scene}
use Rattle.scene_table.specs.Lent.{scene_in}
use Rattle.scene_table.specs.Valid.{valid_table}
use Rattle.account_lock.specs.Lock.{early_rows, refused, or_walked, walk_result, lock_scene, lock_of}
use Rattle.lock_theorems.proofs.OneOf.{one_of, not-one-of, one-of-within}
use Rattle.lock_theorems.proofs.WalkNumbers.{proofs_numbers, totals_numbers, walked-one-of}

-- what the lock gives where no row before the proofs refuses, and the table's 7
abbrev pub later_numbers : List ℕ
later_numbers = 0 ∷ 7 ∷ (proofs_numbers ++ totals_numbers)

-- a number that is none of these
module _ (n : ℕ) (other : one_of later_numbers n ≡ false) where
  later-not : (m : ℕ) → one_of later_numbers m ≡ true → m ≢ n
  later-not m h = not-one-of later_numbers m n h other

  -- over a scene it is of the rows before the proofs
  scene-own : (s : Scene) (room : ℕ) → (check_number (lock_scene s room).found ≡ n) ↔ (check_number (decide (Ok tt) (early_rows s)) ≡ n)
  unfolding lock_scene or_walked refused
  scene-own s room = go (decide (Ok tt) (early_rows s)) refl
    where
      go : (k : Check) → decide (Ok tt) (early_rows s) ≡ k
          → (check_number (or_walked k (walk_result s room)).found ≡ n) ↔ (check_number k ≡ n)
      go (Ok _) e =
          let w = walked-one-of s room (passed-all-pass (early_rows s) e) in
          let m = check_number (walk_result s room).found in
          (λ q. absurd (later-not m (one-of-within (0 ∷ (proofs_numbers ++ totals_numbers)) later_numbers m refl w) q), λ q. absurd (later-not 0 refl q))
      go (Err e) _ = (λ q. q, λ q. q)

  -- and the table has passed its test
  pub lock-own : (table store : List ℕ) (room : ℕ)
      → (check_number (lock_of table store room).found ≡ n)
      ↔ ((valid_table table (length store) ≡ true) × (check_number (decide (Ok tt) (early_rows (scene_in table store))) ≡ n))
  unfolding lock_of refused
  lock-own table store room = go (valid_table table (length store))
    where
      s : Scene
      s = scene_in table store

      go : (b : Bool)
          → (check_number (cond b (lock_scene s room) (refused (Err SlicesDisagree))).found ≡ n)
          ↔ ((b ≡ true) × (check_number (decide (Ok tt) (early_rows s)) ≡ n))
      go true = (λ q. (refl, (scene-own s room).0 q), λ h. (scene-own s room).1 h.1)
      go false = (λ q. absurd (later-not 7 refl q), λ h. absurd (false≢true h.0))
