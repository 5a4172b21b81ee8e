-- The lock gives 40 exactly where the table passes its test and a cell's hash differs.
-- Assumes nothing.
use Rattle.std.specs.Prelude.{Err, Ok}
use mathlib.Core.Path.{◌≡◌, refl}
use mathlib.Core.Logic.{◌≢◌, ◌↔◌}
use mathlib.Core.Bool.{true}
use mathlib.Core.List.Memᴰ
use mathlib.Core.List.{List, []}
use Prim.Native.Nat.{ℕ}
use native.Mathlib.Omega.{arith}
use lib.ListN.{length}
use Rattle.protocol.specs.Rows.{AllPass, decide, check_number, Check}
use Rattle.protocol.proofs.AllPass.{passed-all-pass, all-pass-passed}
use Rattle.protocol.proofs.Each.{Refuses}
use Rattle.protocol.proofs.GivenNumber.{given-between}
use Rattle.scene_table.specs.Scene.{Scene}
use Rattle.scene_table.specs.Lent.{scene_in}
use Rattle.scene_table.specs.Valid.{valid_table}
use Rattle.cell_hashes.specs.Hashes.{hash_rows}
use Rattle.account_lock.specs.Lock as lock
use Rattle.lock_theorems.proofs.OneOf.{Among, one-of-member, given-refuses, never-given}
use Rattle.lock_theorems.proofs.EarlyNumbers.{hash_numbers, behind_rows, hashes-give, behind-gives}
use Rattle.lock_theorems.proofs.OwnNumber.{lock-own}

module _ (s : Scene) where
  -- the rows of the hashes give 40 or nothing
  hashes-40 : (check_number (decide (Ok tt) (hash_rows s)) ≡ 40) ↔ ¬ AllPass (hash_rows s)
  hashes-40 = (λ q h. differ q (all-pass-passed (hash_rows s) h), back (decide (Ok tt) (hash_rows s)) refl (given-refuses (hashes-give s)))
    where
      differ : check_number (decide (Ok tt) (hash_rows s)) ≡ 40 → decide (Ok tt) (hash_rows s) ≡ Ok tt → ⊥
      differ q p = let z : ◌≡◌ {A = ℕ} 0 40 = rw p at q in omega arith

      back : (k : Check) → decide (Ok tt) (hash_rows s) ≡ k → Refuses (Among hash_numbers) k → ¬ AllPass (hash_rows s) → check_number k ≡ 40
      back (Ok _) e r n = absurd (n (passed-all-pass (hash_rows s) e))
      back (Err x) e r n = Memᴰ.eq_of_singleton (one-of-member hash_numbers _ r)

  -- those behind them do not give it
  early-40 : (check_number (decide (Ok tt) (lock.early_rows s)) ≡ 40) ↔ ¬ AllPass (hash_rows s)
  unfolding lock.early_rows decide
  early-40 =
      let none : check_number (decide (Ok tt) []) ≢ 40 = λ q. omega arith in
      let b = given-between 40 (omega arith) [] (hash_rows s) (behind_rows s) none (never-given 40 (behind-gives s) refl) in
      (λ q. hashes-40.0 (b.0 q).1, λ n. b.1 (tt, hashes-40.1 n))

module _ (table store : List ℕ) (room : ℕ) where
  pub lock-forty : (check_number (lock.lock_of table store room).found ≡ 40)
      ↔ ((valid_table table (length store) ≡ true) × ¬ AllPass (hash_rows (scene_in table store)))
  lock-forty =
      let o = lock-own 40 refl table store room in
      let e = early-40 (scene_in table store) in
      (λ q. ((o.0 q).0, e.0 (o.0 q).1), λ h. o.1 (h.0, e.1 h.1))
