-- Every scene that a text can say and that passes every row before the proofs' reaches its digest, and no other scene reaches one.
-- Assumes nothing.
use mathlib.Core.Path.{◌≡◌, refl, ap}
use mathlib.Core.Logic.{◌↔◌, inl}
use mathlib.Core.Bool.{true}
use mathlib.Core.List.{List, []}
use Prim.Native.Nat.{ℕ}
use lib.ListN.{length}
use Rattle.octets.specs.Le.{Bytes}
use Rattle.protocol.specs.Rows.{AllPass}
use Rattle.scene_table.specs.Scene.{Scene}
use Rattle.scene_table.specs.Lent.{scene_in}
use Rattle.scene_table.specs.Valid.{scene_ok, valid_table}
use Rattle.account_lock.specs.Lock as lock
use Rattle.lock_theorems.proofs.DigestTheorem.{early-walked}
use Rattle.digest_coverage.specs.Reaches.{LockReaches, Reaches, HasDigest}
use Rattle.digest_coverage.proofs.HasDigest.{has-digest}
use Rattle.digest_coverage.proofs.StoredScene.{own_table, own_store, own-bytes, own-valid, own-scene}

-- in lent memory, whatever the answer buffer
pub lent-reaches : (table store buffer : List ℕ) → Bytes store → valid_table table (length store) ≡ true → AllPass (lock.early_rows (scene_in table store))
    → LockReaches (scene_in table store) (lock.digest (scene_in table store))
unfolding lock.answer_of lock.walk_result lock.walked
lent-reaches table store buffer bytes valid early =
    let w = early-walked table store (length buffer) valid early in
    record {
      table = table;
      store = store;
      buffer = buffer;
      answer = lock.answer_of (lock.lock_of table store (length buffer));
      bytes = bytes;
      scene = refl;
      outcome = refl;
      reached = ap (λ (r : lock.Result). r.reached) w;
      digest = ap (λ (r : lock.Result). r.digest) w;
    }

-- and so every such scene
pub early-reaches : (s : Scene) → scene_ok s ≡ true → AllPass (lock.early_rows s) → Reaches s (lock.digest s)
early-reaches s ok early =
    let held = own-scene s ok in
    let passes : AllPass (lock.early_rows (scene_in (own_table s ok) (own_store s ok))) = rw held early in
    let reaches = lent-reaches (own_table s ok) (own_store s ok) [] (own-bytes s ok) (own-valid s ok) passes in
    inl (rw held at reaches)

-- the scenes that reach a digest
pub reaches-exactly : (s : Scene) (d : List ℕ) → Reaches s d ↔ HasDigest s d
reaches-exactly s d = (has-digest s d, λ h. rw h.digest (early-reaches s h.scene h.early))
