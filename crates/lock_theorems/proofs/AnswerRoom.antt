-- 01: "an answer buffer of 148,992 bytes (enough for any)": with that many bytes the lock never gives 5, whatever table and store it
-- is lent.
-- Assumes nothing.
use Rattle.std.specs.Prelude.{Err, Ok}
use mathlib.Core.Path.{◌≡◌, refl}
use mathlib.Core.Logic.{◌≢◌}
use mathlib.Core.Bool.{Bool, true, false, cond}
use mathlib.Core.List.{List}
use Prim.Native.Nat.{ℕ, ◌≤◌}
use native.Mathlib.Omega.{arith}
use lib.ListN.{length}
use Rattle.protocol.specs.Errors.{error_number}
use Rattle.protocol.specs.Rows.{decide, AllPass, check_number, Check}
use Rattle.protocol.specs.declared.error.ProtocolError.TheVariants.{SlicesDisagree}
use Rattle.protocol.proofs.AllPass.{passed-all-pass, decide-failed}
use Rattle.protocol.proofs.Each.{each-failed}
use Rattle.authorization.specs.Digest.{digest_of}
use Rattle.scene_table.specs.Scene.{Scene}
use Rattle.scene_table.specs.Lent.{scene_in}
use Rattle.scene_table.specs.Valid.{valid_table}
use Rattle.capacity.specs.Capacity.{capacity_rows}
use Rattle.decision.specs.Proofs.{context_for}
use Rattle.decision.proofs.RoomEnough.{state-aux, witness-room}
use Rattle.protocol.specs.Limits.{answer_buffer_length}
use Rattle.account_lock.specs.Lock.{witness_lock, current, digest, early_rows, context_of, refused, walked, or_walked, walk_result, lock_scene, lock_of}
use Rattle.lock_theorems.proofs.Passes.{group-length, group-count, late, state-passes}
use Rattle.blake2b.proofs.Bytes.{length-hash}
use Rattle.lock_theorems.proofs.OneOf.{Among, never-given, not-one-of}
use Rattle.lock_theorems.proofs.EarlyNumbers.{early_numbers, early-gives}
use Rattle.lock_theorems.proofs.WalkNumbers.{totals-give}

-- the totals do not give 5
totals-never-five : (s : Scene) (k : Check) → check_number k ≢ 5 → check_number (decide k (capacity_rows s)) ≢ 5
totals-never-five s (Ok _) n q = never-given 5 (totals-give s) refl q
totals-never-five s (Err e) n q = n (rw (decide-failed (capacity_rows s) e) at q)

-- where the early rows pass, the walk has room for every request
early-room : (s : Scene) (room : ℕ) → answer_buffer_length ≤ room → AllPass (early_rows s) → check_number (walk_result s room).found ≢ 5
unfolding walk_result walked context_of context_for digest digest_of
early-room s room r h =
    let group = (late s h).0 in
    totals-never-five s _
    (witness-room (context_of s room) (witness_lock s) (length-hash _) (state-aux (current s) (state-passes s h)) (group-length s group) (group-count s group) r)

-- a scene with 148,992 bytes for the answer is never refused with 5
scene-never-five : (s : Scene) (room : ℕ) → answer_buffer_length ≤ room → check_number (lock_scene s room).found ≢ 5
unfolding lock_scene or_walked refused
scene-never-five s room r = go (decide (Ok tt) (early_rows s)) refl
  where
    go : (k : Check) → decide (Ok tt) (early_rows s) ≡ k → check_number (or_walked k (walk_result s room)).found ≢ 5
    go (Ok _) h = early-room s room r (passed-all-pass (early_rows s) h)
    go (Err e) h = not-one-of early_numbers (error_number e) 5 (each-failed (Among early_numbers) (early_rows s) e (early-gives s).each h) refl

-- nor is any table and store: an invalid table is 7
pub lock-never-five : (table store : List ℕ) (room : ℕ) → answer_buffer_length ≤ room → check_number (lock_of table store room).found ≢ 5
unfolding lock_of refused
lock-never-five table store room r = go (valid_table table (length store))
  where
    go : (b : Bool) → check_number (cond b (lock_scene (scene_in table store) room) (refused (Err SlicesDisagree))).found ≢ 5
    go true = scene-never-five (scene_in table store) room r
    go false = λ z. omega arith
