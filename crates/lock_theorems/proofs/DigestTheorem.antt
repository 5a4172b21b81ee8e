-- The digest is document 01's: CKB's hash of the domain, the operation, the account id, the sequence, the hash of the state and
-- the sighash, itself CKB's hash of the transaction hash and the hashed witnesses; so wherever the lock reaches it, with any table
-- and store, also where a later row refuses.
-- Assumes nothing.
use Rattle.std.specs.Prelude.{Err, Ok}
use mathlib.Core.Path.{◌≡◌, refl, sym, ap, ◌∙◌}
use mathlib.Core.Bool.{Bool, true, false, cond, true≢false}
use mathlib.Core.List.{List}
use Prim.Native.Nat.{ℕ, ◌≤◌}
use native.Mathlib.Omega.{arith}
use lib.Dec.{leb}
use lib.ListN.{length, drop, length-take}
use Rattle.blake2b.specs.State.{ckb_hash}
use Rattle.protocol.specs.Rows.{AllPass, decide, Check}
use Rattle.protocol.proofs.AllPass.{passed-all-pass, all-pass-passed}
use Rattle.protocol.specs.declared.error.ProtocolError.TheVariants.{SlicesDisagree}
use Rattle.molecule.specs.Canonical.{canonical_of}
use Rattle.authorization.specs.Digest.{digest_of, digest_input}
use Rattle.authorization.specs.Sighash.{sighash_input}
use Rattle.scene_table.specs.Scene.{Scene}
use Rattle.scene_table.specs.Lent.{table_entry, scene_from, scene_in, blank_scene, witness_count, transaction_place}
use Rattle.scene_table.specs.Valid.{valid_table}
use Rattle.octets.proofs.Truth.{and_both}
use Rattle.scene_table.proofs.Records.{length-records}
use Rattle.scene_table.proofs.SceneBack.{sayable}
use Rattle.scene_table.proofs.PlaceLaws.{lent-given}
use Rattle.group_sighash.specs.Witnesses.{first_witness, other_witnesses}
use Rattle.group_sighash.specs.GroupSighash.{sighash_rows}
use Rattle.group_sighash.proofs.SighashHash.{sighash-hash}
use Rattle.account_state.specs.Fields.{sequence_of}
use Rattle.protocol.specs.Limits.{table_min_entries, kind_max_lines}
use Rattle.octets.specs.Places.{bytes_at}
use Rattle.account_lock.specs.Lock.{account, operation, current, early_rows, digest, Result, refused, walked, or_walked, walk_result, lock_scene, lock_of}
use Rattle.account_lock.proofs.LockTheorem.{lock-valid}
use Rattle.lock_theorems.proofs.Passes.{group-hashed, late, others-fit}

module _ (s : Scene) where
  pub digest-hash : length s.transaction ≤ 32 → length s.witnesses ≤ kind_max_lines → AllPass (sighash_rows s)
      → digest s ≡ ckb_hash (digest_input (operation s) (account s) (sequence_of (current s)) (current s) (ckb_hash (sighash_input s.transaction (canonical_of (first_witness s)) (other_witnesses s))))
  unfolding digest digest_of
  digest-hash t few h = rw (sighash-hash s t few h)

-- ---- the lock's digest

-- a valid table has at most `kind_max_lines` witnesses
few-witnesses : (table store : List ℕ) (n : ℕ) → valid_table table n ≡ true → length (scene_in table store).witnesses ≤ kind_max_lines
unfolding valid_table blank_scene scene_from
few-witnesses table store n v =
    let ok : length (blank_scene table).witnesses ≤ kind_max_lines =
    (sayable (blank_scene table) (and_both _ _ (and_both (leb table_min_entries (length table)) _ v).1).0).few_witnesses in
    let m : length (blank_scene table).witnesses ≡ witness_count table = length-records _ 2 (witness_count table) _ in
    let k : length (scene_in table store).witnesses ≡ witness_count table = (lent-given table store).witnesses.long in
    omega arith

-- the transaction hash has at most 32 bytes
short-transaction : (table store : List ℕ) → length (scene_in table store).transaction ≤ 32
unfolding scene_in scene_from transaction_place bytes_at
short-transaction table store = let n = length-take 32 (drop (table_entry table 10) store) in omega arith

-- only a walk reaches the digest
reached-walk : (k : Check) (w : Result) → (or_walked k w).reached ≡ true → k ≡ Ok tt
unfolding or_walked refused
reached-walk (Ok _) w e = refl
reached-walk (Err x) w e = absurd (true≢false (sym e))

module _ (table store : List ℕ) (room : ℕ) where
  -- where the table is valid and every row before the proofs' passes, the lock's result is the walk's
  pub early-walked : valid_table table (length store) ≡ true → AllPass (early_rows (scene_in table store))
      → lock_of table store room ≡ walk_result (scene_in table store) room
  unfolding lock_scene or_walked
  early-walked v h = lock-valid table store room v ∙ rw (all-pass-passed _ h)

  -- and only there the digest is reached
  pub reached-early : (lock_of table store room).reached ≡ true
      → (valid_table table (length store) ≡ true) × AllPass (early_rows (scene_in table store))
  unfolding lock_of lock_scene refused
  reached-early = go (valid_table table (length store)) refl
    where
      go : (b : Bool) → valid_table table (length store) ≡ b
          → (cond b (lock_scene (scene_in table store) room) (refused (Err SlicesDisagree))).reached ≡ true
          → (valid_table table (length store) ≡ true) × AllPass (early_rows (scene_in table store))
      go true v e =
          let s = scene_in table store in
          (v, passed-all-pass (early_rows s) (reached-walk (decide (Ok tt) (early_rows s)) (walk_result s room) e))
      go false v e = absurd (true≢false (sym e))

  -- where the lock reached its digest, whatever it answers, the digest is CKB's hash of document 01's input
  pub lock-digest : (lock_of table store room).reached ≡ true
      → (lock_of table store room).digest
      ≡ ckb_hash (digest_input (operation (scene_in table store)) (account (scene_in table store)) (sequence_of (current (scene_in table store))) (current (scene_in table store))
      (ckb_hash (sighash_input (scene_in table store).transaction (canonical_of (first_witness (scene_in table store))) (other_witnesses (scene_in table store)))))
  unfolding walk_result walked
  lock-digest e =
      let s = scene_in table store in
      let h = reached-early e in
      ap (λ (r : Result). r.digest) (early-walked h.0 h.1)
      ∙ digest-hash s (short-transaction table store) (few-witnesses table store (length store) h.0) (group-hashed s (late s h.1).0 (others-fit s h.1))
