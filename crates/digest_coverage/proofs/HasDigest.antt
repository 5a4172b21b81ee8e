-- Where the lock reaches a digest, on lent memory or on a text: the scene is one that a text can say, every row before the proofs'
-- passes, and digest and sighash are CKB's hashes of document 01's inputs.
-- Assumes nothing.
use mathlib.Core.Path.{◌≡◌, refl, sym, ap, ◌∙◌}
use mathlib.Core.Logic.{inl, inr}
use mathlib.Core.Bool.{Bool, true, true≢false}
use mathlib.Core.List.{List}
use Prim.Native.Nat.{ℕ, ◌≤◌}
use native.Mathlib.Omega.{arith}
use borrow.Author.Tests.{le-leb}
use lib.Dec.{leb}
use lib.ListN.{length}
use Rattle.octets.specs.Lists.{every}
use Rattle.octets.proofs.Truth.{both-and}
use Rattle.blake2b.specs.State.{ckb_hash}
use Rattle.scene_reader.specs.Reader.{ReaderOutcome, reader_refuses, reader_holds, read_of, reader_check}
use Rattle.scene_table.specs.Scene.{Scene}
use Rattle.scene_table.specs.Lent.{scene_in}
use Rattle.scene_table.specs.Valid.{bytes_ok, cell_ok, input_ok, output_ok, few_of, digits_ok, scene_ok}
use Rattle.scene_table.proofs.ReadBack.{hash-long}
use Rattle.scene_table.proofs.SceneBack.{Sayable, sayable}
use Rattle.scene_table.proofs.LentScene.{lent-sayable}
use Rattle.scene_reading.proofs.PrintBack.{reading-ok}
use Rattle.scene_reading.proofs.Accessors.{accessors-give}
use Rattle.authorization.specs.Digest.{digest_of}
use Rattle.group_sighash.specs.GroupSighash.{group_sighash}
use Rattle.group_sighash.proofs.SighashHash.{sighash-hash}
use Rattle.account_lock.specs.declared.answer.LockAnswer.{LockAnswer}
use Rattle.account_lock.specs.Lock as lock
use Rattle.lock_theorems.proofs.Passes.{group-hashed, late, others-fit}
use Rattle.lock_theorems.proofs.DigestTheorem.{early-walked, reached-early}
use Rattle.decide_scene.specs.Decided.{decided_by, decided}
use Rattle.digest_coverage.specs.Coverage.{sighash_input_of, sighash_parts, scene_digest_input}
use Rattle.digest_coverage.specs.Reaches.{LockReaches, TextReaches, Reaches, HasDigest}

-- a scene that has what a text can say passes the test of it
few-ok : {A : Type 0} (p : A → Bool) (xs : List A) → length xs ≤ 64 → every p xs ≡ true → few_of p xs ≡ true
unfolding few_of
few-ok p xs n h = both-and (leb (length xs) 64) (every p xs) (le-leb (length xs) 64 n) h

sayable-ok : (s : Scene) → Sayable s → scene_ok s ≡ true
unfolding scene_ok digits_ok
sayable-ok s h =
    let inputs = few-ok input_ok s.inputs h.few_inputs h.inputs in
    let outputs = few-ok output_ok s.outputs h.few_outputs h.outputs in
    let deps = few-ok cell_ok s.deps h.few_deps h.deps in
    let witnesses = few-ok bytes_ok s.witnesses h.few_witnesses h.witnesses in
    let digits = both-and _ _ (le-leb (length s.digits) 16 h.few_digits) h.digits in
    both-and _ _ h.script (both-and _ _ h.transaction (both-and _ _ inputs (both-and _ _ outputs (both-and _ _ deps (both-and _ _ witnesses digits)))))

-- of a table and a store on which the lock reaches its digest
module _ (table store : List ℕ) (room : ℕ) (reached : (lock.lock_of table store room).reached ≡ true) where
  result-digest : (lock.lock_of table store room).digest ≡ lock.digest (scene_in table store)
  unfolding lock.walk_result lock.walked
  result-digest =
      let h = reached-early table store room reached in
      ap (λ (r : lock.Result). r.digest) (early-walked table store room h.0 h.1)

  result-has : (s : Scene) (d : List ℕ) → scene_in table store ≡ s → (lock.lock_of table store room).digest ≡ d → scene_ok s ≡ true → HasDigest s d
  result-has s d e f ok = record {
    scene = ok;
    early = rw e at (reached-early table store room reached).1;
    digest = sym f ∙ (result-digest ∙ ap lock.digest e);
  }

lock-has : (s : Scene) (d : List ℕ) → LockReaches s d → HasDigest s d
unfolding lock.answer_of
lock-has s d h =
    let found = ap (λ (a : LockAnswer). a.reached) h.outcome in
    let digest = ap (λ (a : LockAnswer). a.digest) h.outcome in
    let reached : (lock.lock_of h.table h.store (length h.buffer)).reached ≡ true = sym found ∙ h.reached in
    let valid = (reached-early h.table h.store (length h.buffer) reached).0 in
    let ok : Sayable s = rw h.scene at (lent-sayable h.table h.store valid h.bytes) in
    result-has h.table h.store (length h.buffer) reached s d h.scene (sym digest ∙ h.digest) (sayable-ok s ok)

text-has : (s : Scene) (d : List ℕ) → TextReaches s d → HasDigest s d
unfolding decided decided_by lock.refused
text-has s d h = go (read_of h.text h.store h.table) refl h.reached h.digest
  where
    go : (o : ReaderOutcome) → read_of h.text h.store h.table ≡ o → (decided_by o h.buffer).reached ≡ true
        → (decided_by o h.buffer).digest ≡ d → HasDigest s d
    go (reader_refuses x) e f g = absurd (true≢false (sym f))
    go (reader_holds held) e f g =
        let given = rw e at (accessors-give h.text h.store h.table (ap reader_check e) h.lines) in
        let ok : scene_ok s ≡ true = rw h.scene at (reading-ok h.text h.store h.lines) in
        result-has held.table held.store h.buffer f s d (given ∙ h.scene) g ok

pub has-digest : (s : Scene) (d : List ℕ) → Reaches s d → HasDigest s d
has-digest s d (inl h) = lock-has s d h
has-digest s d (inr h) = text-has s d h

module _ (s : Scene) (d : List ℕ) (h : Reaches s d) where
  -- the scene is one that a text can say,
  pub reached-sayable : Sayable s
  reached-sayable = sayable s (has-digest s d h).scene

  -- its digest is the hash of its input,
  pub reached-input : d ≡ ckb_hash (scene_digest_input s)
  unfolding lock.digest digest_of scene_digest_input
  reached-input = (has-digest s d h).digest

  -- and so is the sighash in it
  pub reached-sighash : group_sighash s ≡ ckb_hash (sighash_input_of (sighash_parts s))
  unfolding sighash_input_of sighash_parts
  reached-sighash =
      let ok = reached-sayable in
      let early = (has-digest s d h).early in
      let short : length s.transaction ≡ 32 = hash-long s.transaction ok.transaction in
      sighash-hash s (omega arith) ok.few_witnesses (group-hashed s (late s early).0 (others-fit s early))
