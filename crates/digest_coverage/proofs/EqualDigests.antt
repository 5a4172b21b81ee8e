-- What a digest covers, in one statement: where the lock gives one digest for two scenes, all that it covers is the same in them, or
-- one of three named pairs is a collision of CKB's hash.
-- Assumes nothing.
use mathlib.Core.Path.{◌≡◌, refl, sym, ap, ◌∙◌}
use mathlib.Core.Logic.{◌⊎◌, inl, inr}
use mathlib.Core.Bool.{Bool, true, false, true≢false}
use mathlib.Core.List.{List}
use Prim.Native.Nat.{ℕ, ◌^◌, ◌<◌}
use native.Mathlib.Omega.{arith}
use lib.ListN.{length}
use Rattle.octets.specs.Le.{Bytes}
use Rattle.octets.specs.Lists.{same}
use Rattle.octets.proofs.LeLaws.{number_lt}
use Rattle.octets.proofs.Same.{same-eq, eq-same}
use Rattle.blake2b.specs.State.{ckb_hash}
use Rattle.scene_table.specs.Scene.{Scene}
use Rattle.scene_table.proofs.SceneBack.{Sayable}
use Rattle.group_sighash.specs.GroupSighash.{group_sighash}
use Rattle.account_state.specs.Fields.{sequence_of}
use Rattle.account_lock.specs.Lock as lock
use Rattle.account_lock.proofs.LockLaws.{account-whole}
use Rattle.digest_coverage.specs.Coverage.{sighash_input_of, sighash_parts, DigestParts, digest_parts_of, digest_parts, scene_digest_input, SameCovered, Collision, CollisionIn}
use Rattle.digest_coverage.specs.Reaches.{Reaches}
use Rattle.digest_coverage.proofs.InputTheorem.{sighash-covers, digest-covers}
use Rattle.digest_coverage.proofs.Covered.{one-digest}
use Rattle.digest_coverage.proofs.HasDigest.{has-digest, reached-sayable, reached-input, reached-sighash}
use Rattle.digest_coverage.proofs.SceneBytes.{state-bytes, sighash-input-bytes, digest-input-bytes}
use Rattle.digest_coverage.proofs.Sizes.{reached-sizes}
use Rattle.lock_theorems.proofs.Passes.{script-passes}

-- one hash: the same bytes, or a collision
one-hash : (a b : List ℕ) → Bytes a → Bytes b → ckb_hash a ≡ ckb_hash b → (a ≡ b) ⊎ Collision a b
one-hash a b p q e = go (same a b) refl
  where
    go : (t : Bool) → same a b ≡ t → (a ≡ b) ⊎ Collision a b
    go true h = inl (same-eq a b h)
    go false h = inr (record { bytes = (p, q); differ = λ f. true≢false (sym (eq-same a b f) ∙ h); hash = e })

-- an account has 32 bytes and its sequence is a u64, where the digest is reached
module _ (s : Scene) (d : List ℕ) (h : Reaches s d) where
  pub reached-account : length (lock.account s) ≡ 32
  unfolding lock.account
  reached-account = account-whole s.script (script-passes s (has-digest s d h).early)

  pub reached-sequence : sequence_of (lock.current s) < 2 ^ 64
  reached-sequence = omega (arith, number_lt (lock.current s) 8 8 (state-bytes s (reached-sayable s d h)))

module _ (s t : Scene) (d e : List ℕ) (a : Reaches s d) (b : Reaches t e) where
  -- of two scenes whose digests are reached, equal digest inputs have equal parts
  pub inputs-cover : scene_digest_input s ≡ scene_digest_input t → digest_parts s ≡ digest_parts t
  unfolding scene_digest_input digest_parts
  inputs-cover h =
      digest-covers (lock.operation s) (lock.operation t) (sequence_of (lock.current s)) (sequence_of (lock.current t)) (lock.account s) (lock.account t) (lock.current s) (lock.current t) (group_sighash s) (group_sighash t)
      (reached-account s d a)
      (reached-account t e b)
      (reached-sequence s d a)
      (reached-sequence t e b)
      h

  -- and equal sighash inputs
  pub sighash-inputs-cover : sighash_input_of (sighash_parts s) ≡ sighash_input_of (sighash_parts t) → sighash_parts s ≡ sighash_parts t
  sighash-inputs-cover h = sighash-covers (sighash_parts s) (sighash_parts t) (reached-sizes s d a) (reached-sizes t e b) h

  -- one digest
  pub equal-digests : d ≡ e → SameCovered s t ⊎ CollisionIn s t
  unfolding digest_parts digest_parts_of
  equal-digests h =
      go (one-hash (scene_digest_input s) (scene_digest_input t) (digest-input-bytes s ok) (digest-input-bytes t ok') (sym (reached-input s d a) ∙ (h ∙ reached-input t e b)))
    where
      ok : Sayable s
      ok = reached-sayable s d a

      ok' : Sayable t
      ok' = reached-sayable t e b

      covered : digest_parts s ≡ digest_parts t → (lock.current s ≡ lock.current t) ⊎ Collision (lock.current s) (lock.current t)
          → (sighash_input_of (sighash_parts s) ≡ sighash_input_of (sighash_parts t)) ⊎ Collision (sighash_input_of (sighash_parts s)) (sighash_input_of (sighash_parts t))
          → SameCovered s t ⊎ CollisionIn s t
      covered p (inl x) (inl y) = inl (record {
        operation = ap (λ (q : DigestParts). q.operation) p;
        account = ap (λ (q : DigestParts). q.account) p;
        state = x;
        sighash = sighash-inputs-cover y;
      })
      covered p (inr c) y = inr (inr (inl c))
      covered p (inl x) (inr c) = inr (inr (inr c))

      go : (scene_digest_input s ≡ scene_digest_input t) ⊎ Collision (scene_digest_input s) (scene_digest_input t) → SameCovered s t ⊎ CollisionIn s t
      go (inl f) =
          let p = inputs-cover f in
          let states = ap (λ (q : DigestParts). q.state_hash) p in
          let sighashes = sym (reached-sighash s d a) ∙ (ap (λ (q : DigestParts). q.sighash) p ∙ reached-sighash t e b) in
          covered p
          (one-hash (lock.current s) (lock.current t) (state-bytes s ok) (state-bytes t ok') states)
          (one-hash (sighash_input_of (sighash_parts s)) (sighash_input_of (sighash_parts t)) (sighash-input-bytes s ok) (sighash-input-bytes t ok') sighashes)
      go (inr c) = inr (inl c)

  -- what a digest covers, in one statement: where all of it is the same, the digest is; and where the digest is, all of it is the same,
  -- or one of the three pairs is a collision
  pub covers-exactly : (SameCovered s t → d ≡ e) × (d ≡ e → SameCovered s t ⊎ CollisionIn s t)
  covers-exactly = (one-digest s t d e a b, equal-digests)
