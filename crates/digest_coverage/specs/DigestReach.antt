-- 02, change 12: "Bank customers cite the digest and want its reach in one statement."
use Rattle.std.specs.Prelude.{◌≡◌, ◌⊎◌, List, ℕ, ◌≤◌, length}
use Rattle.scene_table.specs.Scene.{Input, Scene}
use Rattle.group_sighash.specs.Witnesses.{group_of}
use Rattle.account_lock.specs.Lock as lock
use Rattle.digest_coverage.specs.Coverage.{SighashParts, SighashSizes, sighash_input_of, digest_parts, scene_digest_input, SameCovered, CollisionIn}
use Rattle.digest_coverage.specs.LockField.{DifferInLock}
use Rattle.digest_coverage.specs.Border.{extra_witnesses, with_inputs, MoreGroup, BorderMoved}
use Rattle.digest_coverage.specs.Reaches.{Reaches}

pub record DigestReach : Type 0 where
  -- "Equal sighash inputs mean equal transaction hash, equal canonical first witness and equal joined row of the other witnesses."
  pub sighash : (p q : SighashParts) → SighashSizes p → SighashSizes q → sighash_input_of p ≡ sighash_input_of q → p ≡ q
  -- "The border between group and extra witnesses isn't marked, and the statement names that.": with more inputs of the group, extra
  -- witnesses are the group's and the sighash input is the same; the groups differ; and the digest is the same where both reach it
  pub border : (s : Scene) (more : List Input) → MoreGroup more s → 1 ≤ length more → 1 ≤ length (extra_witnesses s)
      → BorderMoved (length more) s (with_inputs more s)
      × (¬ (group_of (with_inputs more s) ≡ group_of s))
      × ((d e : List ℕ) → Reaches s d → Reaches (with_inputs more s) e → e ≡ d)
  -- "Equal digest inputs mean equal operation, account, sequence, state hash and sighash."
  pub digest : (s t : Scene) (d e : List ℕ) → Reaches s d → Reaches t e → scene_digest_input s ≡ scene_digest_input t → digest_parts s ≡ digest_parts t
  -- "its reach": where all that a digest covers is the same, the digest is; and where the digest is the same, all of it is, or one of
  -- three named pairs is a collision of the hash
  pub exactly : (s t : Scene) (d e : List ℕ) → Reaches s d → Reaches t e → (SameCovered s t → d ≡ e) × (d ≡ e → SameCovered s t ⊎ CollisionIn s t)
  -- "Two scenes that differ only inside the lock field of the first group witness, with one operation, give one digest where both reach
  -- it."
  pub lock_field : (s t : Scene) (d e : List ℕ) → Reaches s d → Reaches t e → DifferInLock s t → lock.operation t ≡ lock.operation s → e ≡ d
