-- 02, change 12, "What a digest covers": what a sighash input and a digest input are made of, and all that a digest covers.
use Rattle.std.specs.Prelude.{◌≡◌, ◌⊎◌, true, List, ℕ, ◌^◌, ◌<◌, ltb, length}
use Rattle.octets.specs.Le.{Bytes}
use Rattle.octets.specs.Lists.{every}
use Rattle.blake2b.specs.State.{ckb_hash}
use Rattle.molecule.specs.Canonical.{canonical_of}
use Rattle.authorization.specs.Digest.{digest_input}
use Rattle.authorization.specs.Sighash.{sighash_input}
use Rattle.scene_table.specs.Scene.{Scene}
use Rattle.group_sighash.specs.Witnesses.{first_witness, other_witnesses}
use Rattle.group_sighash.specs.GroupSighash.{group_sighash}
use Rattle.account_state.specs.Fields.{sequence_of}
use Rattle.account_lock.specs.Lock as lock

-- 01, main.rs: "Sighash input: transaction hash; canonical first group witness; other group witnesses; witnesses whose index is at
-- least the number of inputs." The last two are one row here: 02, change 12: "The border between group and extra witnesses isn't
-- marked"
pub record SighashParts : Type 0 where
  pub transaction : List ℕ
  pub first : List ℕ
  pub others : List (List ℕ)

unfoldable pub sighash_input_of : SighashParts → List ℕ
sighash_input_of p = sighash_input p.transaction p.first p.others

-- the sizes that every scene has: a transaction hash of 32 bytes, and witnesses whose lengths a u64 holds
pub record SighashSizes (p : SighashParts) : Type 0 where
  pub transaction : length p.transaction ≡ 32
  pub first : length p.first < 2 ^ 64
  pub others : every (λ (w : List ℕ). ltb (length w) (2 ^ 64)) p.others ≡ true

-- 01, main.rs: "Digest input: `CKB_ACCOUNT_LOCK_V1`, operation, account id, sequence (u64), hash of the state, sighash."
pub record DigestParts : Type 0 where
  pub operation : ℕ
  pub account : List ℕ
  pub sequence : ℕ
  pub state_hash : List ℕ
  pub sighash : List ℕ

unfoldable pub digest_parts_of : ℕ → List ℕ → ℕ → List ℕ → List ℕ → DigestParts
digest_parts_of operation account sequence state sighash = record {
  operation = operation;
  account = account;
  sequence = sequence;
  state_hash = ckb_hash state;
  sighash = sighash;
}

-- those of a scene, and its digest's input
unfoldable pub sighash_parts : Scene → SighashParts
sighash_parts s = record { transaction = s.transaction; first = canonical_of (first_witness s); others = other_witnesses s }

unfoldable pub digest_parts : Scene → DigestParts
digest_parts s = digest_parts_of (lock.operation s) (lock.account s) (sequence_of (lock.current s)) (lock.current s) (group_sighash s)

unfoldable pub scene_digest_input : Scene → List ℕ
scene_digest_input s = digest_input (lock.operation s) (lock.account s) (sequence_of (lock.current s)) (lock.current s) (group_sighash s)

-- "its reach in one statement": all that a digest covers is the same in two scenes
pub record SameCovered (s t : Scene) : Type 0 where
  pub operation : lock.operation s ≡ lock.operation t
  pub account : lock.account s ≡ lock.account t
  pub state : lock.current s ≡ lock.current t
  pub sighash : sighash_parts s ≡ sighash_parts t

-- what no statement about a hash excludes: two rows of bytes that differ and have one hash
pub record Collision (one other : List ℕ) : Type 0 where
  pub bytes : Bytes one × Bytes other
  pub differ : ¬ (one ≡ other)
  pub hash : ckb_hash one ≡ ckb_hash other

-- of the three pairs that two digests are made from: the digest inputs, the states, the sighash inputs
abbrev pub CollisionIn : Scene → Scene → Type 0
CollisionIn s t =
    Collision (scene_digest_input s) (scene_digest_input t)
    ⊎ Collision (lock.current s) (lock.current t)
    ⊎ Collision (sighash_input_of (sighash_parts s)) (sighash_input_of (sighash_parts t))
