-- A digest depends on what it covers alone: where that is the same in two scenes, the lock's digest is.
-- Assumes nothing.
use mathlib.Core.Path.{◌≡◌, refl, sym, ap, ◌∙◌}
use mathlib.Core.List.{List}
use Prim.Native.Nat.{ℕ}
use lib.ListN.{take}
use Rattle.blake2b.specs.Rfc7693.{bytes_of}
use Rattle.blake2b.specs.State.{begun, fed_all, finished, ckb_parameters}
use Rattle.authorization.specs.Digest.{digest_of}
use Rattle.authorization.specs.Sighash.{sighash_of}
use Rattle.scene_table.specs.Scene.{Scene}
use Rattle.molecule.specs.Canonical.{canonical_of}
use Rattle.group_sighash.specs.Witnesses.{first_witness, other_witnesses}
use Rattle.group_sighash.specs.GroupSighash.{group_sighash}
use Rattle.account_state.specs.Fields.{sequence_of}
use Rattle.account_lock.specs.Lock as lock
use Rattle.digest_coverage.specs.Coverage.{SighashParts, sighash_input_of, sighash_parts, SameCovered}
use Rattle.digest_coverage.specs.Reaches.{Reaches}
use Rattle.digest_coverage.proofs.HasDigest.{has-digest}

-- a scene's sighash is worked out from its parts
sighash_from : SighashParts → List ℕ
sighash_from p = take 32 (bytes_of (finished (fed_all (begun ckb_parameters) (sighash_input_of p))).h)

from_parts : (s : Scene) → group_sighash s ≡ sighash_from (sighash_parts s)
unfolding group_sighash sighash_of sighash_from sighash_input_of sighash_parts
from_parts s = refl

-- the three parts of a sighash one by one
parts_same : {a b c d : List ℕ} {vs ws : List (List ℕ)} → a ≡ b → c ≡ d → vs ≡ ws
    → ◌≡◌ {A = SighashParts} (record { transaction = a; first = c; others = vs }) (record { transaction = b; first = d; others = ws })
parts_same p q r = rw (p, q, r)

pub sighash-same : (s t : Scene) → s.transaction ≡ t.transaction → canonical_of (first_witness s) ≡ canonical_of (first_witness t)
    → other_witnesses s ≡ other_witnesses t → sighash_parts s ≡ sighash_parts t
unfolding sighash_parts
sighash-same s t p q r = parts_same p q r

-- and those of a digest
digest-same : {o p : ℕ} {a b s t h k : List ℕ} → o ≡ p → a ≡ b → s ≡ t → h ≡ k
    → digest_of o a (sequence_of s) s h ≡ digest_of p b (sequence_of t) t k
digest-same p q r e = rw (p, q, r, e)

pub covered-digest : (s t : Scene) → SameCovered s t → lock.digest s ≡ lock.digest t
unfolding lock.digest
covered-digest s t c =
    digest-same c.operation c.account c.state (from_parts s ∙ (ap sighash_from c.sighash ∙ sym (from_parts t)))

-- so two scenes of which all that a digest covers is the same give one digest, where both reach it
pub one-digest : (s t : Scene) (d e : List ℕ) → Reaches s d → Reaches t e → SameCovered s t → d ≡ e
one-digest s t d e a b c = (has-digest s d a).digest ∙ (covered-digest s t c ∙ sym (has-digest t e b).digest)
