-- The walk unrolled: the i-th step hands out the i-th proof of the reading, and the last cursor is at the end.
-- Assumes nothing.
use Rattle.std.specs.Prelude.{Ok}
use mathlib.Core.Path.{◌≡◌, refl, ap, ◌∙◌}
use mathlib.Core.List.{List, ◌∷◌, ◌++◌}
use Prim.Native.Nat.{ℕ, zero, suc, ◌+◌, ◌<◌}
use native.Mathlib.Nat.{add-zero, zero-add}
use native.Mathlib.Omega.{arith}
use lib.ListN.{length, get_or}
use Rattle.protocol.specs.Rows.{AllPass}
use Rattle.protocol.proofs.AllPass.{all-pass-split}
use Rattle.account_witness.specs.Fields.{proof_count_of}
use Rattle.account_witness.specs.declared.walk.Proof.{Proof}
use Rattle.account_witness.specs.declared.walk.ProofCursor.{ProofCursor}
use Rattle.account_witness.specs.Walk.{proof_layout_rows, proof_at, proof_cursor_behind, proof_step, proof_cursor_at, proofs_layout_rows}
use Rattle.account_witness.specs.Witness.{witness_rows}
use Rattle.account_witness.specs.Reading.{ProofReading, proof_given, proofs_of, witness_reading, ProofStepGives}
use Rattle.account_witness.proofs.Accepted.{proof-step-accepts}
use Rattle.account_witness.proofs.WalkLaws.{proof-step-next}
use Rattle.account_witness.proofs.Inverse.{witness-holds, proofs-end}

-- the rows of suc n proofs: those of the proof at the cursor, then those of n proofs from the next cursor on
pub rows-unrolled : (s : List ℕ) (n k : ℕ)
    → proofs_layout_rows s (suc n) (proof_cursor_at s k).offset (proof_cursor_at s k).least
    ≡ proof_layout_rows s (proof_cursor_at s k).offset (proof_cursor_at s k).least ++ proofs_layout_rows s n (proof_cursor_at s (suc k)).offset (proof_cursor_at s (suc k)).least
unfolding proofs_layout_rows proof_cursor_at proof_cursor_behind
rows-unrolled s n k = refl

-- and so their readings
pub proofs-unrolled : (s : List ℕ) (n k : ℕ)
    → proofs_of s (suc n) (proof_cursor_at s k).offset ≡ proof_given s (proof_at s (proof_cursor_at s k).offset) ∷ proofs_of s n (proof_cursor_at s (suc k)).offset
unfolding proofs_of proof_cursor_at proof_cursor_behind
proofs-unrolled s n k = refl

-- the i-th of n readings is that of the proof at the cursor after i proofs, whatever the bytes
readings-from : (s : List ℕ) (d : ProofReading) (n k i : ℕ) → i < n
    → get_or (proofs_of s n (proof_cursor_at s k).offset) i d ≡ proof_given s (proof_at s (proof_cursor_at s (k + i)).offset)
readings-from s d zero k i h = absurd (omega arith)
readings-from s d (suc n) k zero h = rw (proofs-unrolled s n k, add-zero k)
readings-from s d (suc n) k (suc i) h =
    let e : k + suc i ≡ suc k + i = omega arith in
    let l : i < n = omega arith in
    rw (proofs-unrolled s n k, e) (readings-from s d n (suc k) i l)

pub proof-reading-at : (s : List ℕ) (d : ProofReading) (i : ℕ) → i < proof_count_of s
    → get_or (witness_reading s).proofs i d ≡ proof_given s (proof_at s (proof_cursor_at s i).offset)
unfolding witness_reading proof_cursor_at
proof-reading-at s d i h = rw zero-add at (readings-from s d (proof_count_of s) 0 i h)

-- where the rows of n proofs hold, so do those of each,
rows-from : (s : List ℕ) (n k i : ℕ) → AllPass (proofs_layout_rows s n (proof_cursor_at s k).offset (proof_cursor_at s k).least) → i < n
    → AllPass (proof_layout_rows s (proof_cursor_at s (k + i)).offset (proof_cursor_at s (k + i)).least)
rows-from s zero k i h l = absurd (omega arith)
rows-from s (suc n) k zero h l =
    rw (add-zero k) (all-pass-split (proof_layout_rows s (proof_cursor_at s k).offset (proof_cursor_at s k).least) _ (rw (rows-unrolled s n k) at h)).0
rows-from s (suc n) k (suc i) h l =
    let e : k + suc i ≡ suc k + i = omega arith in
    let m : i < n = omega arith in
    rw e (rows-from s n (suc k) i (all-pass-split (proof_layout_rows s (proof_cursor_at s k).offset (proof_cursor_at s k).least) _ (rw (rows-unrolled s n k) at h)).1 m)

-- and the cursor after n proofs is at the end
end-from : (s : List ℕ) (n k : ℕ) → AllPass (proofs_layout_rows s n (proof_cursor_at s k).offset (proof_cursor_at s k).least) → (proof_cursor_at s (k + n)).offset ≡ length s
end-from s zero k h = rw (add-zero k) (proofs-end s _ _ h)
end-from s (suc n) k h =
    let e : k + suc n ≡ suc k + n = omega arith in
    rw e (end-from s n (suc k) (all-pass-split (proof_layout_rows s (proof_cursor_at s k).offset (proof_cursor_at s k).least) _ (rw (rows-unrolled s n k) at h)).1)

-- a step that goes on from the cursor after i proofs hands out the proof there, and comes to the cursor after the next
pub proof-step-on : (s : List ℕ) (i : ℕ) (p : Proof) (d : ProofCursor) → proof_step s (proof_cursor_at s i) ≡ Ok (p, d)
    → (proof_at s (proof_cursor_at s i).offset ≡ p) × (proof_cursor_at s (suc i) ≡ d)
unfolding proof_cursor_at
proof-step-on s i p d h = let z = proof-step-next s (proof_cursor_at s i) p d h in (z.1, z.2)

-- so that what it hands out reads as the i-th proof, whatever follows
pub proof-step-given : (s : List ℕ) (i : ℕ) (p : Proof) (d : ProofCursor) → i < proof_count_of s → proof_step s (proof_cursor_at s i) ≡ Ok (p, d)
    → (q : ProofReading) → get_or (witness_reading s).proofs i q ≡ proof_given s p
proof-step-given s i p d l h q = proof-reading-at s q i l ∙ ap (proof_given s) (proof-step-on s i p d h).0

-- in an accepted witness lock each step goes on, with its proof of the reading
pub witness-steps : (s : List ℕ) → AllPass (witness_rows s) → (i : ℕ) → i < proof_count_of s → ProofStepGives s i
unfolding proof_cursor_at
witness-steps s h i l =
    record {
      step = (proof-step-accepts s (proof_cursor_at s i)).1 (rw zero-add at (rows-from s (proof_count_of s) 0 i (witness-holds s h).proofs l));
      reading = λ d. proof-reading-at s d i l;
    }

-- after them the cursor is at the end
pub witness-steps-end : (s : List ℕ) → AllPass (witness_rows s) → (proof_cursor_at s (proof_count_of s)).offset ≡ length s
unfolding proof_cursor_at
witness-steps-end s h = rw zero-add at (end-from s (proof_count_of s) 0 (witness-holds s h).proofs)
