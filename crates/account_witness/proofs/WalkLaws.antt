-- A step and the walk: what the rows of a proof say, what a step tells, and the rows that are left after it.
-- Assumes nothing.
use Rattle.std.specs.Prelude.{Err, Ok, Result}
use mathlib.Core.Path.{◌≡◌, refl, ap, ◌∙◌}
use mathlib.Core.List.{List}
use Prim.Native.Nat.{ℕ, suc, ◌+◌, ◌-◌, ◌≤◌, ◌<◌}
use native.Mathlib.Omega.{arith}
use borrow.Author.Tests.{leb-true, eqb-true}
use lib.Dec.{eqb}
use lib.ListN.{length}
use Rattle.protocol.specs.Rows.{row, ◌▷◌, decide, AllPass, Check}
use Rattle.protocol.specs.declared.error.ProtocolError.{ProtocolError}
use Rattle.protocol.specs.declared.error.ProtocolError.TheVariants.{InvalidWitness}
use Rattle.protocol.proofs.AllPass.{decide-append, decide-failed}
use Rattle.protocol.proofs.Answers.{then-given, then-refused}
use Rattle.account_witness.specs.Fields.{proof_length_at, proof_reserved_at, proof_slot_at}
use Rattle.account_witness.specs.declared.walk.Proof.{Proof}
use Rattle.account_witness.specs.declared.walk.ProofCursor.{ProofCursor}
use Rattle.account_witness.specs.Walk.{proof_layout_rows, proof_at, proof_cursor_behind, proof_step, proofs_layout_rows}

-- what the rows of a proof say
pub record ProofHolds (s : List ℕ) (off least : ℕ) : Type 0 where
  pub zeros : proof_reserved_at s off ≡ 0
  pub inside : off + 8 + proof_length_at s off ≤ length s
  pub some : 1 ≤ proof_length_at s off
  pub above : least ≤ proof_slot_at s off

pub proof-holds : (s : List ℕ) (off least : ℕ) → AllPass (proof_layout_rows s off least) → ProofHolds s off least
unfolding proof_layout_rows
proof-holds s off least h =
    record {
      zeros = eqb-true _ _ h.1.0;
      inside = leb-true _ _ h.1.1.0;
      some = leb-true _ _ h.1.1.1.0;
      above = leb-true _ _ h.1.1.1.1.0;
    }

-- a step that goes on: every row of the proof passed, and the cursor is behind it
pub proof-step-next : (s : List ℕ) (c : ProofCursor) (p : Proof) (d : ProofCursor) → proof_step s c ≡ Ok (p, d)
    → (decide (Ok tt) (proof_layout_rows s c.offset c.least) ≡ Ok tt) × (proof_at s c.offset ≡ p) × (proof_cursor_behind s c.offset ≡ d)
unfolding proof_step
proof-step-next s c p d h =
    let z = then-given (proof_at s c.offset, proof_cursor_behind s c.offset) (decide (Ok tt) (proof_layout_rows s c.offset c.least)) (p, d) h in
    (z.0, ap (λ (x : Proof × ProofCursor). x.0) z.1, ap (λ (x : Proof × ProofCursor). x.1) z.1)

-- a step that does not: the refusal of the rows
pub proof-step-refused : (s : List ℕ) (c : ProofCursor) (e : ProtocolError) → proof_step s c ≡ Err e
    → decide (Ok tt) (proof_layout_rows s c.offset c.least) ≡ Err e
unfolding proof_step
proof-step-refused s c e h = then-refused (proof_at s c.offset, proof_cursor_behind s c.offset) _ e h

-- a proof's rows, and then those of the proofs behind it
pub walk_more : (s : List ℕ) (left off least : ℕ) → 0 < left
    → decide (Ok tt) (proofs_layout_rows s left off least)
    ≡ decide (decide (Ok tt) (proof_layout_rows s off least)) (proofs_layout_rows s (left - 1) (off + 8 + proof_length_at s off) (proof_slot_at s off + 1))
unfolding proofs_layout_rows
walk_more s left off least p =
    let l : left ≡ suc (left - 1) = omega arith in
    ap (λ (n : ℕ). decide (Ok tt) (proofs_layout_rows s n off least)) l ∙ decide-append (Ok tt) (proof_layout_rows s off least) _

-- what the rows find by a step: its refusal, or what the n rows behind it find
abbrev after_step : List ℕ → ℕ → Result (Proof × ProofCursor) ProtocolError → Check
after_step s n (Ok x) = decide (Ok tt) (proofs_layout_rows s n x.1.offset x.1.least)
after_step s n (Err e) = Err e

step_by : (s : List ℕ) (n : ℕ) (c : ProofCursor) (k : Result (Proof × ProofCursor) ProtocolError) → 0 < n → proof_step s c ≡ k
    → decide (Ok tt) (proofs_layout_rows s n c.offset c.least) ≡ after_step s (n - 1) k
unfolding proof_cursor_behind
step_by s n c (Ok x) l h =
    let z = proof-step-next s c x.0 x.1 h in
    walk_more s n c.offset c.least l ∙ rw (z.0, ← z.2)
step_by s n c (Err e) l h = walk_more s n c.offset c.least l ∙ rw (proof-step-refused s c e h) (decide-failed _ e)

-- so it is after i of n steps,
pub walk_step : (s : List ℕ) (n i : ℕ) (c : ProofCursor) → i < n
    → decide (Ok tt) (proofs_layout_rows s (n - i) c.offset c.least) ≡ after_step s (n - (i + 1)) (proof_step s c)
walk_step s n i c l =
    let e : n - (i + 1) ≡ n - i - 1 = omega arith in
    rw e (step_by s (n - i) c (proof_step s c) (omega arith) refl)

-- and behind the last proof the end is left
pub walk_none : (s : List ℕ) (n i off least : ℕ) → n ≤ i
    → decide (Ok tt) (proofs_layout_rows s (n - i) off least) ≡ Ok tt ▷ row (eqb off (length s)) InvalidWitness
unfolding proofs_layout_rows decide
walk_none s n i off least h = let e : n - i ≡ 0 = omega arith in rw e
