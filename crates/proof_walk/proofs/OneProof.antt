-- One proof of the walk: its layout, its request and its verdict.
-- Assumes nothing.
use Rattle.std.specs.Prelude.{Err, Ok}
use mathlib.Core.Path.{◌≡◌, refl, sym, ◌∙◌}
use mathlib.Core.Logic.{◌≢◌, ◌⊎◌, inl, inr, ⊎_elim}
use mathlib.Core.Bool.{Bool, true, false, cond}
use mathlib.Core.List.{List, [], ◌∷◌}
use Prim.Native.Nat.{ℕ}
use lib.Dec.{eqb}
use lib.ListN.{length}
use native.Mathlib.Omega.{arith}
use borrow.Author.Tests.{eqb-true, eqb-false}
use Rattle.protocol.specs.Rows.{Row, ◌then◌, decide, FirstFailed, Check}
use Rattle.protocol.specs.declared.error.ProtocolError.{ProtocolError}
use Rattle.protocol.specs.declared.error.ProtocolError.TheVariants.{InvalidWitness}
use Rattle.protocol.proofs.AllPass.{then-passed, failed-first}
use Rattle.protocol.proofs.Answers.{then-given, then-refused}
use Rattle.account_witness.specs.Reading.{ProofReading, proof_of}
use Rattle.account_witness.specs.Walk as witness
use Rattle.account_witness.specs.declared.walk.ProofCursor.{ProofCursor}
use Rattle.quorum.specs.Slots.{entry_for}
use Rattle.decision.specs.Proofs.{Context, proof_rows, request_of}
use Rattle.decision.specs.Walk.{verdict, approved_weight}
use Rattle.proof_walk.specs.Steps.{proof_check, verdict_outcome, proof_outcome}
use Rattle.proof_walk.specs.declared.walk.ProofOutcome.{ProofOutcome}
use Rattle.proof_walk.specs.declared.walk.ProofOutcome.TheVariants as outcome

-- ---- one turn

-- what two checks one after another find
then-failed : (a b : Check) (e : ProtocolError) → a then b ≡ Err e → (a ≡ Err e) ⊎ ((a ≡ Ok tt) × (b ≡ Err e))
then-failed (Ok _) b e h = inr (refl, h)
then-failed (Err x) b e h = inl h

-- rows that have only one refusal find that one
abbrev Only : ProtocolError → List Row → Type 0
Only x [] = Unit {0}
Only x (r ∷ rs) = (r.error ≡ x) × Only x rs

only-first : (x e : ProtocolError) (rs : List Row) → Only x rs → FirstFailed rs e → x ≡ e
only-first x e [] o f = absurd f
only-first x e (r ∷ rs) o f = ⊎_elim (λ l. sym o.0 ∙ l.1) (λ q. only-first x e rs o.1 q.1) f

pub layout-error : (lock : List ℕ) (at least : ℕ) (e : ProtocolError) → decide (Ok tt) (witness.proof_layout_rows lock at least) ≡ Err e
    → InvalidWitness ≡ e
unfolding witness.proof_layout_rows
layout-error lock at least e h =
    only-first InvalidWitness e (witness.proof_layout_rows lock at least) (refl, (refl, (refl, (refl, (refl, tt)))))
    (failed-first (witness.proof_layout_rows lock at least) e h)

-- an outcome, by its refusal, or by the verdict on its request
module _ (c : Context) (lock : List ℕ) (cursor : ProofCursor) (i : ℕ) where
  abbrev P : ProofReading
  P = proof_of lock cursor.offset

  pub outcome-refused : (e : ProtocolError) → proof_outcome c lock cursor i ≡ Err e → proof_check c lock cursor ≡ Err e
  unfolding proof_outcome
  outcome-refused e h = then-refused _ (proof_check c lock cursor) e h

  given : (o : ProofOutcome) → proof_outcome c lock cursor i ≡ Ok o → (proof_check c lock cursor ≡ Ok tt)
      × (verdict_outcome (verdict c i) (length (request_of c P)) (entry_for P.slot c.entries).weight (witness.proof_cursor_behind lock cursor.offset) ≡ o)
  unfolding proof_outcome
  given o h = then-given _ (proof_check c lock cursor) o h

  pub outcome-failed : (len : ℕ) → proof_outcome c lock cursor i ≡ Ok (outcome.Failed len)
      → (proof_check c lock cursor ≡ Ok tt) × (len ≡ length (request_of c P)) × (verdict c i ≡ 2)
  unfolding verdict_outcome
  outcome-failed len h = go (eqb (verdict c i) 2) refl (given (outcome.Failed len) h)
    where
      go : (b : Bool) → eqb (verdict c i) 2 ≡ b → (proof_check c lock cursor ≡ Ok tt)
          × (cond b (outcome.Failed (length (request_of c P))) (outcome.Onward (length (request_of c P)) (cond (eqb (verdict c i) 0) (entry_for P.slot c.entries).weight 0) (witness.proof_cursor_behind lock cursor.offset)) ≡ outcome.Failed len)
          → (proof_check c lock cursor ≡ Ok tt) × (len ≡ length (request_of c P)) × (verdict c i ≡ 2)
      go true e g = let z = g.1 in (g.0, cc, eqb-true (verdict c i) 2 e)
      go false e g = absurd (let z = g.1 in let y : ◌≡◌ {A = ℕ} 0 1 = cc in omega arith)

  pub outcome-onward : (len weight : ℕ) (next : ProofCursor) → proof_outcome c lock cursor i ≡ Ok (outcome.Onward len weight next)
      → (proof_check c lock cursor ≡ Ok tt)
      × (len ≡ length (request_of c P))
      × (verdict c i ≢ 2)
      × (weight ≡ approved_weight c i P)
      × (next ≡ witness.proof_cursor_behind lock cursor.offset)
  unfolding verdict_outcome approved_weight
  outcome-onward len weight next h = go (eqb (verdict c i) 2) refl (given (outcome.Onward len weight next) h)
    where
      go : (b : Bool) → eqb (verdict c i) 2 ≡ b → (proof_check c lock cursor ≡ Ok tt)
          × (cond b (outcome.Failed (length (request_of c P))) (outcome.Onward (length (request_of c P)) (cond (eqb (verdict c i) 0) (entry_for P.slot c.entries).weight 0) (witness.proof_cursor_behind lock cursor.offset)) ≡ outcome.Onward len weight next)
          → (proof_check c lock cursor ≡ Ok tt)
          × (len ≡ length (request_of c P))
          × (verdict c i ≢ 2)
          × (weight ≡ cond (eqb (verdict c i) 0) (entry_for P.slot c.entries).weight 0)
          × (next ≡ witness.proof_cursor_behind lock cursor.offset)
      go true e g = absurd (let z = g.1 in let y : ◌≡◌ {A = ℕ} 0 1 = cc in omega arith)
      go false e g = let z = g.1 in (g.0, cc, eqb-false (verdict c i) 2 e, cc, cc)

-- what a turn's check says of the layout and of the rows
pub turn-split : (c : Context) (lock : List ℕ) (cursor : ProofCursor) (e : ProtocolError) → proof_check c lock cursor ≡ Err e
    → let layout = decide (Ok tt) (witness.proof_layout_rows lock cursor.offset cursor.least) in
    (layout ≡ Err e) ⊎ ((layout ≡ Ok tt) × (decide (Ok tt) (proof_rows c 0 (proof_of lock cursor.offset)) ≡ Err e))
unfolding proof_check
turn-split c lock cursor e h =
    then-failed (decide (Ok tt) (witness.proof_layout_rows lock cursor.offset cursor.least)) (decide (Ok tt) (proof_rows c 0 (proof_of lock cursor.offset))) e h

pub turn-both : (c : Context) (lock : List ℕ) (cursor : ProofCursor) → proof_check c lock cursor ≡ Ok tt
    → (decide (Ok tt) (witness.proof_layout_rows lock cursor.offset cursor.least) ≡ Ok tt)
    × (decide (Ok tt) (proof_rows c 0 (proof_of lock cursor.offset)) ≡ Ok tt)
unfolding proof_check
turn-both c lock cursor h =
    then-passed (decide (Ok tt) (witness.proof_layout_rows lock cursor.offset cursor.least)) (decide (Ok tt) (proof_rows c 0 (proof_of lock cursor.offset))) h
