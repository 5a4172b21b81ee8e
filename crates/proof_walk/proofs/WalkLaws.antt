-- The head of the walk's loop, and each way on from it.
-- Assumes nothing.
use Rattle.std.specs.Prelude.{Err, Ok}
use mathlib.Core.Path.{◌≡◌, refl, sym, ap, ◌∙◌}
use mathlib.Core.Logic.{◌≢◌, ⊎_elim}
use mathlib.Core.Bool.{true, false, cond}
use mathlib.Core.List.{List, [], ◌∷◌, ◌++◌}
use Prim.Native.Nat.{ℕ, suc, ◌+◌, ◌-◌, ◌*◌, ◌≤◌, ◌<◌}
use native.Mathlib.Nat.{sub-zero}
use native.Mathlib.Omega.{arith}
use lib.Dec.{eqb}
use lib.ListN.{length, length-append}
use borrow.Author.Tests.{ne_eqb}
use borrow.Rule.Slice.PartMut.{mid_len}
use Rattle.protocol.specs.Policy.{is_operation}
use Rattle.protocol.specs.Rows.{row, decide, Check}
use Rattle.protocol.specs.declared.error.ProtocolError.{ProtocolError}
use Rattle.protocol.specs.declared.error.ProtocolError.TheVariants.{InvalidWitness, VerifierFailure, InvalidOperation}
use Rattle.account_witness.specs.Fields.{proof_count_of}
use Rattle.account_witness.specs.Reading.{ProofReading, proof_of}
use Rattle.account_witness.specs.Walk as witness
use Rattle.account_witness.specs.declared.walk.ProofCursor.{ProofCursor}
use Rattle.scene_table.specs.Lent.{scene_from, scene_in, blank_scene}
use Rattle.scene_table.specs.Places.{verdict_at, verdict_of}
use Rattle.quorum.specs.Slots.{known_slot, entry_for}
use Rattle.quorum.specs.Operation.{threshold_of}
use Rattle.decision.specs.Proofs.{Context, context_for, authenticator_rows, proof_rows, request_of}
use Rattle.decision.specs.Walk.{WalkOutcome, walk_outcome, verdict, approved_weight, last_rows, unless_failed, walk_from, unless_faulty, proofs_until_fault, walk_list, walk_lock, answered}
use Rattle.proof_walk.specs.Answer.{scene_deps, walk_context, walk_proofs, proof_walk_answer}
use Rattle.proof_walk.specs.Steps.{request_left, proof_check, proof_outcome}
use Rattle.proof_walk.specs.declared.walk.ProofOutcome.TheVariants as outcome
use Rattle.proof_walk.specs.declared.walk.ProofWalkAnswer.{ProofWalkAnswer}
use Rattle.proof_walk.proofs.Answered.{answered-length, part-put, lent_of, back_in, unwritten}
use Rattle.proof_walk.proofs.RequestLaws.{request_room}
use Rattle.proof_walk.proofs.OneProof.{layout-error, outcome-refused, outcome-failed, outcome-onward, turn-split, turn-both}

-- ---- the settings of one walk, which differ only in the room of the answer buffer

module _ (table store state : List ℕ) (operation : ℕ) (digest : List ℕ) where
  abbrev pub S : ℕ → Context
  S room = walk_context table store state operation digest room

  -- the table's digit is the verdict
  pub verdict_lent : (room i : ℕ) → verdict (S room) i ≡ verdict_of table i
  unfolding verdict_of verdict_at blank_scene scene_in scene_from verdict walk_context context_for
  verdict_lent room i = refl

  -- rows go by what is left of it, and request, verdict and weight not by it
  rows_alike : (a b used : ℕ) (p : ProofReading) → a - 0 ≡ b - used → proof_rows (S a) 0 p ≡ proof_rows (S b) used p
  unfolding proof_rows walk_context context_for
  rows_alike a b used p e =
      ap
      (λ (left : ℕ). row (known_slot p.slot (S a).entries) InvalidWitness ∷ authenticator_rows operation (scene_deps table store) (entry_for p.slot (S a).entries) (length p.bytes) left)
      e

  request-alike : (a b : ℕ) (p : ProofReading) → request_of (S a) p ≡ request_of (S b) p
  unfolding request_of walk_context context_for
  request-alike a b p = refl

  verdict-alike : (a b i : ℕ) → verdict (S a) i ≡ verdict (S b) i
  unfolding verdict verdict_at walk_context context_for
  verdict-alike a b i = refl

  earned-alike : (a b i : ℕ) (p : ProofReading) → approved_weight (S a) i p ≡ approved_weight (S b) i p
  unfolding approved_weight verdict verdict_at walk_context context_for
  earned-alike a b i p = refl

  -- ---- the operation, before the first proof

  module _ (room : ℕ) (lock : List ℕ) where
    -- one from 1 to 3 is walked,
    pub walk-known : is_operation operation ≡ true → walk_proofs (S room) lock ≡ walk_lock (S room) lock
    unfolding walk_proofs walk_context context_for
    walk-known h = rw h

    -- another is 37
    pub walk-unknown : is_operation operation ≡ false → walk_proofs (S room) lock ≡ walk_outcome (Err InvalidOperation) 0 []
    unfolding walk_proofs walk_context context_for
    walk-unknown h = rw h

pub ruleset operations = (walk-known, walk-unknown)

-- ---- the head of the loop

-- the walk from a cursor on, n proofs being left
abbrev pub walk_from_cursor : Context → List ℕ → ℕ → ProofCursor → ℕ → ℕ → List ℕ → WalkOutcome
walk_from_cursor c lock n cursor i weight made =
    let ps = proofs_until_fault lock n cursor.offset cursor.least in
    walk_from c ps.clean i weight made ps.proofs

-- what holds where a turn begins: `made` is written, and the walk goes on from proof i
pub record WalkInvariant (c : Context) (lock : List ℕ) (count : ℕ) (answer₀ answer : List ℕ) (cursor : ProofCursor) (weight total i : ℕ) : Type 0 where
  pub made : List ℕ
  pub wrote : answer ≡ answered answer₀ made
  pub long : length made ≡ total
  pub fits : total ≤ length answer₀
  pub kept : length answer ≡ length answer₀
  pub bounded : weight ≤ 65535 * i
  pub goes : walk_lock c lock ≡ walk_from_cursor c lock (count - i) cursor i weight made

-- before the first turn
pub invariant-first : (c : Context) (lock answer₀ : List ℕ) (count : ℕ) → count ≡ proof_count_of lock
    → WalkInvariant c lock count answer₀ answer₀ witness.first_proof 0 0 0
unfolding walk_lock walk_list answered
invariant-first c lock answer₀ count e =
    record { made = []; wrote = refl; long = refl; fits = omega arith; kept = refl; bounded = omega arith; goes = rw (e, sub-zero) }

-- a proof with a faulty layout
walk-faulty : (c : Context) (lock : List ℕ) (n : ℕ) (cursor : ProofCursor) (i weight : ℕ) (made : List ℕ) (e : ProtocolError)
    → decide (Ok tt) (witness.proof_layout_rows lock cursor.offset cursor.least) ≡ Err e
    → walk_from_cursor c lock (suc n) cursor i weight made ≡ walk_outcome (Err e) i made
unfolding proofs_until_fault unless_faulty walk_from last_rows decide
walk-faulty c lock n cursor i weight made e h =
    rw h (ap (λ (x : ProtocolError). walk_outcome (Err x) i made) (layout-error lock cursor.offset cursor.least e h))

-- a proof with a sound one
walk-read : (c : Context) (lock : List ℕ) (n : ℕ) (cursor : ProofCursor) (i weight : ℕ) (made : List ℕ)
    → decide (Ok tt) (witness.proof_layout_rows lock cursor.offset cursor.least) ≡ Ok tt
    → let p = proof_of lock cursor.offset in
    walk_from_cursor c lock (suc n) cursor i weight made
    ≡ unless_failed (decide (Ok tt) (proof_rows c (length made) p)) i made
    (cond (eqb (verdict c i) 2) (walk_outcome (Err VerifierFailure) (i + 1) (made ++ request_of c p))
    (walk_from_cursor c lock n (witness.proof_cursor_behind lock cursor.offset) (i + 1) (weight + approved_weight c i p) (made ++ request_of c p)))
unfolding proofs_until_fault unless_faulty walk_from witness.proof_cursor_behind
walk-read c lock n cursor i weight made h = rw h

-- a return, from the outcome that was come to
pub walk-answered : {o : WalkOutcome} (answer₀ : List ℕ) {answer made : List ℕ} {f : Check} {i total : ℕ} {r : ProofWalkAnswer} → o ≡ walk_outcome f i made
    → length made ≡ total → answer ≡ answered answer₀ made → r ≡ record { found = f; count = i; length = total }
    → (r ≡ proof_walk_answer o) × (answer ≡ answered answer₀ o.made)
unfolding proof_walk_answer
walk-answered answer₀ {f = f} {i = i} e l a t = (
  t ∙ (ap (λ (n : ℕ). record { found = f; count = i; length = n }) (sym l) ∙ sym (ap proof_walk_answer e)),
  a ∙ sym (ap (λ (x : WalkOutcome). answered answer₀ x.made) e),
)

-- ---- the ways on from the head

-- a request was written behind the others
pub record RequestWritten (c : Context) (answer₀ answer made : List ℕ) (total : ℕ) (p : ProofReading) (after : List ℕ) (len : ℕ) : Type 0 where
  pub wrote : back_in total answer after ≡ answered answer₀ (made ++ request_of c p)
  pub long : length (made ++ request_of c p) ≡ total + len
  pub fits : total + len ≤ length answer₀
  pub kept : length (back_in total answer after) ≡ length answer₀

module _ (table store state : List ℕ) (operation : ℕ) (digest : List ℕ) (d : length digest ≡ 32) {lock answer₀ answer : List ℕ} {count : ℕ}
    {cursor : ProofCursor} {weight total i : ℕ}
    (h : WalkInvariant (S table store state operation digest (length answer₀)) lock count answer₀ answer cursor weight total i) where
  -- the walk's setting, the one of the lent part, and the proof
  abbrev C : Context
  C = S table store state operation digest (length answer₀)

  abbrev L : Context
  L = S table store state operation digest (length (lent_of total answer))

  abbrev P : ProofReading
  P = proof_of lock cursor.offset

  -- every proof is passed
  pub walk_ends : count ≤ i
      → walk_lock C lock ≡ walk_outcome (decide (Ok tt) (last_rows (eqb cursor.offset (length lock)) weight (threshold_of operation state))) i h.made
  unfolding walk_from proofs_until_fault walk_context context_for
  walk_ends e = let z : count - i ≡ 0 = omega arith in h.goes ∙ rw z

  lent_length : length (lent_of total answer) ≡ length answer₀ - total
  lent_length =
      let k : total ≤ length answer = omega arith in
      let n = mid_len total (length answer) answer (omega arith) in
      omega arith

  lent_rows : proof_rows L 0 P ≡ proof_rows C (length h.made) P
  lent_rows =
      let n = lent_length in
      rows_alike table store state operation digest (length (lent_of total answer)) (length answer₀) (length h.made) P (omega arith)

  module _ (m : i < count) {after : List ℕ} (left : after ≡ request_left (proof_check L lock cursor) (request_of L P) (lent_of total answer)) where
    from-here : walk_lock C lock ≡ walk_from_cursor C lock (suc (count - (i + 1))) cursor i weight h.made
    from-here =
        let z : count - i ≡ suc (count - (i + 1)) = omega arith in
        h.goes ∙ ap (λ (n : ℕ). walk_from_cursor C lock n cursor i weight h.made) z

    -- it was refused
    module _ (e : ProtocolError) (o : proof_outcome L lock cursor i ≡ Err e) where
      pub turn_stopped : walk_lock C lock ≡ walk_outcome (Err e) i h.made
      unfolding unless_failed
      turn_stopped =
          from-here
          ∙ ⊎_elim
          (λ l. walk-faulty C lock _ cursor i weight h.made e l)
          (λ r. walk-read C lock _ cursor i weight h.made r.0 ∙ rw (← lent_rows, r.1))
          (turn-split L lock cursor e (outcome-refused L lock cursor i e o))

      pub turn-unwritten : back_in total answer after ≡ answer
      turn-unwritten = unwritten total answer after (left ∙ rw (outcome-refused L lock cursor i e o))

    -- a request was made
    module _ (len : ℕ) (passed : proof_check L lock cursor ≡ Ok tt) (long : len ≡ length (request_of L P)) where
      same-request : request_of L P ≡ request_of C P
      same-request = request-alike table store state operation digest (length (lent_of total answer)) (length answer₀) P

      turn-written : RequestWritten C answer₀ answer h.made total P after len
      turn-written =
          let n = lent_length in
          let w : after ≡ answered (lent_of total answer) (request_of C P) = left ∙ rw passed (ap (answered (lent_of total answer)) same-request) in
          let b : back_in total answer after ≡ answered answer₀ (h.made ++ request_of C P) = part-put answer₀ h.made (request_of C P) total h.long h.fits h.wrote w in
          let l : length (h.made ++ request_of C P) ≡ total + len = omega (arith, length-append h.made (request_of C P), long ∙ ap length same-request) in
          let k : length (request_of L P) ≤ length (lent_of total answer) =
          request_room table store state operation digest (length (lent_of total answer)) P.slot P.bytes d (turn-both L lock cursor passed).1
          in
          let f : total + len ≤ length answer₀ = omega arith in
          record { wrote = b; long = l; fits = f; kept = ap length b ∙ answered-length answer₀ (h.made ++ request_of C P) (omega arith) }

      gone : walk_lock C lock
          ≡ cond (eqb (verdict C i) 2) (walk_outcome (Err VerifierFailure) (i + 1) (h.made ++ request_of C P))
          (walk_from_cursor C lock (count - (i + 1)) (witness.proof_cursor_behind lock cursor.offset) (i + 1) (weight + approved_weight C i P) (h.made ++ request_of C P))
      unfolding unless_failed
      gone =
          let b = turn-both L lock cursor passed in
          from-here ∙ (walk-read C lock _ cursor i weight h.made b.0 ∙ rw (← lent_rows, b.1))

    -- its verdict is 2
    module _ (len : ℕ) (o : proof_outcome L lock cursor i ≡ Ok (outcome.Failed len)) where
      pub failed-written : RequestWritten C answer₀ answer h.made total P after len
      failed-written = let z = outcome-failed L lock cursor i len o in turn-written len z.0 z.1

      pub turn-failed : walk_lock C lock ≡ walk_outcome (Err VerifierFailure) (i + 1) (h.made ++ request_of C P)
      turn-failed =
          let z = outcome-failed L lock cursor i len o in
          let v : verdict C i ≡ 2 = verdict-alike table store state operation digest (length answer₀) (length (lent_of total answer)) i ∙ z.2 in
          gone len z.0 z.1 ∙ rw v

    -- it is another
    module _ (len added : ℕ) (next : ProofCursor) (o : proof_outcome L lock cursor i ≡ Ok (outcome.Onward len added next)) where
      pub onward-written : RequestWritten C answer₀ answer h.made total P after len
      onward-written = let z = outcome-onward L lock cursor i len added next o in turn-written len z.0 z.1

      pub turn-onward : added ≤ 65535 → WalkInvariant C lock count answer₀ (back_in total answer after) next (weight + added) (total + len) (i + 1)
      turn-onward small =
          let r = onward-written in
          let z = outcome-onward L lock cursor i len added next o in
          let v : verdict C i ≢ 2 = λ y. z.2 (verdict-alike table store state operation digest (length (lent_of total answer)) (length answer₀) i ∙ y) in
          let a : added ≡ approved_weight C i P = z.3 ∙ earned-alike table store state operation digest (length (lent_of total answer)) (length answer₀) i P in
          record {
            made = h.made ++ request_of C P;
            wrote = r.wrote;
            long = r.long;
            fits = r.fits;
            kept = r.kept;
            bounded = omega (arith, h.bounded);
            goes = gone len z.0 z.1 ∙ rw (ne_eqb (verdict C i) 2 v, a, z.4);
          }

pub ruleset walks = (invariant-first, walk_ends, turn_stopped, turn-unwritten, failed-written, turn-failed, onward-written, turn-onward)
