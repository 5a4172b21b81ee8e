-- The walk over a list of proofs passes exactly where every proof's rows pass and there is a quorum; its number is 0 or 28 exactly
-- where every proof's rows pass; and what it has written.
-- Assumes nothing.
use Rattle.std.specs.Prelude.{Err, Ok}
use mathlib.Core.Path.{◌≡◌, refl, sym, ap, ◌∙◌}
use mathlib.Core.Logic.{◌↔◌, ◌≢◌, ◌⊎◌, inl, inr, ⊎_elim}
use mathlib.Core.Bool.{Bool, true, false, cond}
use mathlib.Core.List.Memᴰ
use mathlib.Core.List.{List, [], ◌∷◌, ◌++◌, append_assoc, append-nil, Memᴰ}
use Prim.Native.Nat.{ℕ, zero, suc, ◌+◌, ◌≤◌, ◌<◌, zero-le, suc-le-suc}
use native.Mathlib.Nat.{le_of_suc-le-suc}
use native.Mathlib.Omega.{arith}
use lib.ListN.{length, get_or, take, drop, length-append}
use lib.Dec.{eqb}
use borrow.Author.Tests.{eq-eqb, ne_eqb, eqb-true, eqb-false, leb-true, le-leb, ltb-true, lt-ltb}
use Rattle.octets.specs.Lists.{Rising}
use Rattle.octets.proofs.RisingLaws.{rising-less}
use Rattle.protocol.specs.Errors.{error_number}
use Rattle.protocol.specs.Rows.{decide, check_number, Check}
use Rattle.protocol.specs.declared.error.ProtocolError.{ProtocolError}
use Rattle.protocol.specs.declared.error.ProtocolError.TheVariants.{BufferTooShort, InvalidWitness, InvalidCapability, InvalidVerifierRef, VerifierFailure, InvalidRequest, LengthOverflow}
use Rattle.protocol.proofs.ErrorNumbers.{not-0}
use Rattle.protocol.proofs.AllPass.{passed-all-pass, all-pass-passed}
use Rattle.protocol.proofs.Each.{Each, Refuses, each-refuses}
use Rattle.quorum.specs.Slots.{known_slot, entry_for, slots_weight}
use Rattle.quorum.specs.Operation.{capable}
use Rattle.quorum.proofs.Weights.{weight-subset}
use Rattle.account_witness.specs.Reading.{ProofReading, proof_slots}
use Rattle.decision.specs.Proofs.{Context, request_limit_rows, authenticator_rows, proof_rows, request_of, requests_of}
use Rattle.decision.specs.Walk.{WalkOutcome, walk_outcome, verdict, approved_weight, last_rows, unless_failed, walk_from}
use Rattle.decision.specs.Decision.{EachPasses, Approved, Quorum}

-- The three ways on from a proof.
module _ (c : Context) (clean : Bool) (i weight : ℕ) (made : List ℕ) (p : ProofReading) (ps : List ProofReading) where
  -- a row refuses it,
  pub walk-stops : (e : ProtocolError) → decide (Ok tt) (proof_rows c (length made) p) ≡ Err e
      → walk_from c clean i weight made (p ∷ ps) ≡ walk_outcome (Err e) i made
  unfolding walk_from unless_failed
  walk-stops e h = rw h

  -- its request was made and its verdict is 2,
  pub walk-fails : decide (Ok tt) (proof_rows c (length made) p) ≡ Ok tt → verdict c i ≡ 2
      → walk_from c clean i weight made (p ∷ ps) ≡ walk_outcome (Err VerifierFailure) (i + 1) (made ++ request_of c p)
  unfolding walk_from unless_failed
  walk-fails h v = rw (h, eq-eqb (verdict c i) 2 v)

  -- or the next proof comes
  pub walk-goes : decide (Ok tt) (proof_rows c (length made) p) ≡ Ok tt → verdict c i ≢ 2
      → walk_from c clean i weight made (p ∷ ps) ≡ walk_from c clean (i + 1) (weight + approved_weight c i p) (made ++ request_of c p) ps
  unfolding walk_from unless_failed
  walk-goes h v = rw (h, ne_eqb (verdict c i) 2 v)

-- ---- which numbers come from behind the last proof

-- 0 and 28
abbrev pub ZeroOr28 : ℕ → Type 0
ZeroOr28 n = (n ≡ 0) ⊎ (n ≡ 28)

-- the refusal of a row before those
abbrev Earlier : ProtocolError → Type 0
Earlier e = ¬ ZeroOr28 (error_number e)

earlier : (e : ProtocolError) → error_number e ≢ 28 → Earlier e
earlier e n (inl z) = not-0 e z
earlier e n (inr z) = n z

-- every row of a proof is before them
proof-earlier : (c : Context) (used : ℕ) (p : ProofReading) → Each Earlier (proof_rows c used p)
unfolding proof_rows authenticator_rows request_limit_rows
proof-earlier c used p =
    let witness = earlier InvalidWitness (λ z. omega arith) in
    let capability = earlier InvalidCapability (λ z. omega arith) in
    let verifier = earlier InvalidVerifierRef (λ z. omega arith) in
    let request = earlier InvalidRequest (λ z. omega arith) in
    let overflow = earlier LengthOverflow (λ z. omega arith) in
    let room = earlier BufferTooShort (λ z. omega arith) in
    search depth 12

-- A walk that came behind its last proof: each turn's rows passed and its verdict was not 2.
turn_last : (k : Check) (v : ℕ) (onward : WalkOutcome) (i j : ℕ) (m l : List ℕ) → Refuses Earlier k
    → ZeroOr28 (check_number (unless_failed k i m (cond (eqb v 2) (walk_outcome (Err VerifierFailure) j l) onward)).found)
    → (k ≡ Ok tt) × (v ≢ 2) × ZeroOr28 (check_number onward.found)
unfolding unless_failed
turn_last (Err e) v onward i j m l r h = absurd (r h)
turn_last (Ok _) v onward i j m l r h = go (eqb v 2) refl h
  where
    go : (b : Bool) → eqb v 2 ≡ b → ZeroOr28 (check_number (cond b (walk_outcome (Err VerifierFailure) j l) onward).found)
        → (◌≡◌ {A = Check} (Ok tt) (Ok tt)) × (v ≢ 2) × ZeroOr28 (check_number onward.found)
    go true q h = absurd (earlier VerifierFailure (λ z. omega arith) h)
    go false q h = (refl, eqb-false v 2 q, h)

end-last : (clean : Bool) (weight threshold : ℕ) → ZeroOr28 (check_number (decide (Ok tt) (last_rows clean weight threshold))) → clean ≡ true
unfolding last_rows decide
end-last true weight threshold h = refl
end-last false weight threshold h = absurd (earlier InvalidWitness (λ z. omega arith) h)

module _ (c : Context) (clean : Bool) where
  last-each : (i weight : ℕ) (made : List ℕ) (ps : List ProofReading) → ZeroOr28 (check_number (walk_from c clean i weight made ps).found)
      → (clean ≡ true) × EachPasses c i (length made) ps
  unfolding walk_from
  last-each i weight made [] h = (end-last clean weight c.threshold h, tt)
  last-each i weight made (p ∷ ps) h =
      let k = each-refuses Earlier _ (proof-earlier c (length made) p) in
      let z = turn_last (decide (Ok tt) (proof_rows c (length made) p)) (verdict c i) _ _ _ _ _ k h in
      let r = last-each (i + 1) (weight + approved_weight c i p) (made ++ request_of c p) ps z.2 in
      (r.0, (passed-all-pass (proof_rows c (length made) p) z.0, z.1, rw length-append at r.1))

-- Behind the last proof, with nothing that follows it, only 28 refuses,
end-number : (weight threshold : ℕ) → ZeroOr28 (check_number (decide (Ok tt) (last_rows true weight threshold)))
unfolding last_rows decide
end-number weight threshold =
    let later = drop 1 (last_rows true weight threshold) in
    go (decide (Ok tt) later) (each-refuses (λ e. error_number e ≡ 28) later (refl, (refl, tt)))
  where
    go : (k : Check) → Refuses (λ e. error_number e ≡ 28) k → ZeroOr28 (check_number k)
    go (Ok _) h = inl refl
    go (Err e) h = inr h

-- and nothing is found exactly where the weight reaches a threshold above zero.
end-passes : (clean : Bool) (weight threshold : ℕ)
    → (decide (Ok tt) (last_rows clean weight threshold) ≡ Ok tt) ↔ ((clean ≡ true) × (0 < threshold) × (threshold ≤ weight))
unfolding last_rows
end-passes clean weight threshold = (there, back)
  where
    there : decide (Ok tt) (last_rows clean weight threshold) ≡ Ok tt → (clean ≡ true) × (0 < threshold) × (threshold ≤ weight)
    there h =
        let z = passed-all-pass (last_rows clean weight threshold) h in
        (z.0, omega (arith, ltb-true, z.1.0), omega (arith, leb-true, z.1.1.0))

    back : (clean ≡ true) × (0 < threshold) × (threshold ≤ weight) → decide (Ok tt) (last_rows clean weight threshold) ≡ Ok tt
    back h = all-pass-passed (last_rows clean weight threshold) (h.0, (lt-ltb _ _ h.1, (le-leb _ _ h.2, tt)))

module _ (c : Context) where
  -- the slots of the approved proofs, from proof i on
  abbrev approved : ℕ → List ProofReading → List ℕ
  approved i [] = []
  approved i (p ∷ ps) = cond (eqb (verdict c i) 0) (p.slot ∷ approved (i + 1) ps) (approved (i + 1) ps)

  approved-weight : (i : ℕ) (p : ProofReading) (ps : List ProofReading)
      → approved_weight c i p + slots_weight c.entries (approved (i + 1) ps) ≡ slots_weight c.entries (approved i (p ∷ ps))
  unfolding approved_weight
  approved-weight i p ps = go (eqb (verdict c i) 0)
    where
      go : (b : Bool) → cond b (entry_for p.slot c.entries).weight 0 + slots_weight c.entries (approved (i + 1) ps)
          ≡ slots_weight c.entries (cond b (p.slot ∷ approved (i + 1) ps) (approved (i + 1) ps))
      go true = refl
      go false = omega arith

  approved-rising : (i l : ℕ) (ps : List ProofReading) → Rising l (proof_slots ps) → Rising l (approved i ps)
  approved-rising i l [] r = tt
  approved-rising i l (p ∷ ps) r = go (eqb (verdict c i) 0) (approved-rising (i + 1) (p.slot + 1) ps r.1)
    where
      go : (b : Bool) → Rising (p.slot + 1) (approved (i + 1) ps) → Rising l (cond b (p.slot ∷ approved (i + 1) ps) (approved (i + 1) ps))
      go true h = (r.0, h)
      go false h = rising-less (approved (i + 1) ps) (omega (arith, r.0)) h

  mem-cond : (b : Bool) (x : ℕ) {s : ℕ} {xs : List ℕ} → Memᴰ s xs → Memᴰ s (cond b (x ∷ xs) xs)
  mem-cond true x m = Memᴰ.tail m
  mem-cond false x m = m

  approved-has : (i : ℕ) (ps : List ProofReading) (k : ℕ) → k < length ps → verdict c (i + k) ≡ 0
      → Memᴰ (get_or (proof_slots ps) k 0) (approved i ps)
  approved-has i [] k h v = absurd (omega arith)
  approved-has i (p ∷ ps) zero h v =
      let e : i + zero ≡ i = omega arith in
      rw (eq-eqb (verdict c i) 0 (rw e at v)) (Memᴰ.head refl)
  approved-has i (p ∷ ps) (suc k) h v =
      let e : i + suc k ≡ i + 1 + k = omega arith in
      mem-cond (eqb (verdict c i) 0) p.slot (approved-has (i + 1) ps k (le_of_suc-le-suc h) (rw e at v))

  abbrev From : ℕ → List ProofReading → ℕ → Type 0
  From i ps s =
      (known_slot s c.entries ≡ true) × (capable c.operation (entry_for s c.entries).capabilities ≡ true)
      × (k : ℕ) × (k < length ps) × (get_or (proof_slots ps) k 0 ≡ s) × (verdict c (i + k) ≡ 0)

  approved-from : (i used : ℕ) (ps : List ProofReading) → EachPasses c i used ps → (s : ℕ) → Memᴰ s (approved i ps) → From i ps s
  unfolding proof_rows authenticator_rows
  approved-from i used [] pass s m = absurd (Memᴰ.not-nil m)
  approved-from i used (p ∷ ps) pass s m =
      go (eqb (verdict c i) 0) refl (approved-from (i + 1) (used + length (request_of c p)) ps pass.2 s) m
    where
      later : From (i + 1) ps s → From i (p ∷ ps) s
      later f =
          let e : i + 1 + f.2 ≡ i + suc f.2 = omega arith in
          (f.0, f.1, suc f.2, suc-le-suc f.3, f.4, rw e at f.5)

      here : verdict c i ≡ 0 → s ≡ p.slot → From i (p ∷ ps) s
      here v e =
          let z : i + zero ≡ i = omega arith in
          (rw e pass.0.0, rw e pass.0.1.0, zero, omega arith, sym e, rw z v)

      go : (b : Bool) → eqb (verdict c i) 0 ≡ b → (Memᴰ s (approved (i + 1) ps) → From (i + 1) ps s)
          → Memᴰ s (cond b (p.slot ∷ approved (i + 1) ps) (approved (i + 1) ps)) → From i (p ∷ ps) s
      go true v ih n = ⊎_elim (here (eqb-true (verdict c i) 0 v)) (λ t. later (ih t)) (Memᴰ.cases_cons n)
      go false v ih n = later (ih n)

  -- where every proof's rows pass, the walk makes every request and weighs the approved
  walk-each : (clean : Bool) (i weight : ℕ) (made : List ℕ) (ps : List ProofReading) → EachPasses c i (length made) ps
      → walk_from c clean i weight made ps
      ≡ walk_outcome (decide (Ok tt) (last_rows clean (weight + slots_weight c.entries (approved i ps)) c.threshold)) (i + length ps) (made ++ requests_of c ps)
  unfolding walk_from requests_of
  walk-each clean i weight made [] pass =
      let a : weight + 0 ≡ weight = omega arith in
      let b : i + 0 ≡ i = omega arith in
      rw (a, b, append-nil)
  walk-each clean i weight made (p ∷ ps) pass =
      let req = request_of c p in
      let fits : EachPasses c (i + 1) (length (made ++ req)) ps = rw length-append pass.2 in
      let a : weight + approved_weight c i p + slots_weight c.entries (approved (i + 1) ps) ≡ weight + slots_weight c.entries (approved i (p ∷ ps)) = omega (arith, approved-weight i p ps) in
      let b : i + 1 + length ps ≡ i + suc (length ps) = omega arith in
      walk-goes c clean i weight made p ps (all-pass-passed (proof_rows c (length made) p) pass.0) pass.1
      ∙ (walk-each clean (i + 1) (weight + approved_weight c i p) (made ++ req) ps fits ∙ rw (a, b, append_assoc))

  -- what a walk has written is the requests of the proofs that it counts, in order, whatever it ends with
  abbrev Written : ℕ → List ℕ → List ProofReading → WalkOutcome → Type 0
  Written i made ps o = (k : ℕ) × (k ≤ length ps) × (o.count ≡ i + k) × (o.made ≡ made ++ requests_of c (take k ps))

  written : (clean : Bool) (i weight : ℕ) (made : List ℕ) (ps : List ProofReading) → Written i made ps (walk_from c clean i weight made ps)
  unfolding walk_from requests_of unless_failed
  written clean i weight made [] = (zero, zero-le, omega arith, sym (append-nil made))
  written clean i weight made (p ∷ ps) =
      go (decide (Ok tt) (proof_rows c (length made) p)) (eqb (verdict c i) 2) _
      (written clean (i + 1) (weight + approved_weight c i p) (made ++ request_of c p) ps)
    where
      go : (k : Check) (b : Bool) (o : WalkOutcome) → Written (i + 1) (made ++ request_of c p) ps o
          → Written i made (p ∷ ps) (unless_failed k i made (cond b (walk_outcome (Err VerifierFailure) (i + 1) (made ++ request_of c p)) o))
      go (Ok _) true o h = (1, omega arith, refl, rw append-nil)
      go (Ok _) false o h = (suc h.0, suc-le-suc h.1, omega (arith, h.2), h.3 ∙ append_assoc made (request_of c p) (requests_of c (take h.0 ps)))
      go (Err e) b o h = (zero, zero-le, omega arith, sym (append-nil made))

-- where every proof's rows pass, the walk finds what the approved weight makes of the rows behind the last proof
each-found : (c : Context) (clean : Bool) (ps : List ProofReading) → EachPasses c 0 0 ps
    → (walk_from c clean 0 0 [] ps).found ≡ decide (Ok tt) (last_rows clean (slots_weight c.entries (approved c 0 ps)) c.threshold)
each-found c clean ps pass =
    let z : 0 + slots_weight c.entries (approved c 0 ps) ≡ slots_weight c.entries (approved c 0 ps) = omega arith in
    ap (λ (o : WalkOutcome). o.found) (walk-each c clean 0 0 [] ps pass) ∙ rw z

-- Its number is 0 or 28 exactly where nothing follows the proofs and each proof's rows pass.
pub walk-zero-or-28 : (c : Context) (clean : Bool) (ps : List ProofReading)
    → ZeroOr28 (check_number (walk_from c clean 0 0 [] ps).found) ↔ ((clean ≡ true) × EachPasses c 0 0 ps)
walk-zero-or-28 c clean ps = (last-each c clean 0 0 [] ps, back)
  where
    back : (clean ≡ true) × EachPasses c 0 0 ps → ZeroOr28 (check_number (walk_from c clean 0 0 [] ps).found)
    back h = rw (each-found c clean ps h.1, h.0) (end-number (slots_weight c.entries (approved c 0 ps)) c.threshold)

-- Passed exactly where nothing follows the proofs, each proof's rows pass, and there is a quorum.
pub walk-decides : (c : Context) (clean : Bool) (ps : List ProofReading) → Rising 0 (proof_slots ps)
    → ((walk_from c clean 0 0 [] ps).found ≡ Ok tt) ↔ ((clean ≡ true) × EachPasses c 0 0 ps × Quorum c ps)
walk-decides c clean ps rises = (there, back)
  where
    approves : EachPasses c 0 0 ps → (s : ℕ) → Memᴰ s (approved c 0 ps) → Approved c ps s
    approves pass s m =
        let f = approved-from c 0 0 ps pass s m in
        let z : 0 + f.2 ≡ f.2 = omega arith in
        record { in_state = f.0; has_capability = f.1; index = f.2; is_proof = f.3; its_slot = f.4; is_approved = rw z at f.5 }

    there : (walk_from c clean 0 0 [] ps).found ≡ Ok tt → (clean ≡ true) × EachPasses c 0 0 ps × Quorum c ps
    there h =
        let z = (walk-zero-or-28 c clean ps).0 (inl (ap check_number h)) in
        let e = (end-passes clean (slots_weight c.entries (approved c 0 ps)) c.threshold).0 (sym (each-found c clean ps z.1) ∙ h) in
        let quorum : Quorum c ps = record {
          set = approved c 0 ps;
          is_set = approved-rising c 0 0 ps rises;
          each = approves z.1;
          enough = e.2;
          above = e.1;
        } in
        (z.0, z.1, quorum)

    member : (q : Quorum c ps) (s : ℕ) → Memᴰ s q.set → Memᴰ s (approved c 0 ps)
    member q s m =
        let a = q.each s m in
        let z : 0 + a.index ≡ a.index = omega arith in
        Memᴰ.cast (sym a.its_slot) (approved-has c 0 ps a.index a.is_proof (rw z a.is_approved))

    back : (clean ≡ true) × EachPasses c 0 0 ps × Quorum c ps → (walk_from c clean 0 0 [] ps).found ≡ Ok tt
    back h =
        let q = h.2 in
        let le = weight-subset c.entries q.set (approved c 0 ps) 0 0 q.is_set (approved-rising c 0 0 ps rises) (member q) in
        each-found c clean ps h.1
        ∙ (end-passes clean (slots_weight c.entries (approved c 0 ps)) c.threshold).1 (h.0, q.above, omega (arith, q.enough))

-- Where each proof's rows pass: one request for each proof, in order.
pub walk-answers : (c : Context) (clean : Bool) (ps : List ProofReading) → EachPasses c 0 0 ps
    → ((walk_from c clean 0 0 [] ps).count ≡ length ps) × ((walk_from c clean 0 0 [] ps).made ≡ requests_of c ps)
walk-answers c clean ps pass =
    let e = walk-each c clean 0 0 [] ps pass in
    let z : 0 + length ps ≡ length ps = omega arith in
    (ap (λ (o : WalkOutcome). o.count) e ∙ z, ap (λ (o : WalkOutcome). o.made) e)

-- And always, the requests of as many proofs as were counted.
pub walk-answers-always : (c : Context) (clean : Bool) (ps : List ProofReading)
    → (walk_from c clean 0 0 [] ps).made ≡ requests_of c (take (walk_from c clean 0 0 [] ps).count ps)
walk-answers-always c clean ps =
    let w = written c clean 0 0 [] ps in
    let z : (walk_from c clean 0 0 [] ps).count ≡ w.0 = omega (arith, w.2) in
    rw z w.3
