-- What a reader's answer says of its checks, for every format: it accepts exactly where every check passes, and refuses
-- exactly with the first that fails.
-- Assumes nothing.
use Rattle.std.specs.Prelude.{Err, Ok, Result}
use mathlib.Core.Path.{◌≡◌, refl, sym, ap, ◌∙◌}
use mathlib.Core.List.{List}
use mathlib.Core.Logic.{◌↔◌}
use Prim.Native.Nat.{ℕ}
use native.Mathlib.Omega.{arith}
use Rattle.protocol.specs.Rows.{Row, ◌then◌, decide, AllPass, FirstFailed, Check}
use Rattle.protocol.specs.declared.error.ProtocolError.{ProtocolError}
use Rattle.protocol.proofs.AllPass.{passed-all-pass, all-pass-passed, failed-first, first-failed}

-- an answer by what the checks found, and what they found by the answer
module _ {A : Type 0} (answer : Check → A) (found : A → Check) (back : (k : Check) → found (answer k) ≡ k) where
  -- two findings with one answer are the same
  pub answer-found : (k j : Check) → answer k ≡ answer j → k ≡ j
  answer-found k j e = sym (back k) ∙ (ap found e ∙ back j)

  -- an answer that accepts is the one of checks that passed
  pub answer-given : (k : Check) (a : A) → answer k ≡ a → found a ≡ Ok tt → (k ≡ Ok tt) × (answer (Ok tt) ≡ a)
  answer-given k a e h =
      let p : k ≡ Ok tt = sym (back k) ∙ (ap found e ∙ h) in
      (p, sym (ap answer p) ∙ e)

  -- accepted exactly where every check passes
  pub answer-accepts : (rs : List Row) → (answer (decide (Ok tt) rs) ≡ answer (Ok tt)) ↔ AllPass rs
  answer-accepts rs = (λ e. passed-all-pass rs (answer-found _ (Ok tt) e), λ h. ap answer (all-pass-passed rs h))

  -- refused exactly with the first check that fails
  pub answer-refuses : (rs : List Row) (x : ProtocolError) → (answer (decide (Ok tt) rs) ≡ answer (Err x)) ↔ FirstFailed rs x
  answer-refuses rs x = (λ e. failed-first rs x (answer-found _ (Err x) e), λ f. ap answer (first-failed rs x f))

-- the answer that gives a value where the checks passed
module _ {A : Type 0} (x : A) where
  -- what they found, by that answer
  abbrev then_found : Result A ProtocolError → Check
  then_found (Ok _) = Ok tt
  then_found (Err e) = Err e

  then_back : (k : Check) → then_found (k then Ok x) ≡ k
  then_back (Ok _) = refl
  then_back (Err e) = refl

  -- it gives the value exactly where every check passes
  pub then-accepts : (rs : List Row) → (decide (Ok tt) rs then Ok x ≡ Ok x) ↔ AllPass rs
  then-accepts rs = answer-accepts (λ k. k then Ok x) then_found then_back rs

  -- and refuses exactly with the first check that fails
  pub then-refuses : (rs : List Row) (e : ProtocolError) → (decide (Ok tt) rs then Ok x ≡ Err e) ↔ FirstFailed rs e
  then-refuses rs e = answer-refuses (λ k. k then Ok x) then_found then_back rs e

  -- a value that it gives is that one, and the checks passed
  pub then-given : (k : Check) (y : A) → k then Ok x ≡ Ok y → (k ≡ Ok tt) × (x ≡ y)
  then-given (Ok _) y h = (refl, cc)
  then-given (Err e) y h = absurd (let z : ◌≡◌ {A = ℕ} 0 1 = cc in omega arith)

  -- its refusal is what they found
  pub then-refused : (k : Check) (e : ProtocolError) → k then Ok x ≡ Err e → k ≡ Err e
  then-refused k e h = sym (then_back k) ∙ ap then_found h
