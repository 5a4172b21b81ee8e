-- A number that only some rows give: where the rows give it.
-- Assumes nothing.
use Rattle.std.specs.Prelude.{Err, Ok}
use mathlib.Core.Path.{◌≡◌, refl, sym, ◌∙◌}
use mathlib.Core.Logic.{◌≢◌, ◌⊎◌, inl, inr, ⊎_elim, ◌↔◌}
use mathlib.Core.List.{List, ◌++◌}
use Prim.Native.Nat.{ℕ, ◌<◌}
use native.Mathlib.Omega.{arith}
use Rattle.protocol.specs.Errors.{error_number}
use Rattle.protocol.specs.Rows.{Row, AllPass, decide, ◌then◌, check_number, Check}
use Rattle.protocol.specs.declared.error.ProtocolError.{ProtocolError}
use Rattle.protocol.proofs.AllPass.{failed-passed, decide-both, passed-all-pass, all-pass-passed}
use Rattle.protocol.proofs.Each.{Each, Refuses, each-refuses}

-- a refusal with another number than n
abbrev pub Other : ℕ → ProtocolError → Type 0
Other n e = error_number e ≢ n

-- n is no acceptance
module _ (n : ℕ) (refusal : 0 < n) where
  other-number : (k : Check) → Refuses (Other n) k → check_number k ≢ n
  other-number (Ok _) h q = absurd (omega arith)
  other-number (Err e) h q = h q

  -- rows among which none gives it
  pub others-not : (rs : List Row) → Each (Other n) rs → check_number (decide (Ok tt) rs) ≢ n
  others-not rs h = other-number (decide (Ok tt) rs) (each-refuses (Other n) rs h)

  -- rows after rows give it exactly where the first do, or where the first pass and the others do
  pub given-either : (ps qs : List Row)
      → (check_number (decide (Ok tt) (ps ++ qs)) ≡ n) ↔ ((check_number (decide (Ok tt) ps) ≡ n) ⊎ (AllPass ps × (check_number (decide (Ok tt) qs) ≡ n)))
  unfolding ◌then◌
  given-either ps qs = rw (decide-both ps qs) (go (decide (Ok tt) ps) refl)
    where
      go : (k : Check) → decide (Ok tt) ps ≡ k
          → (check_number (k then decide (Ok tt) qs) ≡ n) ↔ ((check_number k ≡ n) ⊎ (AllPass ps × (check_number (decide (Ok tt) qs) ≡ n)))
      go (Ok _) e = (λ h. inr (passed-all-pass ps e, h), λ h. ⊎_elim (λ z. absurd (omega arith)) (λ z. z.1) h)
      go (Err x) e = (λ h. inl h, λ h. ⊎_elim (λ z. z) (λ z. failed-passed x (sym e ∙ all-pass-passed ps z.0)) h)

  -- where neither those before nor those after give it, exactly where those before pass and those between give it
  pub given-between : (ps ws qs : List Row) → check_number (decide (Ok tt) ps) ≢ n → check_number (decide (Ok tt) qs) ≢ n
      → (check_number (decide (Ok tt) (ps ++ (ws ++ qs))) ≡ n) ↔ (AllPass ps × (check_number (decide (Ok tt) ws) ≡ n))
  given-between ps ws qs p q =
      (λ h. there ((given-either ps (ws ++ qs)).0 h), λ h. (given-either ps (ws ++ qs)).1 (inr (h.0, (given-either ws qs).1 (inl h.1))))
    where
      between : (check_number (decide (Ok tt) ws) ≡ n) ⊎ (AllPass ws × (check_number (decide (Ok tt) qs) ≡ n)) → check_number (decide (Ok tt) ws) ≡ n
      between (inl h) = h
      between (inr h) = absurd (q h.1)

      there : (check_number (decide (Ok tt) ps) ≡ n) ⊎ (AllPass ps × (check_number (decide (Ok tt) (ws ++ qs)) ≡ n))
          → AllPass ps × (check_number (decide (Ok tt) ws) ≡ n)
      there (inl h) = absurd (p h)
      there (inr h) = (h.0, between ((given-either ws qs).0 h.1))
