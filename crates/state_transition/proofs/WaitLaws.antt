-- What the rows of a wait find, and which of document 01's answers stay.
-- Assumes nothing.
use Rattle.std.specs.Prelude.{Err, Ok}
use mathlib.Core.Path.{◌≡◌, refl, sym, ◌∙◌}
use mathlib.Core.Logic.{◌≢◌, ◌⊎◌, inl, inr, ⊎_elim, ◌↔◌}
use mathlib.Core.Bool.{Bool, true, false, true≢false, false≢true}
use mathlib.Core.List.{List, [], ◌∷◌}
use Prim.Native.Nat.{ℕ}
use native.Mathlib.Omega.{arith}
use lib.Dec.{eqb, leb}
use borrow.Author.Tests.{eq-eqb, ne_eqb, eqb-true, eqb-false, le-leb}
use Rattle.protocol.specs.Rows.{row, decide, check_number, Check}
use Rattle.protocol.specs.declared.error.ProtocolError.TheVariants.{InvalidCapability, RecoveryLocked, InvalidSince}
use Rattle.protocol.proofs.AllPass.{decide-failed}
use Rattle.account_state.specs.Fields.{flags_of, recovery_enabled, recovery_since_of}
use Rattle.since.specs.Since.{since_fields, well_formed, reached, Reached, AbsoluteBlocks}
use Rattle.since.proofs.SinceLaws.{since-reached, blocks-formed, blocks-reached}
use Rattle.state_transition.specs.Transition.{wait_rows, recovery_rows}
use Rattle.state_transition.specs.Waiting.{WellFormed, WaitOver, WaitMalformed, WaitEarly}

-- ---- the rows of a wait that is none, and of one that is

-- what the tests of both numbers and of the wait find
abbrev found : Bool → Bool → Bool → Check
found true true true = (Ok tt)
found true true false = Err RecoveryLocked
found true false r = Err InvalidSince
found false g r = Err InvalidSince

passes : (f g r : Bool) → check_number (found f g r) ≡ 0 → (f ≡ true) × (g ≡ true) × (r ≡ true)
passes true true true h = (refl, refl, refl)
passes true true false h = absurd (omega arith)
passes true false r h = absurd (omega arith)
passes false g r h = absurd (omega arith)

malformed : (f g r : Bool) → (check_number (found f g r) ≡ 42) ↔ ((f ≡ false) ⊎ (g ≡ false))
malformed true true true = (λ h. absurd (omega arith), λ h. absurd (⊎_elim true≢false true≢false h))
malformed true true false = (λ h. absurd (omega arith), λ h. absurd (⊎_elim true≢false true≢false h))
malformed true false r = (λ h. inr refl, λ h. refl)
malformed false g r = (λ h. inl refl, λ h. refl)

early : (f g r : Bool) → check_number (found f g r) ≡ 34 → (f ≡ true) × (g ≡ true) × (r ≡ false)
early true true true h = absurd (omega arith)
early true true false h = (refl, refl, refl)
early true false r h = absurd (omega arith)
early false g r h = absurd (omega arith)

module _ (wait since : ℕ) where
  abbrev state : Bool
  state = well_formed (since_fields wait)

  abbrev input : Bool
  input = well_formed (since_fields since)

  abbrev over : Bool
  over = reached (since_fields wait) (since_fields since)

  no-wait : wait ≡ 0 → decide (Ok tt) (wait_rows wait since) ≡ Ok tt
  unfolding wait_rows decide
  no-wait z = rw (eq-eqb wait 0 z)

  a-wait : wait ≢ 0 → decide (Ok tt) (wait_rows wait since) ≡ found state input over
  unfolding wait_rows decide
  a-wait n = rw (ne_eqb wait 0 n) (go state input over)
    where
      go : (f g r : Bool) → decide (Ok tt) (row f InvalidSince ∷ row g InvalidSince ∷ row r RecoveryLocked ∷ []) ≡ found f g r
      go true true true = refl
      go true true false = refl
      go true false r = refl
      go false g r = refl

  abbrev number : ℕ
  number = check_number (decide (Ok tt) (wait_rows wait since))

  formed : state ≡ true → input ≡ true → WellFormed wait since
  formed f g = record { state = f; input = g }

  reads : WellFormed wait since → (over ≡ true) ↔ Reached (since_fields wait) (since_fields since)
  reads w = since-reached (since_fields wait) (since_fields since) w.state w.input

  -- a number other than 0 is of a wait
  waits : number ≢ 0 → wait ≢ 0
  waits n z = n (rw (no-wait z))

  -- 0, 42 and 34, each of them exactly there
  pub wait-over : (number ≡ 0) ↔ WaitOver wait since
  wait-over = (there (eqb wait 0) refl, back)
    where
      there : (b : Bool) → eqb wait 0 ≡ b → number ≡ 0 → WaitOver wait since
      there true z h = inl (eqb-true wait 0 z)
      there false z h =
          let p = passes state input over (rw (a-wait (eqb-false wait 0 z)) at h) in
          let w = formed p.0 p.1 in
          inr (w, (reads w).0 p.2)

      waited : (b : Bool) → eqb wait 0 ≡ b → WellFormed wait since → over ≡ true → number ≡ 0
      waited true z w o = rw (no-wait (eqb-true wait 0 z))
      waited false z w o = rw (a-wait (eqb-false wait 0 z), w.state, w.input, o)

      back : WaitOver wait since → number ≡ 0
      back (inl z) = rw (no-wait z)
      back (inr r) = waited (eqb wait 0) refl r.0 ((reads r.0).1 r.1)

  pub wait-malformed : (number ≡ 42) ↔ WaitMalformed wait since
  wait-malformed = (there, λ r. rw (a-wait r.waits) ((malformed state input over).1 r.malformed))
    where
      there : number ≡ 42 → WaitMalformed wait since
      there h =
          let n = waits (λ z. omega arith) in
          record { waits = n; malformed = (malformed state input over).0 (rw (a-wait n) at h) }

  pub wait-early : (number ≡ 34) ↔ WaitEarly wait since
  wait-early = (there, back)
    where
      there : number ≡ 34 → WaitEarly wait since
      there h =
          let n = waits (λ z. omega arith) in
          let e = early state input over (rw (a-wait n) at h) in
          let w = formed e.0 e.1 in
          record { waits = n; formed = w; early = λ r. false≢true (sym e.2 ∙ (reads w).1 r) }

      back : WaitEarly wait since → number ≡ 34
      back r = rw (a-wait r.waits, r.formed.state, r.formed.input) (last over refl)
        where
          last : (b : Bool) → over ≡ b → check_number (found true true b) ≡ 34
          last true o = absurd (r.early ((reads r.formed).0 o))
          last false o = refl

-- ---- absolute blocks

plain-wait : (wait since : ℕ) → AbsoluteBlocks (since_fields wait) → AbsoluteBlocks (since_fields since) → (c : Check)
    → decide c (wait_rows wait since) ≡ decide c (row (leb wait since) RecoveryLocked ∷ [])
unfolding decide
plain-wait wait since a b (Err e) = decide-failed (wait_rows wait since) e ∙ sym (decide-failed (row (leb wait since) RecoveryLocked ∷ []) e)
plain-wait wait since a b (Ok _) = go (eqb wait 0) refl
  where
    go : (z : Bool) → eqb wait 0 ≡ z → decide (Ok tt) (wait_rows wait since) ≡ decide (Ok tt) (row (leb wait since) RecoveryLocked ∷ [])
    go true z = let n = eqb-true wait 0 z in no-wait wait since n ∙ rw (le-leb wait since (omega arith))
    go false z = a-wait wait since (eqb-false wait 0 z) ∙ rw (blocks-formed wait a, blocks-formed since b, blocks-reached wait since a b) (last (leb wait since))
      where
        last : (r : Bool) → found true true r ≡ decide (Ok tt) (row r RecoveryLocked ∷ [])
        last true = refl
        last false = refl

-- where both are absolute blocks, document 01's rows decide: "recovery_since and the input's since are compared as plain u64"
pub since-plain : (since : ℕ) (current : List ℕ) → AbsoluteBlocks (since_fields (recovery_since_of current)) → AbsoluteBlocks (since_fields since)
    → decide (Ok tt) (recovery_rows since current)
    ≡ decide (Ok tt) (row (recovery_enabled (flags_of current)) InvalidCapability ∷ row (leb (recovery_since_of current) since) RecoveryLocked ∷ [])
unfolding recovery_rows decide
since-plain since current a b = plain-wait (recovery_since_of current) since a b _
