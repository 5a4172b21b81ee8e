-- The list of a witness lock's proofs, as the walk has it, against the rows and the reading of account_witness.
-- Assumes nothing.
use Rattle.std.specs.Prelude.{Err, Ok}
use mathlib.Core.Path.{◌≡◌, refl, ap, ◌∙◌}
use mathlib.Core.Logic.{◌↔◌}
use mathlib.Core.Bool.{true, false}
use mathlib.Core.List.{List, [], ◌∷◌}
use Prim.Native.Nat.{ℕ, zero, suc, ◌+◌}
use native.Mathlib.Omega.{arith}
use Rattle.octets.specs.Lists.{Rising}
use Rattle.protocol.specs.Rows.{decide, AllPass, Check}
use Rattle.protocol.specs.declared.error.ProtocolError.{ProtocolError}
use Rattle.protocol.proofs.AllPass.{passed-all-pass, all-pass-passed, all-pass-append, all-pass-split}
use Rattle.account_witness.specs.Fields.{proof_length_at, proof_slot_at}
use Rattle.account_witness.specs.Walk.{proof_layout_rows, proof_at, proofs_layout_rows}
use Rattle.account_witness.specs.Reading.{ProofReading, proof_given, proofs_of, proof_slots}
use Rattle.account_witness.proofs.WalkLaws.{proof-holds}
use Rattle.decision.specs.Walk.{ProofList, unless_faulty, proofs_until_fault}

-- The two ways on from an offset of the lock where a proof is due.
module _ (lock : List ℕ) (n at least : ℕ) where
  -- its layout is faulty,
  pub listed-stops : (e : ProtocolError) → decide (Ok tt) (proof_layout_rows lock at least) ≡ Err e
      → proofs_until_fault lock (suc n) at least ≡ record { proofs = []; clean = false }
  unfolding proofs_until_fault unless_faulty
  listed-stops e h = rw h

  -- or it is the next of the list
  abbrev pub ListBehind : ProofList
  ListBehind = proofs_until_fault lock n (at + 8 + proof_length_at lock at) (proof_slot_at lock at + 1)

  pub listed-goes : decide (Ok tt) (proof_layout_rows lock at least) ≡ Ok tt
      → proofs_until_fault lock (suc n) at least ≡ record { proofs = proof_given lock (proof_at lock at) ∷ ListBehind.proofs; clean = ListBehind.clean }
  unfolding proofs_until_fault unless_faulty
  listed-goes h = rw h refl

faulty-clean : (ps : ProofList) (k : Check) → (unless_faulty k ps).clean ≡ true → (k ≡ Ok tt) × (ps.clean ≡ true)
unfolding unless_faulty
faulty-clean ps (Ok _) h = (refl, h)
faulty-clean ps (Err e) h = absurd (let z : ◌≡◌ {A = ℕ} 0 1 = cc in omega arith)

module _ (lock : List ℕ) where
  clean-holds : (n at least : ℕ) → (proofs_until_fault lock n at least).clean ≡ true → AllPass (proofs_layout_rows lock n at least)
  unfolding proofs_until_fault proofs_layout_rows
  clean-holds zero at least h = (h, tt)
  clean-holds (suc n) at least h =
      let z = faulty-clean _ (decide (Ok tt) (proof_layout_rows lock at least)) h in
      all-pass-append (proof_layout_rows lock at least) _ (passed-all-pass (proof_layout_rows lock at least) z.0) (clean-holds n _ _ z.1)

  holds-clean : (n at least : ℕ) → AllPass (proofs_layout_rows lock n at least) → (proofs_until_fault lock n at least).clean ≡ true
  unfolding proofs_until_fault proofs_layout_rows
  holds-clean zero at least h = h.0
  holds-clean (suc n) at least h =
      let z = all-pass-split (proof_layout_rows lock at least) _ h in
      ap (λ (ps : ProofList). ps.clean) (listed-goes lock n at least (all-pass-passed (proof_layout_rows lock at least) z.0))
      ∙ holds-clean n _ _ z.1

  -- The list is clean exactly where every row of the proofs passes,
  pub listed-clean : (n at least : ℕ) → ((proofs_until_fault lock n at least).clean ≡ true) ↔ AllPass (proofs_layout_rows lock n at least)
  listed-clean n at least = (clean-holds n at least, holds-clean n at least)

  -- and then it is the reading's.
  pub listed-proofs : (n at least : ℕ) → AllPass (proofs_layout_rows lock n at least) → (proofs_until_fault lock n at least).proofs ≡ proofs_of lock n at
  unfolding proofs_until_fault proofs_layout_rows proofs_of
  listed-proofs zero at least h = refl
  listed-proofs (suc n) at least h =
      let z = all-pass-split (proof_layout_rows lock at least) _ h in
      ap (λ (ps : ProofList). ps.proofs) (listed-goes lock n at least (all-pass-passed (proof_layout_rows lock at least) z.0))
      ∙ ap (λ (ps : List ProofReading). proof_given lock (proof_at lock at) ∷ ps) (listed-proofs n _ _ z.1)

  -- Its slots rise strictly, whatever the bytes.
  pub listed-rising : (n at least : ℕ) → Rising least (proof_slots (proofs_until_fault lock n at least).proofs)
  unfolding proofs_until_fault proof_given proof_at
  listed-rising zero at least = tt
  listed-rising (suc n) at least = go (decide (Ok tt) (proof_layout_rows lock at least)) refl (listed-rising n _ _)
    where
      go : (k : Check) → decide (Ok tt) (proof_layout_rows lock at least) ≡ k → Rising (proof_slot_at lock at + 1) (proof_slots (ListBehind lock n at least).proofs)
          → Rising least (proof_slots (proofs_until_fault lock (suc n) at least).proofs)
      go (Ok _) h rest =
          rw (listed-goes lock n at least h) ((proof-holds lock at least (passed-all-pass (proof_layout_rows lock at least) h)).above, rest)
      go (Err e) h rest = rw (listed-stops lock n at least e h) tt
