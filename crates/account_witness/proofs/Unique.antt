-- A reading is read back from its written form, so no two readings have the same.
-- Assumes nothing.
use mathlib.Core.Path.{◌≡◌, refl, ap, ◌∙◌}
use mathlib.Core.List.{List, [], ◌∷◌, ◌++◌, append_assoc, append-nil}
use Prim.Native.Nat.{ℕ, ◌+◌}
use native.Mathlib.Nat.{add_assoc}
use native.Mathlib.Omega.{arith}
use lib.ListN.{length, take, drop, length-append}
use Rattle.octets.specs.Lists.{joined}
use Rattle.octets.specs.Layout.{layout_bytes, layout_at, field_value}
use Rattle.octets.proofs.LayoutLaws.{numbers-back, length-numbers}
use Rattle.octets.proofs.Parts.{part-back}
use Rattle.account_witness.specs.Fields.{operation_of, proof_count_of, proof_length_at, proof_slot_at, witness_sequence_of}
use Rattle.account_witness.specs.Header.{witness_header_fields}
use Rattle.account_witness.specs.Walk.{proof_at}
use Rattle.account_witness.specs.Reading.{ProofReading, WitnessReading, proof_fields, proof_bytes, proofs_bytes, witness_head, witness_bytes, proof_given, proofs_of, witness_reading, ProofTyped, ProofsTyped, WitnessTyped}

-- the length of a proof's written form
pub length-proof : (p : ProofReading) → length (proof_bytes p) ≡ 8 + length p.bytes
unfolding proof_bytes proof_fields
length-proof p = length-append (layout_bytes (proof_fields p.slot (length p.bytes))) p.bytes ∙ ap (λ (n : ℕ). n + length p.bytes) (length-numbers (proof_fields p.slot (length p.bytes)))

-- one proof, wherever it stands
module _ (s p t : List ℕ) (off : ℕ) (q : ProofReading) (y : ProofTyped q) (e : s ≡ p ++ (proof_bytes q ++ t)) (l : length p ≡ off) where
  pub table-read : layout_at (2 ∷ 2 ∷ 4 ∷ []) s off ≡ proof_fields q.slot (length q.bytes)
  unfolding proof_bytes proof_fields
  table-read = numbers-back (proof_fields q.slot (length q.bytes)) s p (q.bytes ++ t) off (omega arith) (e ∙ simp append_assoc) l

  pub len_read : proof_length_at s off ≡ length q.bytes
  unfolding proof_fields layout_at
  len_read = simp add_assoc at (ap (field_value 2) table-read)

  bytes_read : take (length q.bytes) (drop (off + 8) s) ≡ q.bytes
  unfolding proof_bytes proof_fields
  bytes_read =
      let h = layout_bytes (proof_fields q.slot (length q.bytes)) in
      let n : length h ≡ 8 = length-numbers (proof_fields q.slot (length q.bytes)) in
      part-back s (p ++ h) q.bytes t (off + 8) _ (e ∙ simp append_assoc) (rw (length-append p h, l, n)) refl

  proof-read : proof_given s (proof_at s off) ≡ q
  unfolding proof_given proof_at proof_fields layout_at
  proof-read =
      let v : proof_slot_at s off ≡ q.slot = ap (field_value 0) table-read in
      rw (v, len_read, bytes_read)

-- proofs one behind another
proofs-read : (qs : List ProofReading) (s p t : List ℕ) (off : ℕ) → ProofsTyped qs → s ≡ p ++ (proofs_bytes qs ++ t) → length p ≡ off
    → proofs_of s (length qs) off ≡ qs
unfolding proofs_of proofs_bytes joined
proofs-read [] s p t off y e l = refl
proofs-read (q ∷ qs) s p t off y e l =
    let e₁ : s ≡ p ++ (proof_bytes q ++ (proofs_bytes qs ++ t)) = e ∙ simp append_assoc in
    let e₂ : s ≡ (p ++ proof_bytes q) ++ (proofs_bytes qs ++ t) = e ∙ simp append_assoc in
    let n : proof_length_at s off ≡ length q.bytes = len_read s p (proofs_bytes qs ++ t) off q y.0 e₁ l in
    let l₂ : length (p ++ proof_bytes q) ≡ off + 8 + proof_length_at s off = rw (length-append p (proof_bytes q), l, length-proof q, n, add_assoc) in
    rw (proof-read s p (proofs_bytes qs ++ t) off q y.0 e₁ l, proofs-read qs s (p ++ proof_bytes q) t (off + 8 + proof_length_at s off) y.1 e₂ l₂)

-- the header
pub witness-header-read : (r : WitnessReading) → WitnessTyped r
    → layout_at (4 ∷ 1 ∷ 1 ∷ 1 ∷ 1 ∷ 8 ∷ []) (witness_bytes r) 0 ≡ witness_head r
unfolding witness_bytes witness_header_fields
witness-header-read r y =
    numbers-back (witness_head r) (witness_bytes r) [] (proofs_bytes r.proofs) 0 (omega arith) refl refl

-- the whole
pub witness-read : (r : WitnessReading) → WitnessTyped r → witness_reading (witness_bytes r) ≡ r
unfolding witness_reading witness_bytes witness_header_fields layout_at
witness-read r y =
    let t = witness_head r in
    let s = witness_bytes r in
    let h = witness-header-read r y in
    let e₁ : operation_of s ≡ r.operation = ap (field_value 2) h in
    let e₂ : proof_count_of s ≡ length r.proofs = ap (field_value 3) h in
    let e₃ : witness_sequence_of s ≡ r.sequence = ap (field_value 5) h in
    rw (e₁, e₂, e₃, proofs-read r.proofs s (layout_bytes t) [] 16 y.proofs (simp append-nil) (length-numbers t))
