-- What passes the writer's rows has a written form that the reader accepts.
-- Assumes nothing.
use mathlib.Core.Path.{◌≡◌, refl, sym, ap, ◌∙◌}
use mathlib.Core.Bool.{true}
use mathlib.Core.List.{List, [], ◌∷◌, ◌++◌, append_assoc, append-nil}
use Prim.Native.Nat.{ℕ, ◌+◌, ◌≤◌}
use native.Mathlib.Nat.{add_assoc}
use native.Mathlib.Omega.{arith}
use borrow.Author.Tests.{leb-true, le-leb, eq-eqb}
use lib.Dec.{leb}
use lib.ListN.{length, length-append}
use Rattle.octets.specs.Lists.{every, is_rising, joined}
use Rattle.octets.specs.Layout.{layout_bytes, layout_at, field_value}
use Rattle.octets.proofs.Truth.{and_both}
use Rattle.octets.proofs.LayoutLaws.{length-numbers}
use Rattle.protocol.specs.Rows.{AllPass}
use Rattle.protocol.proofs.AllPass.{all-pass-append}
use Rattle.account_witness.specs.Fields.{operation_of, proof_count_of, proof_length_at, proof_reserved_at, proof_slot_at}
use Rattle.account_witness.specs.Header.{witness_header_rows, witness_header_fields}
use Rattle.account_witness.specs.Walk.{proof_layout_rows, proofs_layout_rows}
use Rattle.account_witness.specs.Witness.{witness_rows}
use Rattle.account_witness.specs.Reading.{ProofReading, WitnessReading, proof_fields, proof_bytes, proofs_bytes, witness_head, witness_bytes, proof_slots, ProofTyped, ProofsTyped, WitnessTyped}
use Rattle.account_witness_writer.specs.Writer.{witness_total, lent_proof_rows, witness_writer_rows, proof_lengths, proofs_payload}
use Rattle.account_witness_writer.proofs.Lent.{length-slots, lent_total}
use Rattle.account_witness.proofs.Unique.{length-proof, table-read, len_read, witness-header-read}

-- a proof that is not empty, with a slot of at least `least`, wherever it stands
proof-rows : (s p t : List ℕ) (off least : ℕ) (q : ProofReading) → ProofTyped q → s ≡ p ++ (proof_bytes q ++ t) → length p ≡ off
    → 1 ≤ length q.bytes → least ≤ q.slot → AllPass (proof_layout_rows s off least)
unfolding proof_layout_rows proof_fields layout_at
proof-rows s p t off least q y e l some above =
    let r = table-read s p t off q y e l in
    let v : proof_slot_at s off ≡ q.slot = ap (field_value 0) r in
    let z : proof_reserved_at s off ≡ 0 = ap (field_value 1) r in
    let n : proof_length_at s off ≡ length q.bytes = len_read s p t off q y e l in
    let m : length s ≡ length p + (length (proof_bytes q) + length t) = ap length e ∙ simp length-append in
    let k : length (proof_bytes q) ≡ 8 + length q.bytes = length-proof q in
    let a : off + 8 ≤ length s = omega arith in
    let b : off + 8 + proof_length_at s off ≤ length s = omega arith in
    let c : 1 ≤ proof_length_at s off = omega arith in
    let d : least ≤ proof_slot_at s off = omega arith in
    (le-leb _ _ a, (eq-eqb _ _ z, (le-leb _ _ b, (le-leb _ _ c, (le-leb _ _ d, tt)))))

-- proofs one behind another, to the end
proofs-rows : (qs : List ProofReading) (s p : List ℕ) (off least : ℕ) → ProofsTyped qs → s ≡ p ++ proofs_bytes qs → length p ≡ off
    → every (leb 1) (proof_lengths qs) ≡ true → is_rising least (proof_slots qs) ≡ true → AllPass (proofs_layout_rows s (length qs) off least)
unfolding proofs_layout_rows proofs_bytes joined every is_rising proof_lengths proof_fields layout_at
proofs-rows [] s p off least y e l f g =
    let n : off ≡ length s = sym l ∙ (sym (ap length (append-nil p)) ∙ sym (ap length e)) in
    (eq-eqb _ _ n, tt)
proofs-rows (q ∷ qs) s p off least y e l f g =
    let f₂ = and_both _ _ f in
    let g₂ = and_both _ _ g in
    let t = proofs_bytes qs in
    let e₂ : s ≡ (p ++ proof_bytes q) ++ proofs_bytes qs = e ∙ simp append_assoc in
    let n : proof_length_at s off ≡ length q.bytes = len_read s p t off q y.0 e l in
    let v : proof_slot_at s off ≡ q.slot = ap (field_value 0) (table-read s p t off q y.0 e l) in
    let l₂ : length (p ++ proof_bytes q) ≡ off + 8 + length q.bytes = rw (length-append p (proof_bytes q), l, length-proof q, add_assoc) in
    all-pass-append (proof_layout_rows s off least) _ (proof-rows s p t off least q y.0 e l (leb-true _ _ f₂.0) (leb-true _ _ g₂.0))
    (rw (n, v) (proofs-rows qs s (p ++ proof_bytes q) (off + 8 + length q.bytes) (q.slot + 1) y.1 e₂ l₂ f₂.1 g₂.1))

-- the whole
pub written-accepted : (r : WitnessReading) → WitnessTyped r
    → AllPass (witness_writer_rows r.operation (proof_slots r.proofs) (proof_lengths r.proofs) (proofs_payload r.proofs)) → AllPass (witness_rows (witness_bytes r))
unfolding witness_rows witness_header_rows witness_writer_rows lent_proof_rows witness_bytes witness_header_fields layout_at
written-accepted r y h =
    let ps = r.proofs in
    let x = witness_head r in
    let s = witness_bytes r in
    let t = witness-header-read r y in
    let total : witness_total (proof_slots ps) (proofs_payload ps) ≡ length s = lent_total r in
    let count : proof_count_of s ≡ length ps = ap (field_value 3) t in
    let few : length (proof_slots ps) ≤ 16 = leb-true _ _ h.1.1.1.0 in
    let most : witness_total (proof_slots ps) (proofs_payload ps) ≤ 131072 = leb-true _ _ h.1.1.1.1.1.0 in
    let slots : length (proof_slots ps) ≡ length ps = length-slots ps in
    let a : 16 ≤ length s = omega arith in
    let b : length s ≤ 131072 = omega arith in
    let c : proof_count_of s ≤ 16 = omega arith in
    let magic = eq-eqb _ _ (ap (field_value 0) t) in
    let version = eq-eqb _ _ (ap (field_value 1) t) in
    let operation : operation_of s ≡ r.operation = ap (field_value 2) t in
    let zeros = eq-eqb _ _ (ap (field_value 4) t) in
    let proofs = proofs-rows ps s (layout_bytes x) 16 0 y.proofs refl (length-numbers x) h.1.1.1.1.0 h.1.1.1.1.1.1.0 in
    (le-leb _ _ a, (le-leb _ _ b, (magic, (version, (rw operation h.1.1.0, (zeros, (le-leb _ _ c, rw count proofs)))))))
