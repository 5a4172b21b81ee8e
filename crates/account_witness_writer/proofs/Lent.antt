-- The slices of a list of proofs lend these proofs again, and those of an accepted witness lock pass the writer's rows.
-- Assumes nothing.
use mathlib.Core.Path.{◌≡◌, refl, sym, ap, ◌∙◌}
use mathlib.Core.Bool.{true}
use mathlib.Core.List.{List, [], ◌∷◌}
use Prim.Native.Nat.{ℕ, zero, suc, ◌+◌, ◌*◌, ◌≤◌}
use native.Mathlib.Omega.{arith}
use borrow.Author.Tests.{le-leb, eq-eqb}
use lib.Dec.{leb}
use lib.ListN.{length, length-append, length-map}
use lib.Seq.{take-append_seam, drop-append_seam}
use Rattle.octets.specs.Le.{Bytes}
use Rattle.octets.specs.Lists.{every, is_rising, sum, joined}
use Rattle.octets.specs.Layout.{layout_bytes}
use Rattle.octets.proofs.Parts.{part_length}
use Rattle.octets.proofs.LayoutLaws.{length-numbers}
use Rattle.protocol.specs.Rows.{AllPass}
use Rattle.account_witness.specs.Fields.{proof_count_of, proof_length_at, proof_slot_at}
use Rattle.account_witness.specs.Header.{witness_header_fields}
use Rattle.account_witness.specs.Walk.{proof_at, proofs_layout_rows}
use Rattle.account_witness.specs.Witness.{witness_rows}
use Rattle.account_witness.specs.Reading.{ProofReading, WitnessReading, proofs_bytes, witness_head, witness_bytes, proof_given, proofs_of, witness_reading, proof_slots}
use Rattle.account_witness_writer.specs.Writer.{lent_proofs, witness_total, lent_proof_rows, witness_writer_rows, proof_lengths, proofs_payload}
use Rattle.account_witness_writer.proofs.WriterLaws.{length-lent}
use Rattle.account_witness.proofs.Inverse.{witness-holds, proofs-split, length-proofs, witness-back}

pub length-slots : (ps : List ProofReading) → length (proof_slots ps) ≡ length ps
length-slots [] = refl
length-slots (p ∷ ps) = ap suc (length-slots ps)

pub lent-counts : (ps : List ProofReading) → length (proof_slots ps) ≡ length (proof_lengths ps)
unfolding proof_lengths
lent-counts ps = length-slots ps ∙ sym (length-map ps _)

pub lent-sums : (ps : List ProofReading) → sum (proof_lengths ps) ≡ length (proofs_payload ps)
unfolding sum proof_lengths proofs_payload joined
lent-sums [] = refl
lent-sums (p ∷ ps) = rw (lent-sums ps) (sym (length-append p.bytes (proofs_payload ps)))

-- lent and taken again
pub proofs-lent-back : (ps : List ProofReading) → lent_proofs (proof_slots ps) (proof_lengths ps) (proofs_payload ps) ≡ ps
unfolding lent_proofs proof_lengths proofs_payload joined
proofs-lent-back [] = refl
proofs-lent-back (p ∷ ps) = rw (take-append_seam p.bytes (proofs_payload ps), drop-append_seam p.bytes (proofs_payload ps), proofs-lent-back ps)

-- their written form is as long as the writer says
pub lent_total : (r : WitnessReading) → witness_total (proof_slots r.proofs) (proofs_payload r.proofs) ≡ length (witness_bytes r)
unfolding witness_bytes witness_header_fields
lent_total r =
    let ps = r.proofs in
    let h = witness_head r in
    let m : length (layout_bytes h) ≡ 16 = length-numbers h in
    let n : length (proofs_bytes ps) ≡ 8 * length (proof_slots ps) + length (proofs_payload ps) = rw (proofs-lent-back ps) at (length-lent (proof_slots ps) (proof_lengths ps) (proofs_payload ps) (lent-counts ps) (lent-sums ps)) in
    sym (length-append (layout_bytes h) (proofs_bytes ps) ∙ omega arith)

-- no proof of the reading is empty, and its slots rise
proofs-filled : (s : List ℕ) (n off least : ℕ) → AllPass (proofs_layout_rows s n off least) → every (leb 1) (proof_lengths (proofs_of s n off)) ≡ true
unfolding every proof_lengths proofs_of proof_given proof_at
proofs-filled s zero off least h = refl
proofs-filled s (suc n) off least h =
    let z = proofs-split s n off least h in
    rw (part_length s (off + 8) (proof_length_at s off) z.0.inside, le-leb 1 (proof_length_at s off) z.0.some) (proofs-filled s n _ _ z.1)

proofs-rising : (s : List ℕ) (n off least : ℕ) → AllPass (proofs_layout_rows s n off least) → is_rising least (proof_slots (proofs_of s n off)) ≡ true
unfolding is_rising proofs_of proof_given proof_at
proofs-rising s zero off least h = refl
proofs-rising s (suc n) off least h =
    let z = proofs-split s n off least h in
    rw (le-leb least (proof_slot_at s off) z.0.above) (proofs-rising s n _ _ z.1)

-- so every row of the writer passes
pub lent-hold : (s : List ℕ) → Bytes s → AllPass (witness_rows s)
    → let r = witness_reading s in AllPass (witness_writer_rows r.operation (proof_slots r.proofs) (proof_lengths r.proofs) (proofs_payload r.proofs))
unfolding witness_writer_rows lent_proof_rows witness_reading
lent-hold s b h =
    let z = witness-holds s h in
    let ps = proofs_of s (proof_count_of s) 16 in
    let n : length (proof_slots ps) ≡ proof_count_of s = length-slots ps ∙ length-proofs s (proof_count_of s) 16 in
    let t : witness_total (proof_slots ps) (proofs_payload ps) ≡ length s = lent_total (witness_reading s) ∙ ap length (witness-back s b h) in
    let few : length (proof_slots ps) ≤ 16 = omega arith in
    let most : witness_total (proof_slots ps) (proofs_payload ps) ≤ 131072 = omega arith in
    let f = proofs-filled s (proof_count_of s) 16 0 z.proofs in
    let g = proofs-rising s (proof_count_of s) 16 0 z.proofs in
    (eq-eqb _ _ (lent-counts ps), (eq-eqb _ _ (lent-sums ps), (z.operation, (le-leb _ _ few, (f, (le-leb _ _ most, (g, tt)))))))
