-- The writer can be lent the reading of an accepted witness lock, and then gives the same bytes, or 5 in a buffer that is too short;
-- and a witness lock is accepted exactly where the writer can have written it. Assumes nothing.
use mathlib.Core.Path.{◌≡◌, ap, ◌∙◌, subst}
use mathlib.Core.List.{List}
use mathlib.Core.Logic.{◌↔◌}
use Prim.Native.Nat.{ℕ, zero, suc, ◌+◌}
use native.Mathlib.Omega.{arith}
use lib.Dec.{lit<}
use lib.ListN.{length, take, drop}
use Rattle.octets.specs.Le.{Bytes}
use Rattle.octets.specs.Lists.{joined}
use Rattle.octets.proofs.LeLaws.{bytes_take, bytes_drop, bytes-append}
use Rattle.protocol.specs.Rows.{AllPass}
use Rattle.protocol.specs.Reading.{WritesBack}
use Rattle.protocol.proofs.Back.{writes-back}
use Rattle.account_witness.specs.Fields.{proof_count_of, proof_length_at}
use Rattle.account_witness.specs.Witness.{witness_rows}
use Rattle.account_witness.specs.Walk.{proof_at}
use Rattle.account_witness.specs.Reading.{WitnessReading, witness_bytes, proof_given, proofs_of, witness_reading, proof_slots, WitnessTyped}
use Rattle.account_witness.proofs.Inverse.{witness-holds, witness-back, witness-typed}
use Rattle.account_witness_writer.specs.Writer.{witness_from, witness_total, witness_writer_rows, witness_writer_fault, witness_written, witness_stored, proof_lengths, proofs_payload, WitnessFits}
use Rattle.account_witness_writer.proofs.Lent.{proofs-lent-back, lent_total, lent-hold}
use Rattle.account_witness_writer.proofs.Written.{written-accepted}

-- its slices lend it again
from-reading : (r : WitnessReading) → witness_from r.operation r.sequence (proof_slots r.proofs) (proof_lengths r.proofs) (proofs_payload r.proofs) ≡ r
unfolding witness_from
from-reading r = rw (proofs-lent-back r.proofs)

-- what proofs that are read from bytes lend are bytes
proofs-bytes : (s : List ℕ) (n off : ℕ) → Bytes s → Bytes (proofs_payload (proofs_of s n off))
unfolding proofs_payload joined proofs_of proof_given proof_at
proofs-bytes s zero off b = λ i. lit< tt
proofs-bytes s (suc n) off b =
    let len = proof_length_at s off in
    bytes-append (take len (drop (off + 8) s)) (proofs_payload (proofs_of s n (off + 8 + len))) (bytes_take len (drop (off + 8) s) (bytes_drop (off + 8) s b)) (proofs-bytes s n (off + 8 + len) b)

-- what the reading lends fits the writer's types
fits : (s : List ℕ) → Bytes s → AllPass (witness_rows s) → WitnessFits (witness_reading s)
unfolding witness_reading
fits s b h =
    let z = witness-holds s h in
    let r = witness_reading s in
    let t : witness_total (proof_slots r.proofs) (proofs_payload r.proofs) ≡ length s = lent_total r ∙ ap length (witness-back s b h) in
    record {
      typed = witness-typed s b h;
      bytes = proofs-bytes s (proof_count_of s) 16 b;
      count = omega arith;
    }

-- the writer can be lent what the reading says, and writes it back
pub witness-writes-back : (s : List ℕ) → Bytes s → AllPass (witness_rows s)
    → let r = witness_reading s in
    let ps = r.proofs in
    WitnessFits r
    × WritesBack
    (witness_written r.operation (proof_slots ps) (proof_lengths ps) (proofs_payload ps))
    (witness_stored r.operation r.sequence (proof_slots ps) (proof_lengths ps) (proofs_payload ps))
    s
unfolding witness_written witness_stored witness_writer_fault
witness-writes-back s b h =
    let r = witness_reading s in
    let ps = r.proofs in
    let back = ap witness_bytes (from-reading r) ∙ witness-back s b h in
    let total = lent_total r ∙ ap length (witness-back s b h) in
    (fits s b h, writes-back (witness_writer_rows r.operation (proof_slots ps) (proof_lengths ps) (proofs_payload ps)) (witness_bytes (witness_from r.operation r.sequence (proof_slots ps) (proof_lengths ps) (proofs_payload ps))) (witness_total (proof_slots ps) (proofs_payload ps)) s (lent-hold s b h) back total)

-- a witness lock is accepted exactly where it is the written form of a reading that the writer takes
pub witness-written : (s : List ℕ) → Bytes s
    → AllPass (witness_rows s)
    ↔ ((r : WitnessReading) × WitnessTyped r × AllPass (witness_writer_rows r.operation (proof_slots r.proofs) (proof_lengths r.proofs) (proofs_payload r.proofs)) × (witness_bytes r ≡ s))
witness-written s b =
    (λ h. (witness_reading s, witness-typed s b h, lent-hold s b h, witness-back s b h), λ w. subst (λ (x : List ℕ). AllPass (witness_rows x)) w.3 (written-accepted w.0 w.1 w.2))
