-- Public-key proofs: accepted exactly where every check passes, and then exactly one reading has them as its written form,
-- which is the one that the reader gives and which the writer writes back; and what the writer writes is accepted.
-- Assumes nothing.
use Rattle.std.specs.Prelude.{Err, Ok}
use mathlib.Core.Path.{◌≡◌, sym, ap, ◌∙◌}
use mathlib.Core.List.{List}
use mathlib.Core.Logic.{◌↔◌}
use Prim.Native.Nat.{ℕ, ◌≤◌, ◌<◌}
use native.Mathlib.Omega.{arith}
use borrow.Author.Tests.{leb-true}
use lib.ListN.{length}
use Rattle.octets.specs.Le.{Bytes}
use Rattle.protocol.specs.Rows.{decide, AllPass, FirstFailed}
use Rattle.protocol.specs.Reading.{OneReading, WritesBack}
use Rattle.protocol.specs.declared.error.ProtocolError.{ProtocolError}
use Rattle.protocol.proofs.AllPass.{passed-all-pass}
use Rattle.protocol.proofs.Answers.{then-given, then-accepts, then-refuses}
use Rattle.protocol.proofs.Back.{writes-back}
use Rattle.public_key_proof.specs.declared.reader.PublicKeyProof.{PublicKeyProof}
use Rattle.public_key_proof.specs.Reader.{public_key_proof_rows, public_key_proof_fault, public_key_proof_places, read_public_key_proof}
use Rattle.public_key_proof.specs.Reading.{PublicKeyProofReading, PublicKeyProofTyped, public_key_proof_given, public_key_proof_reading, public_key_proof_bytes}
use Rattle.public_key_proof.specs.Writer.{public_key_proof_writer_rows, public_key_proof_total, public_key_proof_writer_fault, public_key_proof_written, public_key_proof_stored}
use Rattle.public_key_proof.proofs.Inverse.{public-key-proof-passes, public-key-proof-passes-hold, public-key-proof-back, public-key-proof-reading-limits, public-key-proof-reading-total, public-key-proof-written-read, public-key-proof-written-passes, lengths-fit}

-- accepted exactly where every check passes
pub public-key-proof-accepts : (s : List ℕ) → (read_public_key_proof s ≡ Ok (public_key_proof_places s)) ↔ AllPass (public_key_proof_rows s)
unfolding read_public_key_proof public_key_proof_fault
public-key-proof-accepts s = then-accepts (public_key_proof_places s) (public_key_proof_rows s)

-- refused exactly with the first check that fails
pub public-key-proof-refuses : (s : List ℕ) (e : ProtocolError) → (read_public_key_proof s ≡ Err e) ↔ FirstFailed (public_key_proof_rows s) e
unfolding read_public_key_proof public_key_proof_fault
public-key-proof-refuses s e = then-refuses (public_key_proof_places s) (public_key_proof_rows s) e

-- what the writer writes is accepted, and read as what was written
pub public-key-proof-accepted : (r : PublicKeyProofReading) → AllPass (public_key_proof_writer_rows r) → AllPass (public_key_proof_rows (public_key_proof_bytes r)) × (public_key_proof_reading (public_key_proof_bytes r) ≡ r)
unfolding public_key_proof_writer_rows
public-key-proof-accepted r h =
    let a : length r.public_key ≤ 65535 = leb-true _ _ h.1.1.0 in
    let b : length r.signature ≤ 65535 = leb-true _ _ h.1.1.1.0 in
    let k : length r.public_key < 65536 = omega arith in
    let g : length r.signature < 65536 = omega arith in
    (public-key-proof-passes-hold (public_key_proof_bytes r) (public-key-proof-written-passes r k g h), public-key-proof-written-read r k g)

-- the one reading
pub public-key-proof-one : (s : List ℕ) → Bytes s → AllPass (public_key_proof_rows s) → OneReading PublicKeyProofTyped public_key_proof_bytes s (public_key_proof_reading s)
public-key-proof-one s b h =
    let z = public-key-proof-passes s h in
    record {
      typed = tt;
      written = public-key-proof-back s b z;
      unique = λ q t e. let f = lengths-fit q s z e in sym (public-key-proof-written-read q f.0 f.1) ∙ ap public_key_proof_reading e;
    }

-- is the one that the reader gives,
pub public-key-proof-given : (s : List ℕ) (p : PublicKeyProof) → read_public_key_proof s ≡ Ok p → AllPass (public_key_proof_rows s) × (public_key_proof_given s p ≡ public_key_proof_reading s)
unfolding read_public_key_proof public_key_proof_fault public_key_proof_reading
public-key-proof-given s p h =
    let z = then-given (public_key_proof_places s) (decide (Ok tt) (public_key_proof_rows s)) p h in
    (passed-all-pass (public_key_proof_rows s) z.0, ap (public_key_proof_given s) (sym z.1))

-- and the writer writes it back
pub public-key-proof-writes-back : (s : List ℕ) → Bytes s → AllPass (public_key_proof_rows s) → WritesBack (public_key_proof_written (public_key_proof_reading s)) (public_key_proof_stored (public_key_proof_reading s)) s
unfolding public_key_proof_written public_key_proof_stored public_key_proof_writer_fault
public-key-proof-writes-back s b h =
    let z = public-key-proof-passes s h in
    let r = public_key_proof_reading s in
    writes-back (public_key_proof_writer_rows r) (public_key_proof_bytes r) (public_key_proof_total r) s (public-key-proof-reading-limits s b z) (public-key-proof-back s b z) (public-key-proof-reading-total s b z)

-- The theorem: an accepted proof has exactly one reading, that of the answer, and writing it gives the same bytes or 5.
pub public-key-proof-theorem : (s : List ℕ) (p : PublicKeyProof) → Bytes s → read_public_key_proof s ≡ Ok p
    → OneReading PublicKeyProofTyped public_key_proof_bytes s (public_key_proof_given s p) × WritesBack (public_key_proof_written (public_key_proof_given s p)) (public_key_proof_stored (public_key_proof_given s p)) s
public-key-proof-theorem s p b e =
    let g = public-key-proof-given s p e in
    rw g.1 (public-key-proof-one s b g.0, public-key-proof-writes-back s b g.0)
