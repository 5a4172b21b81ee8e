-- Requests: accepted exactly where every check passes, and then exactly one reading has them as its written form, which is
-- the one that the reader gives and which the writer writes back; and what the writer writes is accepted.
-- Assumes nothing.
use Rattle.std.specs.Prelude.{Err, Ok}
use mathlib.Core.Path.{◌≡◌, sym, ap, ◌∙◌}
use mathlib.Core.List.{List}
use mathlib.Core.Logic.{◌↔◌}
use Prim.Native.Nat.{ℕ, ◌+◌, ◌^◌, ◌≤◌, ◌<◌}
use native.Mathlib.Omega.{arith}
use borrow.Author.Tests.{leb-true}
use lib.ListN.{length}
use Rattle.octets.specs.Le.{Bytes}
use Rattle.protocol.specs.Rows.{decide, AllPass, FirstFailed}
use Rattle.protocol.specs.Reading.{OneReading, WritesBack}
use Rattle.protocol.specs.declared.error.ProtocolError.{ProtocolError}
use Rattle.protocol.proofs.AllPass.{passed-all-pass}
use Rattle.protocol.proofs.Answers.{then-given, then-accepts, then-refuses}
use Rattle.protocol.proofs.Back.{writes-back}
use Rattle.verifier_request.specs.declared.reader.RequestFields.{RequestFields}
use Rattle.verifier_request.specs.Reader.{request_rows, request_fault, request_fields_of, read_request}
use Rattle.verifier_request.specs.Reading.{RequestReading, RequestTyped, request_given, request_reading, request_bytes}
use Rattle.verifier_request.specs.Writer.{request_writer_limit_rows, request_writer_rows, request_total, request_writer_fault, request_written, request_stored}
use Rattle.verifier_request.proofs.Form.{request-typed-sized, length-request}
use Rattle.verifier_request.proofs.Inverse.{RequestPasses, request-passes, request-passes-hold, request-back, request-typed, request-reading-limits, request-reading-total, request-written-read, request-written-passes}

-- accepted exactly where every check passes
pub request-accepts : (s : List ℕ) → (read_request s ≡ Ok (request_fields_of s)) ↔ AllPass (request_rows s)
unfolding read_request request_fault
request-accepts s = then-accepts (request_fields_of s) (request_rows s)

-- refused exactly with the first check that fails
pub request-refuses : (s : List ℕ) (e : ProtocolError) → (read_request s ≡ Err e) ↔ FirstFailed (request_rows s) e
unfolding read_request request_fault
request-refuses s e = then-refuses (request_fields_of s) (request_rows s) e

-- what the writer writes is accepted, and read as what was written
pub request-accepted : (r : RequestReading) → RequestTyped r → AllPass (request_writer_rows r) → AllPass (request_rows (request_bytes r)) × (request_reading (request_bytes r) ≡ r)
unfolding request_writer_rows request_writer_limit_rows request_total
request-accepted r t h =
    let a : length r.aux ≤ 4096 = leb-true _ _ h.1.0 in
    let p : length r.proof ≤ 65536 = leb-true _ _ h.1.1.0 in
    let small : 96 + length r.aux + length r.proof < 2 ^ 32 = omega arith in
    (request-passes-hold (request_bytes r) (request-written-passes r t small h), request-written-read r t small)

-- the one reading
pub request-one : (s : List ℕ) → Bytes s → AllPass (request_rows s) → OneReading RequestTyped request_bytes s (request_reading s)
request-one s b h =
    let z = request-passes s h in
    record {
      typed = request-typed s b z;
      written = request-back s b z;
      unique = λ q t e. sym (request-written-read q t (small q t e z)) ∙ ap request_reading e;
    }
  where
    small : (q : RequestReading) → RequestTyped q → request_bytes q ≡ s → RequestPasses s → request_total q < 2 ^ 32
    small q t e z =
        let n : length (request_bytes q) ≡ request_total q = length-request q (request-typed-sized q t) in
        let l : length (request_bytes q) ≡ length s = ap length e in
        omega arith

-- is the one that the reader gives,
pub request-given : (s : List ℕ) (f : RequestFields) → read_request s ≡ Ok f → AllPass (request_rows s) × (request_given s f ≡ request_reading s)
unfolding read_request request_fault request_reading
request-given s f h =
    let z = then-given (request_fields_of s) (decide (Ok tt) (request_rows s)) f h in
    (passed-all-pass (request_rows s) z.0, ap (request_given s) (sym z.1))

-- and the writer writes it back
pub request-writes-back : (s : List ℕ) → Bytes s → AllPass (request_rows s) → WritesBack (request_written (request_reading s)) (request_stored (request_reading s)) s
unfolding request_written request_stored request_writer_fault
request-writes-back s b h =
    let z = request-passes s h in
    let r = request_reading s in
    writes-back (request_writer_rows r) (request_bytes r) (request_total r) s (request-reading-limits s b z) (request-back s b z) (request-reading-total s b z)

-- The theorem: an accepted request has exactly one reading, that of the answer, and writing it gives the same bytes or 5.
pub request-theorem : (s : List ℕ) (f : RequestFields) → Bytes s → read_request s ≡ Ok f
    → OneReading RequestTyped request_bytes s (request_given s f) × WritesBack (request_written (request_given s f)) (request_stored (request_given s f)) s
request-theorem s f b e =
    let g = request-given s f e in
    rw g.1 (request-one s b g.0, request-writes-back s b g.0)
