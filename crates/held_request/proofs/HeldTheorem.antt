-- A request that holds its bytes: it is not refused exactly where every check passes, and then what its functions hand out,
-- together, is the one reading of the bytes, which the writer writes back. And what `is_for` decides.
-- Assumes nothing.
use Rattle.std.specs.Prelude.{Err, Ok, Result}
use Rattle.protocol.specs.declared.error.ProtocolError.{ProtocolError}
use mathlib.Core.Path.{◌≡◌, refl, sym, ap, ◌∙◌}
use mathlib.Core.Bool.{true, and-eq-true_iff}
use mathlib.Core.List.{List}
use mathlib.Core.Logic.{◌↔◌}
use Prim.Native.Nat.{ℕ}
use borrow.Author.Tests.{eq-eqb, eqb-true}
use lib.Dec.{eqb}
use Rattle.octets.specs.Le.{Bytes}
use Rattle.octets.specs.Lists.{same}
use Rattle.octets.specs.Places.{bytes_at}
use Rattle.octets.proofs.Same.{same-eq, eq-same}
use Rattle.protocol.specs.Rows.{AllPass, check_number, Check, ◌then◌}
use Rattle.protocol.specs.Reading.{OneReading, WritesBack}
use Rattle.protocol.proofs.ErrorNumbers.{not-0}
use Rattle.verifier_request.specs.declared.reader.RequestFields.{RequestFields}
use Rattle.verifier_request.specs.Reader.{request_rows, request_fault, request_fields_of, read_request}
use Rattle.verifier_request.specs.Reading.{RequestReading, RequestTyped, request_given, request_reading, request_bytes}
use Rattle.verifier_request.specs.Writer.{request_written, request_stored}
use Rattle.verifier_request.proofs.RequestTheorem.{request-accepts, request-given, request-theorem}
use Rattle.held_request.specs.declared.places.RequestPlaces.{RequestPlaces}
use Rattle.held_request.specs.Held.{request_places_of, places_or_none, places_in, held_reading, is_for}

-- what was found in s
abbrev found : List ℕ → Result RequestPlaces ProtocolError
found s = request_places_of (read_request s)

-- the functions hand out what the fields of the answer say
held-given : (s : List ℕ) (f : RequestFields) → read_request s ≡ Ok f → held_reading s (places_in s) ≡ request_given s f
unfolding request_places_of places_or_none held_reading bytes_at request_given
held-given s f e = rw e

-- an answer that is not refused has fields
accepted : (s : List ℕ) (a : Result RequestFields ProtocolError) → read_request s ≡ a → check_number (request_places_of a) ≡ 0 → read_request s ≡ Ok (request_fields_of s)
unfolding request_places_of
accepted s (Ok f) e z = (request-accepts s).1 (request-given s f e).0
accepted s (Err x) e z = absurd (not-0 x z)

-- not refused exactly where every check passes
pub held-accepts : (s : List ℕ) → (check_number (found s) ≡ 0) ↔ AllPass (request_rows s)
unfolding request_places_of
held-accepts s = (λ z. (request-accepts s).0 (accepted s (read_request s) refl z), λ h. rw ((request-accepts s).1 h))

-- the number of what the checks find
pub held-refusal : (s : List ℕ) → check_number (found s) ≡ check_number (request_fault s)
unfolding request_places_of read_request
held-refusal s = by-check (request_fault s)
  where
    by-check : (k : Check) → check_number (request_places_of (k then Ok (request_fields_of s))) ≡ check_number k
    by-check (Ok _) = refl
    by-check (Err e) = refl

-- The theorem: what the functions hand out is the one reading, and writing it gives the same bytes or 5.
pub held-theorem : (s : List ℕ) → Bytes s → check_number (found s) ≡ 0
    → OneReading RequestTyped request_bytes s (held_reading s (places_in s)) × WritesBack (request_written (held_reading s (places_in s)))
    (request_stored (held_reading s (places_in s))) s
held-theorem s b z =
    let e = accepted s (read_request s) refl z in
    rw (held-given s (request_fields_of s) e) (request-theorem s (request_fields_of s) b e)

-- where every check passes, they hand out the request's reading
pub held-reading : (s : List ℕ) → AllPass (request_rows s) → held_reading s (places_in s) ≡ request_reading s
held-reading s h =
    let e = (request-accepts s).1 h in
    held-given s (request_fields_of s) e ∙ (request-given s (request_fields_of s) e).1

-- its digest
held-digest : (s : List ℕ) → AllPass (request_rows s) → bytes_at s (places_in s).authorization_digest ≡ (request_reading s).digest
unfolding held_reading
held-digest s h = ap (λ (r : RequestReading). r.digest) (held-reading s h)

-- a request for this digest: every check passes, and its reading has the digest
pub for-theorem : (s digest : List ℕ) → (is_for s digest ≡ true) ↔ (AllPass (request_rows s) × ((request_reading s).digest ≡ digest))
unfolding is_for
for-theorem s digest = (
  λ t.
      let p = (and-eq-true_iff (eqb (check_number (found s)) 0) (same (bytes_at s (places_in s).authorization_digest) digest)).0 t in
      let h = (held-accepts s).0 (eqb-true _ _ p.0) in
      (h, sym (held-digest s h) ∙ same-eq _ _ p.1),
  λ p.
      (and-eq-true_iff (eqb (check_number (found s)) 0) (same (bytes_at s (places_in s).authorization_digest) digest)).1
      (eq-eqb _ _ ((held-accepts s).1 p.0), eq-same _ _ (held-digest s p.0 ∙ p.1)),
)
