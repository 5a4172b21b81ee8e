-- What is handed out of a request, by what its reader found.
-- Assumes nothing.
use Rattle.std.specs.Prelude.{Err, Ok, Result}
use Rattle.protocol.specs.Rows.{check_number}
use Rattle.verifier_request.specs.declared.reader.RequestFields.{RequestFields}
use Rattle.protocol.specs.declared.error.ProtocolError.{ProtocolError}
use mathlib.Core.Path.{◌≡◌, refl, sym, ap, subst, ◌∙◌}
use mathlib.Core.List.{List}
use Prim.Native.Nat.{ℕ, ◌*◌}
use native.Mathlib.Omega.{arith}
use lib.ListN.{length}
use lib.Seq.{take_all}
use Rattle.octets.proofs.Stores.{sets_over}
use Rattle.protocol.proofs.ErrorNumbers.{not-0}
use Rattle.verifier_request.specs.Reader.{read_request}
use Rattle.verifier_request.specs.Reading.{RequestReading, request_reading}
use Rattle.held_request.specs.Held.{request_places_of, places_in, held_reading}
use Rattle.held_request.proofs.HeldTheorem.{held-accepts, held-reading}
use Rattle.export_answers.specs.Words.{word_bytes}
use Rattle.export_answers.specs.Stored.{stored_after, StoresPart}
use Rattle.export_answers.proofs.Table64.{length-words, words-fit}
use Rattle.export_answers.proofs.Fits.{part-refused}

-- the struct's refusal is the reader's number
refusal-number : (k : Result RequestFields ProtocolError) → check_number (request_places_of k) ≡ check_number k
unfolding request_places_of
refusal-number (Ok f) = refl
refusal-number (Err e) = refl

-- of a refusal, whatever the bytes
other-bytes : (number : ℕ) → (number ≡ 0 → ⊥) → (bytes others out : List ℕ) (len r : ℕ) (after : List ℕ) (len_after : ℕ)
    → StoresPart number bytes out len r after len_after → StoresPart number others out len r after len_after
other-bytes number ne bytes others out len r after len_after h =
    let p = part-refused number ne bytes out len in
    let q = part-refused number ne others out len in
    ((h.0.0 ∙ (sym p.0.0 ∙ q.0.0), h.0.1 ∙ (sym p.0.1 ∙ q.0.1)), h.1 ∙ (sym p.1 ∙ q.1))

-- what the struct's functions hand out is the reading's, where it is handed out at all
pub handed : (s out : List ℕ) (len : ℕ) (of : RequestReading → List ℕ) (r : ℕ) (after : List ℕ) (len_after : ℕ)
    → StoresPart (check_number (request_places_of (read_request s))) (of (held_reading s (places_in s))) out len r after len_after
    → StoresPart (check_number (read_request s)) (of (request_reading s)) out len r after len_after
handed s out len of r after len_after h = by_answer (read_request s) refl
  where
    held : List ℕ
    held = of (held_reading s (places_in s))

    numbered : StoresPart (check_number (read_request s)) held out len r after len_after
    numbered = subst (λ (n : ℕ). StoresPart n (of (held_reading s (places_in s))) out len r after len_after) (refusal-number (read_request s)) h

    by_answer : (k : Result RequestFields ProtocolError) → read_request s ≡ k → StoresPart (check_number (read_request s)) (of (request_reading s)) out len r after len_after
    by_answer (Ok f) e =
        let accepted = (held-accepts s).0 (refusal-number (read_request s) ∙ ap check_number e) in
        subst (λ (bytes : List ℕ). StoresPart (check_number (read_request s)) bytes out len r after len_after) (ap of (held-reading s accepted)) numbered
    by_answer (Err x) e =
        other-bytes (check_number (read_request s)) (λ q. not-0 x (sym (ap check_number e) ∙ q)) held (of (request_reading s)) out len r after len_after numbered

-- words stored where there is room for them and for no more
pub words-fill : (vs out : List ℕ) → length out ≡ 8 * length vs → stored_after 0 (word_bytes vs) out ≡ word_bytes vs
words-fill vs out h =
    let n = length-words vs in
    sym (words-fit vs out (omega arith)).1
    ∙ (sets_over out (word_bytes vs) (omega arith) ∙ take_all (length out) (word_bytes vs) (omega arith))
