-- Demand 3, for every format: each accepted input has exactly one reading, and writing it back gives the same bytes, or 5.
-- A reading holds every field but fixed bytes, lengths and counts; its written form is the layout filled from it.
use Rattle.std.specs.Prelude.{ℕ, ◌≤◌, ◌<◌, List, ◌++◌, ◌≡◌, length, drop, Err, Ok, Result}
use Rattle.protocol.specs.declared.error.ProtocolError.{ProtocolError}
use Rattle.protocol.specs.declared.error.ProtocolError.TheVariants.{BufferTooShort}

-- r is the one reading, of those whose numbers fit their fields, whose written form is s
pub record OneReading {R : Type 0} (Typed : R → Type 0) (bytes : R → List ℕ) (s : List ℕ) (r : R) : Type 0 where
  pub typed : Typed r
  pub written : bytes r ≡ s
  pub unique : (q : R) → Typed q → bytes q ≡ s → q ≡ r

-- a writer that answers and leaves this writes s, or refuses with 5 a buffer that is too short for it
pub record WritesBack (answer : List ℕ → Result ℕ ProtocolError) (after : List ℕ → List ℕ) (s : List ℕ) : Type 0 where
  pub room : (out : List ℕ) → length s ≤ length out → (answer out ≡ Ok (length s)) × (after out ≡ s ++ drop (length s) out)
  pub short : (out : List ℕ) → length out < length s → (answer out ≡ Err BufferTooShort) × (after out ≡ out)
