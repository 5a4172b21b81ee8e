-- What exported functions answer and store. A reader, a hash or a part: its number, and its bytes at the front of the buffer,
-- with their length where it is asked for. A writer: its number, and the length that it wrote.
use Rattle.std.specs.Prelude.{ℕ, cond, List, [], ◌≡◌, eqb, leb, length, Err, Ok, Result}
use Rattle.protocol.specs.declared.error.ProtocolError.{ProtocolError}
use Rattle.std.proofs.lemmas.List.Edits.{sets}
use Rattle.protocol.specs.Errors.{error_number}
use Rattle.protocol.specs.Rows.{check_number}
use Rattle.protocol.specs.declared.error.ProtocolError.TheVariants.{BufferTooShort}

-- 01, of writers: "then with 5 if the buffer is short; a refused writer writes nothing". So it is of all that is stored: its
-- own refusal's number, then 5 where the bytes do not fit.
unfoldable pub stored_number : ℕ → List ℕ → ℕ → ℕ
stored_number number bytes room = cond (eqb number 0) (cond (leb (length bytes) room) 0 (error_number BufferTooShort)) number

-- the buffer afterwards; what is behind the bytes stays
unfoldable pub stored_after : ℕ → List ℕ → List ℕ → List ℕ
stored_after number bytes out = cond (eqb (stored_number number bytes (length out)) 0) (sets out 0 bytes) out

-- the length of the bytes stored; a refusal leaves what was there
unfoldable pub stored_length : ℕ → List ℕ → ℕ → ℕ → ℕ
stored_length number bytes room before = cond (eqb (stored_number number bytes room) 0) (length bytes) before

-- the length that a writer wrote; a refusal leaves what was there
unfoldable pub length_after : Result ℕ ProtocolError → ℕ → ℕ
length_after (Ok n) before = n
length_after (Err e) before = before

-- The whole promise of a function that stores bytes: the number r that it returns, and the buffer, `out` before the call.
abbrev pub StoresBytes : ℕ → List ℕ → List ℕ → ℕ → List ℕ → Type 0
StoresBytes number bytes out r after =
    (r ≡ stored_number number bytes (length out)) × (after ≡ stored_after number bytes out)

-- of one that stores the bytes of an answer, of which a refusal has none
unfoldable pub answer_bytes : {A : Type 0} → (A → List ℕ) → Result A ProtocolError → List ℕ
answer_bytes bytes (Ok a) = bytes a
answer_bytes bytes (Err e) = []

abbrev pub StoresAnswer : {A : Type 0} → (A → List ℕ) → Result A ProtocolError → List ℕ → ℕ → List ℕ → Type 0
StoresAnswer bytes answer out r after = StoresBytes (check_number answer) (answer_bytes bytes answer) out r after

-- a hash is its own bytes
abbrev pub StoresHash : Result (List ℕ) ProtocolError → List ℕ → ℕ → List ℕ → Type 0
StoresHash = StoresAnswer (λ hash. hash)

-- of one that stores their length too, in `len`
abbrev pub StoresPart : ℕ → List ℕ → List ℕ → ℕ → ℕ → List ℕ → ℕ → Type 0
StoresPart number bytes out len r after len_after =
    StoresBytes number bytes out r after × (len_after ≡ stored_length number bytes (length out) len)

-- of one that calls a writer, which leaves the buffer so
abbrev pub Writes : Result ℕ ProtocolError → List ℕ → ℕ → ℕ → List ℕ → ℕ → Type 0
Writes answer stored len r after len_after =
    (r ≡ check_number answer) × (after ≡ stored) × (len_after ≡ length_after answer len)
