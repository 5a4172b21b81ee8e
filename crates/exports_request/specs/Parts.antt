-- What an exported function hands out of a request. The refusals are those of the request's reader.
use Rattle.std.specs.Prelude.{ℕ, List, [], ◌∷◌}
use Rattle.protocol.specs.Rows.{check_number}
use Rattle.verifier_request.specs.Reader.{read_request}
use Rattle.verifier_request.specs.Reading.{RequestReading, request_reading}
use Rattle.export_answers.specs.Words.{word_bytes}
use Rattle.export_answers.specs.Stored.{StoresBytes, StoresPart}

-- a request's four numbers, as 64-bit words
unfoldable pub number_words : RequestReading → List ℕ
number_words r = word_bytes (r.algorithm ∷ r.slot ∷ r.operation ∷ r.profile ∷ [])

-- the promise of the function that stores them for the request s
abbrev pub StoresNumbers : List ℕ → List ℕ → ℕ → List ℕ → Type 0
StoresNumbers s out r after = StoresBytes (check_number (read_request s)) (number_words (request_reading s)) out r after

-- of a function that stores a part of its reading, and the part's length
abbrev pub StoresField : (RequestReading → List ℕ) → List ℕ → List ℕ → ℕ → ℕ → List ℕ → ℕ → Type 0
StoresField part s out len r after len_after =
    StoresPart (check_number (read_request s)) (part (request_reading s)) out len r after len_after
