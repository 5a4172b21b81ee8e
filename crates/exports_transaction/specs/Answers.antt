-- What the exported functions on a transaction answer and store.
use Rattle.std.specs.Prelude.{ℕ, List, [], ◌∷◌, cond, length, Err, Ok, Result}
use Rattle.protocol.specs.declared.error.ProtocolError.{ProtocolError}
use Rattle.octets.specs.declared.place.Place.{Place}
use Rattle.protocol.specs.Policy.{operation_rows}
use Rattle.protocol.specs.Rows.{decide, ◌then◌}
use Rattle.protocol.specs.declared.error.ProtocolError.TheVariants.{SlicesDisagree}
use Rattle.export_answers.specs.Lent.{sizes_fault}
use Rattle.export_answers.specs.Words.{word_bytes}
use Rattle.export_answers.specs.Stored.{StoresAnswer, Writes}
use Rattle.molecule.specs.Canonical.{canonical_written, canonical_stored}
use Rattle.authorization.specs.Digest.{digest_of}
use Rattle.scene_table.specs.Lent.{scene_in}
use Rattle.scene_table.specs.Valid.{valid_table}
use Rattle.group_sighash.specs.GroupSighash.{group_answer}

-- where bytes begin, and how many they are
unfoldable pub place_words : Place → List ℕ
place_words p = p.start ∷ p.len ∷ []

-- the promise of a function that stores them
abbrev pub StoresPlace : Result Place ProtocolError → List ℕ → ℕ → List ℕ → Type 0
StoresPlace = StoresAnswer (λ p. word_bytes (place_words p))

-- of the writer of the canonical witness: its number, the buffer, and in `len` the length that it wrote
abbrev pub WritesCanonical : List ℕ → List ℕ → ℕ → ℕ → List ℕ → ℕ → Type 0
WritesCanonical witness out len r after len_after =
    Writes (canonical_written witness out) (canonical_stored witness out) len r after len_after

-- an account or a sighash of other than 32 bytes is 7, before the operation's 37
unfoldable pub lent_digest : ℕ → List ℕ → ℕ → List ℕ → List ℕ → Result (List ℕ) ProtocolError
lent_digest operation account sequence state sighash =
    decide (sizes_fault account sighash) (operation_rows operation) then Ok (digest_of operation account sequence state sighash)

-- 01, of the lock: "a table that the reader, scene length aside, leaves for no accepted scene with a store this long", 7
unfoldable pub lent_sighash : List ℕ → List ℕ → Result (List ℕ) ProtocolError
lent_sighash table store = cond (valid_table table (length store)) (group_answer (scene_in table store)) (Err SlicesDisagree)
