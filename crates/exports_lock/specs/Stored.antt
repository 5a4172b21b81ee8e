-- What the exported lock stores of its answer, and the room that it needs for it.
use Rattle.std.specs.Prelude.{ℕ, Bool, cond, List, [], ◌∷◌, ◌++◌, ◌≡◌, leb, length}
use Rattle.std.proofs.lemmas.List.Edits.{sets}
use Rattle.protocol.specs.Errors.{error_number}
use Rattle.protocol.specs.declared.error.ProtocolError.TheVariants.{SlicesDisagree}
use Rattle.protocol.specs.Rows.{check_number}
use Rattle.export_answers.specs.Words.{word_bytes}
use Rattle.decision.specs.Walk.{answered}
use Rattle.account_lock.specs.Lock.{Result, answer_of}
use Rattle.scene_reader.specs.Reader.{read_of, reader_store, reader_table}
use Rattle.account_lock.specs.declared.answer.LockAnswer.{LockAnswer}

-- 01: "slices that don't agree with each other are 7, before all else": `out` is lent for the answer's 64 bytes
unfoldable pub answer_fits : List ℕ → Bool
answer_fits out = leb 64 (length out)

-- the number: the lock's own, 7 where there is no room
unfoldable pub room_number : List ℕ → ℕ → ℕ
room_number out number = cond (answer_fits out) number (error_number SlicesDisagree)

-- a lent slice afterwards, as it was where there is no room
unfoldable pub room_after : List ℕ → List ℕ → List ℕ → List ℕ
room_after out after before = cond (answer_fits out) after before

-- 01: "count and total length of the requests made", and 1 where the digest is reached
unfoldable pub answer_words : LockAnswer → List ℕ
answer_words a = a.count ∷ a.length ∷ cond a.reached 1 0 ∷ []

-- the words, and the digest behind them, zeros where it is not reached; then the fee as the word at bytes 56 to 63, 0 on refusal; what
-- is behind it stays
unfoldable pub answer_stored : LockAnswer → List ℕ → List ℕ
answer_stored a out = sets (sets out 0 (word_bytes (answer_words a) ++ a.digest)) 56 (word_bytes (a.fee ∷ []))

-- The promise of the lock: the number r that it returns, the requests in the answer buffer, and its answer in `out`.
abbrev pub StoresDecision : Result → List ℕ → List ℕ → ℕ → List ℕ → List ℕ → Type 0
StoresDecision locked answer out r answer_after out_after =
    (r ≡ room_number out (check_number locked.found))
    × (answer_after ≡ room_after out (answered answer locked.made) answer)
    × (out_after ≡ room_after out (answer_stored (answer_of locked) out) out)

-- of the reader before it: what the scene leaves in the store and the table
abbrev pub StoresScene : List ℕ → List ℕ → List ℕ → List ℕ → List ℕ → List ℕ → Type 0
StoresScene scene store table out store_after table_after =
    (store_after ≡ room_after out (reader_store (length store) (read_of scene (length store) (length table))) store)
    × (table_after ≡ room_after out (reader_table (length table) (read_of scene (length store) (length table))) table)
