-- What a writer answers and leaves: 01, "Then writers refuse as in the Rust, then with 5 if the buffer is short; a refused
-- writer writes nothing." Bytes behind the written form stay.
use Rattle.std.specs.Prelude.{ℕ, List, [], ◌∷◌, ◌++◌, leb, length, drop, Err, Ok, Result}
use Rattle.protocol.specs.declared.error.ProtocolError.{ProtocolError}
use Rattle.protocol.specs.Errors.{error_number}
use Rattle.protocol.specs.Rows.{Row, row, decide, Check, ◌then◌}
use Rattle.protocol.specs.declared.error.ProtocolError.TheVariants.{BufferTooShort}

-- a writer's checks: its refusals, then room for its bytes
unfoldable pub write_fault : List Row → ℕ → ℕ → Check
write_fault rows total room = decide (Ok tt) (rows ++ (row (leb total room) BufferTooShort ∷ []))

unfoldable pub write_answer : Check → ℕ → Result ℕ ProtocolError
write_answer found total = found then Ok total

-- the buffer afterwards
unfoldable pub after_write : Check → List ℕ → List ℕ → List ℕ
after_write (Ok _) bytes out = bytes ++ drop (length bytes) out
after_write (Err e) bytes out = out
