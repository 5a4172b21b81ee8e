-- What is decided of a scene's text, and the line that the program prints of it.
use Rattle.std.specs.Prelude.{ℕ, cond, List, ltb, length, Err}
use Rattle.protocol.specs.declared.error.ProtocolError.TheVariants.{SceneTooLong}
use Rattle.protocol.specs.Rows.{check_number}
use Rattle.scene_reader.specs.Reader.{ReaderOutcome, reader_refuses, reader_holds, read_of}
use Rattle.account_lock.specs.declared.answer.LockAnswer.{LockAnswer}
use Rattle.account_lock.specs.Lock as lock
use Rattle.answer_line.specs.Line.{line_of}
use Rattle.protocol.specs.Limits.{table_min_entries, answer_buffer_length}

-- the lock over what the reader leaves, with an answer buffer of `room` bytes; 01: "COUNT and LENGTH being 0 where the reader
-- refuses", and there is no digest
unfoldable pub decided_by : ReaderOutcome → ℕ → lock.Result
decided_by (reader_refuses e) room = lock.refused (Err e)
decided_by (reader_holds h) room = lock.lock_of h.table h.store room

-- what is decided of a scene, with a store of n bytes and a table of m entries
unfoldable pub decided : List ℕ → ℕ → ℕ → ℕ → lock.Result
decided scene n m room = decided_by (read_of scene n m) room

-- the same with a store, a table and an answer buffer as long as these
abbrev pub decided_into : List ℕ → List ℕ → List ℕ → List ℕ → lock.Result
decided_into scene store table answer = decided scene (length store) (length table) (length answer)

-- 01: "A program reads a scene of up to 65,536 bytes (more is 1)"
abbrev pub program_scene_max_length : ℕ
program_scene_max_length = 65536

-- its store is as long as the longest scene; "The program's buffers are long enough that it never gives 5 or 6"
unfoldable pub program_decides : List ℕ → lock.Result
program_decides scene =
    cond (ltb program_scene_max_length (length scene)) (lock.refused (Err SceneTooLong))
    (decided scene program_scene_max_length table_min_entries answer_buffer_length)

-- "prints one line `answer,NUMBER,COUNT,LENGTH,DIGEST`"; 02, change 9: "On acceptance the answer line ends with a further field FEE"
unfoldable pub result_line : lock.Result → List ℕ
result_line r = line_of (check_number r.found) r.count (length r.made) r.reached r.digest r.fee

-- the line of what the lock answers in the code
abbrev pub lock_answer_line : LockAnswer → List ℕ
lock_answer_line found = line_of (check_number found.found) found.count found.length found.reached found.digest found.fee

-- the line that the program prints of a scene
unfoldable pub program_line : List ℕ → List ℕ
program_line scene = result_line (program_decides scene)
