-- What is decided, by what the reader finds and by the scene's length; and its line.
-- Assumes nothing.
use Prim.Native.Nat.{ℕ}
use mathlib.Core.Path.{◌≡◌, refl}
use mathlib.Core.List.{List}
use Rattle.protocol.specs.Rows.{check_number}
use Rattle.scene_reader.specs.Reader.{ReaderOutcome, reader_refuses, reader_holds, reader_check, reader_store, reader_table, read_of}
use Rattle.account_lock.specs.declared.answer.LockAnswer.{LockAnswer}
use Rattle.account_lock.specs.Lock as lock
use Rattle.answer_line.specs.Line.{line_of}
use Rattle.decide_scene.specs.Decided.{decided_by, decided, result_line}

-- the reader refuses, or the lock decides what it holds
read_decides : (o : ReaderOutcome) (n m room : ℕ)
    → decided_by o room ≡ lock.or_walked (reader_check o) (lock.lock_of (reader_table m o) (reader_store n o) room)
unfolding decided_by lock.or_walked
read_decides (reader_refuses d) n m room = refl
read_decides (reader_holds x) n m room = refl

pub scene_decides : (scene : List ℕ) (n m room : ℕ) → decided scene n m room
    ≡ lock.or_walked (reader_check (read_of scene n m)) (lock.lock_of (reader_table m (read_of scene n m)) (reader_store n (read_of scene n m)) room)
unfolding decided
scene_decides scene n m room = read_decides (read_of scene n m) n m room

-- the line of an answer
pub told_line : (a : LockAnswer) (r : lock.Result) → a ≡ lock.answer_of r → line_of (check_number a.found) a.count a.length a.reached a.digest a.fee ≡ result_line r
unfolding result_line lock.answer_of
told_line a r e = rw e
