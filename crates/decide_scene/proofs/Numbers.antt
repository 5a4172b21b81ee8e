-- A scene read and decided never gives 7; and the program, its buffers being long enough, never gives 5 or 6 either.
-- Assumes nothing.
use Rattle.std.specs.Prelude.{Err, Ok}
use Prim.Native.Nat.{ℕ, ◌≤◌}
use mathlib.Core.Path.{◌≡◌, refl, ap}
use mathlib.Core.Logic.{◌≢◌, ◌⊎◌, inl, inr}
use mathlib.Core.Bool.{Bool, true, false, cond}
use mathlib.Core.List.{List, [], ◌∷◌}
use native.Mathlib.Omega.{arith}
use borrow.Author.Tests.{ltb-false}
use lib.Dec.{ltb}
use lib.ListN.{length}
use Rattle.protocol.specs.Errors.{error_number}
use Rattle.protocol.specs.Rows.{decide, check_number, Check}
use Rattle.protocol.specs.declared.error.ProtocolError.{ProtocolError}
use Rattle.protocol.specs.declared.error.ProtocolError.TheVariants.{SceneTooLong}
use Rattle.protocol.proofs.Each.{Each, Refuses, each_append, each-refuses}
use Rattle.text.specs.Text.{pieces, line_end}
use Rattle.scene_reader.specs.Reader.{ReaderState, ReaderOutcome, reader_refuses, reader_holds, outcome_after, line_rows, rows_of_line, line_put, scene_end_rows, lines_rows, lines_put, reader_start, scene_limit_rows, scene_rows, read_of, reader_check}
use Rattle.scene_table.specs.Valid.{valid_table}
use Rattle.scene_reading.proofs.Accessors.{left-store-length, reader-leaves-valid}
use Rattle.account_lock.specs.Lock as lock
use Rattle.lock_theorems.proofs.Numbers.{lock-seven, lock-never-six}
use Rattle.lock_theorems.proofs.AnswerRoom.{lock-never-five}
use Rattle.protocol.specs.Limits.{answer_buffer_length, table_min_entries}
use Rattle.decide_scene.specs.Decided.{decided_by, decided, program_decides, program_scene_max_length}
use Rattle.decide_scene.proofs.StoreEnough.{reader-never-six}

-- ---- the reader

-- the numbers that the reader gives: 0, and those of its rows in 01, "Where each refusal is raised": 1, 2, 3, 4 and 6
abbrev pub ReaderNumber : ℕ → Type 0
ReaderNumber n = (n ≤ 4) ⊎ (n ≡ 6)

-- a refusal with such a number
abbrev ReaderError : ProtocolError → Type 0
ReaderError e = ReaderNumber (error_number e)

-- the rows of one line
line-errors : (h : ReaderState) (line : List ℕ) → Each ReaderError (rows_of_line h line)
unfolding rows_of_line line_rows
line-errors h line = (inl (omega arith), (inl (omega arith), (inl (omega arith), (inr refl, tt))))

-- of all lines
lines-errors : (h : ReaderState) (ls : List (List ℕ)) → Each ReaderError (lines_rows h ls)
unfolding lines_rows scene_end_rows
lines-errors h [] = (inl (omega arith), (inl (omega arith), tt))
lines-errors h (l ∷ []) = (inl (omega arith), (inl (omega arith), tt))
lines-errors h (l ∷ m ∷ ls) = each_append ReaderError (rows_of_line h l) _ (line-errors h l) (lines-errors (line_put h l) (m ∷ ls))

-- of a scene
scene-errors : (scene : List ℕ) (n m : ℕ) → Each ReaderError (scene_rows scene n m)
unfolding scene_rows scene_limit_rows
scene-errors scene n m = (inl (omega arith), (inr refl, lines-errors (reader_start n m) (pieces line_end scene)))

-- every number that the reader gives is 0 to 4, or 6
pub reader-numbers : (scene : List ℕ) (n m : ℕ) → ReaderNumber (check_number (reader_check (read_of scene n m)))
unfolding read_of
reader-numbers scene n m = go (decide (Ok tt) (scene_rows scene n m)) (each-refuses ReaderError (scene_rows scene n m) (scene-errors scene n m))
  where
    go : (c : Check) → Refuses ReaderError c → ReaderNumber (check_number (reader_check (outcome_after c (lines_put (reader_start n m) (pieces line_end scene)))))
    go (Ok _) f = inl (omega arith)
    go (Err e) f = f

-- 5 and 7 are not among them
not_five : (n : ℕ) → ReaderNumber n → n ≢ 5
not_five n (inl h) q = absurd (omega arith)
not_five n (inr h) q = absurd (omega arith)

not-seven : (n : ℕ) → ReaderNumber n → n ≢ 7
not-seven n (inl h) q = absurd (omega arith)
not-seven n (inr h) q = absurd (omega arith)

-- ---- a scene read and decided

-- a number that neither the reader gives nor the lock over what the reader holds is not decided
decided-never : (k room : ℕ) (o : ReaderOutcome) → check_number (reader_check o) ≢ k
    → ((h : ReaderState) → o ≡ reader_holds h → check_number (lock.lock_of h.table h.store room).found ≢ k) → check_number (decided_by o room).found ≢ k
unfolding decided_by lock.refused
decided-never k room (reader_refuses e) reader locks = reader
decided-never k room (reader_holds h) reader locks = locks h refl

module _ (scene : List ℕ) (n m room : ℕ) where
  -- 5 is not given with an answer buffer of 148,992 bytes
  pub decided-never-five : answer_buffer_length ≤ room → check_number (decided scene n m room).found ≢ 5
  unfolding decided
  decided-never-five long =
      decided-never 5 room (read_of scene n m) (not_five (check_number (reader_check (read_of scene n m))) (reader-numbers scene n m))
      (λ h e. lock-never-five h.table h.store room long)

  -- 6 is not given with a store as long as the scene and a table of 2,048 entries
  pub decided-never-six : length scene ≤ n → table_min_entries ≤ m → check_number (decided scene n m room).found ≢ 6
  unfolding decided
  decided-never-six hn hm =
      decided-never 6 room (read_of scene n m) (reader-never-six scene n m hn hm) (λ h e. lock-never-six h.table h.store room)

  -- the table of an accepted scene passes the lock's row for 7
  held-valid : (h : ReaderState) → read_of scene n m ≡ reader_holds h → valid_table h.table (length h.store) ≡ true
  held-valid h e =
      let p : reader_check (read_of scene n m) ≡ Ok tt = ap reader_check e in
      let long : length h.store ≡ n = rw e at (left-store-length scene n m p) in
      rw long (rw e at (reader-leaves-valid scene n m p))

  -- 7 is never given
  pub decided-never-seven : check_number (decided scene n m room).found ≢ 7
  unfolding decided
  decided-never-seven =
      decided-never 7 room (read_of scene n m) (not-seven (check_number (reader_check (read_of scene n m))) (reader-numbers scene n m))
      (λ h e q. true-false (held-valid h e) ((lock-seven h.table h.store room).0 q))
    where
      true-false : {b : Bool} → b ≡ true → b ≡ false → ⊥
      true-false p q = absurd (let z : ◌≡◌ {A = ℕ} 0 1 = cc in omega arith)

-- ---- the program

module _ (scene : List ℕ) where
  -- a number is not given, which is not 1 and not decided with the program's buffers
  program-never : (k : ℕ) → 1 ≢ k → (length scene ≤ program_scene_max_length → check_number (decided scene program_scene_max_length table_min_entries answer_buffer_length).found ≢ k)
      → check_number (program_decides scene).found ≢ k
  unfolding program_decides lock.refused
  program-never k long short = go (ltb program_scene_max_length (length scene)) refl
    where
      go : (b : Bool) → ltb program_scene_max_length (length scene) ≡ b
          → check_number (cond b (lock.refused (Err SceneTooLong)) (decided scene program_scene_max_length table_min_entries answer_buffer_length)).found ≢ k
      go true e = long
      go false e = short (ltb-false program_scene_max_length (length scene) e)

  -- 01: "The program's buffers are long enough that it never gives 5 or 6"
  pub program-never-five : check_number (program_decides scene).found ≢ 5
  program-never-five = program-never 5 (λ q. absurd (omega arith)) (λ l. decided-never-five scene program_scene_max_length table_min_entries answer_buffer_length (omega arith))

  pub program-never-six : check_number (program_decides scene).found ≢ 6
  program-never-six = program-never 6 (λ q. absurd (omega arith)) (λ l. decided-never-six scene program_scene_max_length table_min_entries answer_buffer_length l (omega arith))

  -- nor 7
  pub program-never-seven : check_number (program_decides scene).found ≢ 7
  program-never-seven = program-never 7 (λ q. absurd (omega arith)) (λ l. decided-never-seven scene program_scene_max_length table_min_entries answer_buffer_length)
