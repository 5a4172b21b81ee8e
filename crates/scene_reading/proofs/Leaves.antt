-- An accepted text leaves the store and the table of the scene that it says.
-- Assumes nothing.
use Rattle.std.specs.Prelude.{Option}
use Prim.Native.Nat.{ℕ, zero, suc, ◌+◌, ◌-◌, ◌≤◌}
use mathlib.Core.Path.{◌≡◌, refl, sym, ap, ◌∙◌}
use mathlib.Core.List.{List, [], ◌∷◌, ◌++◌, map}
use native.Mathlib.Nat.{sub-zero, zero-sub, suc-sub-suc}
use native.Mathlib.Omega.{arith}
use lib.ListN.{length, drop, set, replicate, length-replicate}
use lib.Seq.{sets}
use Rattle.octets.specs.Lists.{joined}
use Rattle.octets.proofs.Stores.{sets-append, sets-front}
use Rattle.text.specs.Text.{pieces, line_end}
use Rattle.scene_line.specs.declared.kind.Kind.{Kind}
use Rattle.scene_line.specs.Kind.{rank, first_form}
use Rattle.scene_line.specs.Line.{line_entries}
use Rattle.scene_reader.specs.Reader.{ReaderState, reader_holds, seen_with, line_put_as, lines_outcome, reader_start}
use Rattle.scene_table.specs.Scene.{Scene, lines_of, counts_of, records_from, scene_bytes, scene_numbers, padded_to, scene_store, scene_table}
use Rattle.scene_reading.specs.Lines.{LinesAccepted, kinds_of, kind_of_line, fields_of_line, bytes_of_line}
use Rattle.scene_reading.specs.Reading.{scene_of}
use Rattle.scene_table.proofs.SceneBack.{sayable}
use Rattle.scene_reading.proofs.LinesPass.{put_line, put_lines, held_same}
use Rattle.scene_reading.proofs.Accepts.{passes-run}
use Rattle.scene_reading.proofs.LinesPut.{line_in, line_read}
use Rattle.scene_reading.proofs.PrintLines.{LinesPrinted, each-printed}
use Rattle.scene_reading.proofs.Printed.{line-bytes, scene-prints}
use Rattle.scene_reading.proofs.PrintBack.{reading-ok, lines-back}
use Rattle.scene_reading.proofs.CountLaws.{counts_after, counted-behind, counts-set}

-- ---- what the lines put down, one behind another

module _ (h : ReaderState) (l : List ℕ) where
  store_line : (bs : List ℕ) → sets (put_line h l).store (put_line h l).used bs ≡ sets h.store h.used (bytes_of_line l ++ bs)
  unfolding put_line line_put_as bytes_of_line
  store_line bs = sets-append h.store h.used (bytes_of_line l) bs _ refl

  table-line : (ks : List (Option Kind)) (rs : List ℕ) → 8 ≤ h.filled
      → sets (counts_after (put_line h l).table (put_line h l).last (put_line h l).seen ks) (put_line h l).filled rs
      ≡ sets (counts_after h.table h.last h.seen (kind_of_line l ∷ ks)) h.filled ((h.used ∷ (line_read l).numbers) ++ rs)
  unfolding put_line line_put_as counts_after line_read line_in
  table-line ks rs e =
      let k = kind_of_line l in
      let s = seen_with h.last h.seen (rank k) in
      let t = set h.table (rank k) s in
      let v = h.used ∷ line_entries (first_form k) (fields_of_line l) in
      ap (λ (x : List ℕ). sets x (h.filled + 1 + length (line_entries (first_form k) (fields_of_line l))) rs) (counted-behind ks t (rank k) s h.filled v e)
      ∙ sets-append (counts_after t (rank k) s ks) h.filled v rs _ (omega arith)

  behind-counts : 8 ≤ h.filled → 8 ≤ (put_line h l).filled
  unfolding put_line line_put_as
  behind-counts e = omega arith

store-lines : (ls : List (List ℕ)) (h : ReaderState) → (put_lines h ls).store ≡ sets h.store h.used (joined (map bytes_of_line ls))
unfolding put_lines joined
store-lines [] h = refl
store-lines (l ∷ ls) h = store-lines ls (put_line h l) ∙ store_line h l (joined (map bytes_of_line ls))

used-line : (h : ReaderState) (l : List ℕ) → (put_line h l).used ≡ h.used + length (line_read l).bytes
unfolding put_line line_put_as line_read line_in
used-line h l = refl

table-lines : (ls : List (List ℕ)) (h : ReaderState) → 8 ≤ h.filled
    → (put_lines h ls).table ≡ sets (counts_after h.table h.last h.seen (map kind_of_line ls)) h.filled (records_from h.used (map line_read ls))
unfolding put_lines counts_after records_from
table-lines [] h e = refl
table-lines (l ∷ ls) h e =
    table-lines ls (put_line h l) (behind-counts h l e)
    ∙ (table-line h l (map kind_of_line ls) (records_from (put_line h l).used (map line_read ls)) e ∙ rw (used-line h l))

-- ---- zeros behind

drop-zeros : (k n : ℕ) → drop k (replicate {A = ℕ} n 0) ≡ replicate (n - k) 0
drop-zeros zero n = rw (sub-zero n)
drop-zeros (suc k) zero = rw (zero-sub (suc k))
drop-zeros (suc k) (suc n) = rw (suc-sub-suc n k) (drop-zeros k n)

front-padded : (xs : List ℕ) (n : ℕ) → length xs ≤ n → sets (replicate n 0) 0 xs ≡ padded_to n xs
unfolding padded_to
front-padded xs n h = sets-front (replicate n 0) xs (rw (length-replicate {A = ℕ} n 0) h) ∙ rw (drop-zeros (length xs) n)

-- ---- a whole text

module _ (text : List ℕ) (n : ℕ) (p : LinesAccepted text n) where
  -- what the text says
  scene : Scene
  scene = scene_of p.lines

  -- the lines are those of the scene that they say
  said : LinesPrinted p.lines (kinds_of (length scene.inputs) (length scene.outputs) (length scene.deps) (length scene.witnesses)) (lines_of scene)
  unfolding scene
  said = rw (lines-back text n p) at (each-printed (scene-prints scene (sayable scene (reading-ok text n p))))

  -- their bytes are the scene's
  pub bytes-said : joined (map bytes_of_line p.lines) ≡ scene_bytes (scene_of p.lines)
  unfolding scene scene_bytes
  bytes-said = rw (line-bytes p.lines, said.read)

  -- and their records
  numbers-said : counts_of scene ++ records_from 0 (map line_read p.lines) ≡ scene_numbers scene
  unfolding scene_numbers
  numbers-said = rw said.read

  -- the store holds the scene's bytes
  pub scene-bytes-fit : length (scene_bytes (scene_of p.lines)) ≤ n
  unfolding scene
  scene-bytes-fit = rw bytes-said at p.room

  module _ (m : ℕ) where
    -- the store that they leave
    store-left : (put_lines (reader_start n m) p.lines).store ≡ scene_store (scene_of p.lines) n
    unfolding reader_start scene_store scene
    store-left = store-lines p.lines (reader_start n m) ∙ rw bytes-said (front-padded (scene_bytes scene) n scene-bytes-fit)

    -- the counts that they leave in the table
    counts-left : 8 ≤ m → counts_after (replicate m 0) 0 0 (map kind_of_line p.lines) ≡ sets (replicate m 0) 0 (counts_of scene)
    unfolding counts_of
    counts-left h = rw said.ordered (counts-set m (length scene.inputs) (length scene.outputs) (length scene.deps) (length scene.witnesses) h)

    -- a table with room for the scene has room for the counts
    counts-room : length (scene_numbers scene) ≤ m → 8 ≤ m
    unfolding counts_of
    counts-room h = let e = ap length numbers-said in omega arith

    -- the table that they leave
    table-left : length (scene_numbers scene) ≤ m → (put_lines (reader_start n m) p.lines).table ≡ scene_table scene m
    unfolding reader_start scene_table counts_of
    table-left h =
        table-lines p.lines (reader_start n m) (omega arith)
        ∙ (ap (λ (t : List ℕ). sets t 8 (records_from 0 (map line_read p.lines))) (counts-left (counts-room h))
        ∙ (sets-append (replicate m 0) 0 (counts_of scene) (records_from 0 (map line_read p.lines)) 8 refl
        ∙ rw numbers-said (front-padded (scene_numbers scene) m h)))

    -- what the run holds at the end
    pub passes-leaves : (g : ReaderState) → lines_outcome (reader_start n m) (pieces line_end text) ≡ reader_holds g
        → (g.store ≡ scene_store (scene_of p.lines) n)
        × (length (scene_numbers (scene_of p.lines)) ≤ m → g.table ≡ scene_table (scene_of p.lines) m)
    unfolding scene
    passes-leaves g e =
        let same : g ≡ put_lines (reader_start n m) p.lines = held_same g _ (sym e ∙ passes-run text n m p) in
        (rw same store-left, λ h. rw same (table-left h))
