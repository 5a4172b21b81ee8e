-- What the lock reads in the table and the store of an accepted text is the scene that the text says; its test of a table
-- passes exactly where an accepted text, its length aside, leaves that table; so it passes the table of every accepted text.
-- Assumes nothing.
use Rattle.std.specs.Prelude.{Ok}
use Prim.Native.Nat.{ℕ, ◌-◌, ◌≤◌}
use mathlib.Core.Bool.{true}
use mathlib.Core.Path.{◌≡◌, sym, ap, ◌∙◌}
use mathlib.Core.List.{List}
use mathlib.Core.Logic.{◌↔◌}
use native.Mathlib.Omega.{arith}
use lib.ListN.{length, replicate, length-append, length-replicate}
use Rattle.scene_reader.specs.Reader as reader
use Rattle.scene_reader.specs.Reader.{read_of, reader_check}
use Rattle.scene_table.specs.Scene.{Scene, scene_bytes, scene_numbers, padded_to, scene_store, scene_table}
use Rattle.scene_table.specs.Lent.{scene_in}
use Rattle.scene_table.specs.Valid.{scene_ok, valid_table}
use Rattle.scene_table.proofs.Inverse.{lent_back}
use Rattle.scene_table.proofs.ValidTheorem.{valid-table}
use Rattle.protocol.specs.Limits.{table_min_entries}
use Rattle.scene_reading.specs.Lines.{LinesAccepted}
use Rattle.scene_reading.specs.Reading.{scene_of}
use Rattle.scene_reading.specs.Print.{text_of}
use Rattle.scene_reading.specs.Left.{Reachable}
use Rattle.scene_reading.proofs.Accepts.{accepted-passes, passes-accepted}
use Rattle.scene_reading.proofs.Leaves.{scene-bytes-fit, passes-leaves}
use Rattle.scene_reading.proofs.PrintBack.{reading-ok}
use Rattle.scene_table.proofs.SceneBack.{numbers-few}
use Rattle.scene_reading.proofs.SceneAccepts.{reader-accepts, scene-encodes}
use Rattle.scene_reading.proofs.Printed.{printed-passes, printed-lines, printed-reading}

-- the lent table and store of an accepted text are read as its scene
pub accessors-give : (text : List ℕ) (n m : ℕ) → reader_check (read_of text n m) ≡ Ok tt → (p : LinesAccepted text n)
    → scene_in (reader.reader_table m (read_of text n m)) (reader.reader_store n (read_of text n m)) ≡ scene_of p.lines
accessors-give text n m e p =
    let l = scene-encodes text n m e p in
    rw (l.table, l.store) (lent_back (scene_of p.lines) m n l.ok)

module _ (table : List ℕ) (n : ℕ) (long : table_min_entries ≤ length table) where
  -- the print of a scene leaves its table
  printed-leaves : (s : Scene) → scene_ok s ≡ true → length (scene_bytes s) ≤ n → table ≡ scene_table s (length table) → Reachable table n
  printed-leaves s ok fits e =
      let p = printed-passes s n ok fits in
      let r = passes-accepted (text_of s) n (length table) p in
      let l : scene_of p.lines ≡ s = ap scene_of (printed-lines s n ok fits) ∙ printed-reading s ok in
      let w : length (scene_numbers s) ≤ 1181 = numbers-few s ok in
      let f : length (scene_numbers (scene_of p.lines)) ≤ length table = rw l (omega arith) in
      record { text = text_of s; left = r.0; ran = r.1; same = (passes-leaves (text_of s) n p (length table) r.0 r.1).1 f ∙ (rw l (sym e)) }

  -- a text that passes says a scene whose table it leaves
  left-scene : Reachable table n → (s : Scene) × (scene_ok s ≡ true) × (length (scene_bytes s) ≤ n) × (table ≡ scene_table s (length table))
  left-scene l =
      let p = accepted-passes l.text n (length table) l.left l.ran in
      let s = scene_of p.lines in
      let ok = reading-ok l.text n p in
      let w : length (scene_numbers (scene_of p.lines)) ≤ 1181 = numbers-few (scene_of p.lines) ok in
      let f : length (scene_numbers (scene_of p.lines)) ≤ length table = omega arith in
      (s, ok, scene-bytes-fit l.text n p, sym l.same ∙ (passes-leaves l.text n p (length table) l.left l.ran).1 f)

-- the lock's row for 7
pub table-test : (table : List ℕ) (n : ℕ) → (valid_table table n ≡ true) ↔ ((table_min_entries ≤ length table) × Reachable table n)
table-test table n = (
  λ e. let v = (valid-table table n).0 e in (v.0, printed-leaves table n v.0 v.1 v.2 v.3 v.4),
  λ l. let s = left-scene table n l.0 l.1 in (valid-table table n).1 (l.0, s.0, s.1, s.2, s.3),
)

-- as long as it is to be
padded-length : (xs : List ℕ) (n : ℕ) → length xs ≤ n → length (padded_to n xs) ≡ n
unfolding padded_to
padded-length xs n h = omega (arith, length-append xs (replicate (n - length xs) 0), length-replicate {A = ℕ} (n - length xs) 0)

module _ (text : List ℕ) (n m : ℕ) (e : reader_check (read_of text n m) ≡ Ok tt) where
  -- the store is as long as the one that was lent
  pub left-store-length : length (reader.reader_store n (read_of text n m)) ≡ n
  unfolding scene_store
  left-store-length =
      let p = ((reader-accepts text n m).0 e).1.1 in
      let l = scene-encodes text n m e p in
      rw l.store (padded-length (scene_bytes (scene_of p.lines)) n l.fits)

  -- a text that the reader accepts leaves a table that passes the lock's row for 7, with that store
  pub reader-leaves-valid : valid_table (reader.reader_table m (read_of text n m)) n ≡ true
  unfolding scene_table
  reader-leaves-valid =
      let a = (reader-accepts text n m).0 e in
      let l = scene-encodes text n m e a.1.1 in
      let s = scene_of a.1.1.lines in
      let k : length (scene_table s m) ≡ m = padded-length (scene_numbers s) m l.few in
      rw l.table ((valid-table (scene_table s m) n).1 (omega (arith, a.1.0), s, l.ok, l.fits, rw k))
