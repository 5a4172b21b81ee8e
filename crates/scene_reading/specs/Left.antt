-- What the reader leaves in the lent store and table after an accepted text.
use Rattle.std.specs.Prelude.{ℕ, ◌≤◌, true, ◌≡◌, List, length}
use Rattle.text.specs.Text.{pieces, line_end}
use Rattle.scene_reader.specs.Reader as reader
use Rattle.scene_reader.specs.Reader.{ReaderState, reader_holds, lines_outcome, reader_start, read_of}
use Rattle.scene_table.specs.Scene.{Scene, scene_bytes, scene_numbers, scene_store, scene_table}
use Rattle.scene_table.specs.Valid.{scene_ok}

-- 01: "The reader puts the bytes of all hexadecimal fields end to end into a lent store, the rest into a lent u32 table": a store
-- of n bytes and a table of m entries that hold the scene
pub record Encodes (text : List ℕ) (n m : ℕ) (s : Scene) : Type 0 where
  pub store : reader.reader_store n (read_of text n m) ≡ scene_store s n
  pub table : reader.reader_table m (read_of text n m) ≡ scene_table s m
  pub ok : scene_ok s ≡ true
  pub fits : length (scene_bytes s) ≤ n
  pub few : length (scene_numbers s) ≤ m

-- 01: "a table that the reader, scene length aside, leaves for no accepted scene with a store this long": here a text whose lines
-- pass leaves the table, with a store of n bytes
pub record Reachable (table : List ℕ) (n : ℕ) : Type 0 where
  pub text : List ℕ
  pub left : ReaderState
  pub ran : lines_outcome (reader_start n (length table)) (pieces line_end text) ≡ reader_holds left
  pub same : left.table ≡ table
