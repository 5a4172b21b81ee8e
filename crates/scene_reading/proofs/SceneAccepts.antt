-- The reader accepts exactly the texts within its limits that no line row refuses, and leaves the store and the table of the
-- scene that the text says.
-- Assumes nothing.
use Rattle.std.specs.Prelude.{Ok}
use Prim.Native.Nat.{ℕ, ◌≤◌}
use mathlib.Core.Path.{◌≡◌, refl, sym, ◌∙◌}
use mathlib.Core.List.{List}
use mathlib.Core.Logic.{◌↔◌}
use native.Mathlib.Omega.{arith}
use lib.ListN.{length}
use borrow.Author.Tests.{le-leb}
use Rattle.protocol.proofs.AllPass.{all-pass-passed, all-pass-split}
use Rattle.text.specs.Text.{pieces, line_end}
use Rattle.scene_reader.specs.Reader.{ReaderState, ReaderOutcome, reader_refuses, reader_holds, lines_outcome, reader_start, scene_limit_rows, scene_rows, read_of, reader_check}
use Rattle.scene_reader.proofs.LinesOutcome.{limits-within, limits-passed}
use Rattle.scene_reader.proofs.SceneRefuses as rows
use Rattle.scene_table.specs.Scene.{scene_numbers}
use Rattle.protocol.specs.Limits.{scene_max_length, table_min_entries}
use Rattle.scene_reading.specs.Lines.{LinesAccepted}
use Rattle.scene_reading.specs.Reading.{scene_of}
use Rattle.scene_reading.specs.Left.{Encodes}
use Rattle.scene_reading.proofs.Accepts.{accepted-passes, passes-accepted}
use Rattle.scene_reading.proofs.Leaves.{scene-bytes-fit, passes-leaves}
use Rattle.scene_reading.proofs.PrintBack.{reading-ok}
use Rattle.scene_table.proofs.SceneBack.{numbers-few}

-- an outcome that passes holds something
passed-held : (o : ReaderOutcome) → reader_check o ≡ Ok tt → (g : ReaderState) × (o ≡ reader_holds g)
passed-held (reader_refuses e) h = absurd (let z : ◌≡◌ {A = ℕ} 0 1 = cc in omega arith)
passed-held (reader_holds g) h = (g, refl)

module _ (text : List ℕ) (n m : ℕ) where
  accepted : reader_check (read_of text n m) ≡ Ok tt → (length text ≤ scene_max_length) × ((table_min_entries ≤ m) × LinesAccepted text n)
  unfolding scene_rows
  accepted e =
      let l = all-pass-passed _ (all-pass-split (scene_limit_rows text m) _ ((rows.scene-passes-rows text n m).0 e)).0 in
      let w = limits-within text m l in
      let h = passed-held (read_of text n m) e in
      (w.0, (w.1, accepted-passes text n m h.0 (sym (limits-passed text n m l) ∙ h.1)))

  -- within the limits the run decides
  within-limits : length text ≤ scene_max_length → table_min_entries ≤ m → read_of text n m ≡ lines_outcome (reader_start n m) (pieces line_end text)
  unfolding scene_limit_rows
  within-limits a b = limits-passed text n m (all-pass-passed (scene_limit_rows text m) (le-leb (length text) scene_max_length a, (le-leb table_min_entries m b, tt)))

  accepting : (length text ≤ scene_max_length) × ((table_min_entries ≤ m) × LinesAccepted text n) → reader_check (read_of text n m) ≡ Ok tt
  accepting h = rw (within-limits h.0 h.1.0, (passes-accepted text n m h.1.1).1)

  -- accepted exactly where no reader or line row refuses
  pub reader-accepts : (reader_check (read_of text n m) ≡ Ok tt) ↔ ((length text ≤ scene_max_length) × ((table_min_entries ≤ m) × LinesAccepted text n))
  reader-accepts = (accepted, accepting)

  -- the store and the table after an accepted text are those of the scene that its lines say
  pub scene-encodes : reader_check (read_of text n m) ≡ Ok tt → (p : LinesAccepted text n) → Encodes text n m (scene_of p.lines)
  scene-encodes e p =
      let h = accepted e in
      let r = passes-accepted text n m p in
      let l = passes-leaves text n p m r.0 r.1 in
      let k = reading-ok text n p in
      let w : length (scene_numbers (scene_of p.lines)) ≤ 1181 = numbers-few (scene_of p.lines) k in
      let f : length (scene_numbers (scene_of p.lines)) ≤ m = omega (arith, h.1.0) in
      record {
        store = rw (within-limits h.0 h.1.0, r.1) l.0;
        table = rw (within-limits h.0 h.1.0, r.1) (l.1 f);
        ok = k;
        fits = scene-bytes-fit text n p;
        few = f;
      }
