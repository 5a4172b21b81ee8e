-- Laws of the reader's rows and of a run over the lines. Assumes nothing.
use Rattle.std.specs.Prelude.{Option, Err, Ok}
use Prim.Native.Nat.{ℕ, ◌≤◌}
use mathlib.Core.Path.{◌≡◌, refl, ap, ◌∙◌}
use mathlib.Core.List.{List, [], ◌∷◌, ◌++◌}
use native.Mathlib.Omega.{arith}
use borrow.Author.Tests.{leb-true}
use lib.ListN.{length, replicate}
use Rattle.protocol.specs.Rows.{Row, decide, Check}
use Rattle.protocol.specs.declared.error.ProtocolError.{ProtocolError}
use Rattle.protocol.proofs.AllPass.{decide-append, decide-failed, passed-all-pass}
use Rattle.protocol.specs.Limits.{scene_max_length, table_min_entries}
use Rattle.text.specs.Text.{pieces, before, line_end, comma}
use Rattle.scene_line.specs.declared.kind.Kind.{Kind}
use Rattle.scene_line.specs.Kind.{line_kind, line_fields}
use Rattle.scene_reader.specs.Reader.{ReaderState, ReaderOutcome, reader_holds, reader_refuses, outcome_after, rows_of_line, line_put, lines_rows, lines_put, lines_outcome, reader_start, scene_limit_rows, scene_rows, read_of}
use Rattle.scene_reader.specs.Room.{line_outcome_as, line_outcome, scene_end_outcome}
use Rattle.text.proofs.Pieces.{before-none}

pub starts : (n m : ℕ) (a b : List ℕ) → a ≡ replicate n 0 → b ≡ replicate m 0
    → reader_start n m ≡ record { last = 0; seen = 0; used = 0; filled = 8; store = a; table = b }
unfolding reader_start
starts n m a b p q = rw (p, q)

-- a list of rows in front of another: it passes, and the other decides
rows_on : (ps qs : List Row) → decide (Ok tt) ps ≡ Ok tt → decide (Ok tt) (ps ++ qs) ≡ decide (Ok tt) qs
rows_on ps qs e = decide-append (Ok tt) ps qs ∙ rw e

-- or it refuses
rows-off : (ps qs : List Row) (a : ProtocolError) → decide (Ok tt) ps ≡ Err a → decide (Ok tt) (ps ++ qs) ≡ Err a
rows-off ps qs a e = decide-append (Ok tt) ps qs ∙ rw e (decide-failed qs a)

module _ (h : ReaderState) (l m : List ℕ) (ls : List (List ℕ)) where
  -- behind a line that its rows pass the other lines run
  pub run-passed : decide (Ok tt) (rows_of_line h l) ≡ Ok tt → lines_outcome h (l ∷ m ∷ ls) ≡ lines_outcome (line_put h l) (m ∷ ls)
  unfolding lines_outcome lines_rows lines_put
  run-passed e = rw (rows_on (rows_of_line h l) (lines_rows (line_put h l) (m ∷ ls)) e)

  -- a line that its rows refuse decides
  pub run-failed : (a : ProtocolError) → decide (Ok tt) (rows_of_line h l) ≡ Err a → lines_outcome h (l ∷ m ∷ ls) ≡ reader_refuses a
  unfolding lines_outcome lines_rows
  run-failed a e = rw (rows-off (rows_of_line h l) (lines_rows (line_put h l) (m ∷ ls)) a e)

-- the end of the lines
pub run-last : (h : ReaderState) (l : List ℕ) (P : List (List ℕ)) → P ≡ l ∷ [] → lines_outcome h P ≡ scene_end_outcome h l
unfolding lines_outcome lines_rows lines_put
run-last h l P e = rw e

-- where the reader's own rows pass, scene and table are within its limits
pub limits-within : (scene : List ℕ) (m : ℕ) → decide (Ok tt) (scene_limit_rows scene m) ≡ Ok tt → (length scene ≤ scene_max_length) × (table_min_entries ≤ m)
unfolding scene_limit_rows
limits-within scene m e =
    let z = passed-all-pass (scene_limit_rows scene m) e in
    (leb-true (length scene) scene_max_length z.0, leb-true table_min_entries m z.1.0)

module _ (scene : List ℕ) (n m : ℕ) where
  -- then the lines decide
  pub limits-passed : decide (Ok tt) (scene_limit_rows scene m) ≡ Ok tt → read_of scene n m ≡ lines_outcome (reader_start n m) (pieces line_end scene)
  unfolding read_of scene_rows lines_outcome
  limits-passed e = rw (rows_on (scene_limit_rows scene m) (lines_rows (reader_start n m) (pieces line_end scene)) e)

  -- else the row that fails
  pub limits-failed : (a : ProtocolError) → decide (Ok tt) (scene_limit_rows scene m) ≡ Err a → read_of scene n m ≡ reader_refuses a
  unfolding read_of scene_rows
  limits-failed a e = rw (rows-off (scene_limit_rows scene m) (lines_rows (reader_start n m) (pieces line_end scene)) a e)

-- something is held where the rows passed
pub held-passed : (c : Check) (h g : ReaderState) → outcome_after c h ≡ reader_holds g → (c ≡ Ok tt) × (h ≡ g)
held-passed (Ok _) h g e = (refl, cc)
held-passed (Err a) h g e = absurd (let z : ◌≡◌ {A = ℕ} 0 1 = cc in omega arith)

-- and a refusal is the one that they found
pub refused-failed : (c : Check) (h : ReaderState) (a : ProtocolError) → outcome_after c h ≡ reader_refuses a → c ≡ Err a
refused-failed (Ok _) h a e = absurd (let z : ◌≡◌ {A = ℕ} 0 1 = cc in omega arith)
refused-failed (Err b) h a e = cc

-- a text has at least one piece
some : (ps : List (List ℕ)) → ps ≡ before [] ps → (m : List ℕ) × (ms : List (List ℕ)) × (ps ≡ m ∷ ms)
unfolding before
some [] e = let z : ◌≡◌ {A = ℕ} 0 1 = ap length e in absurd (omega arith)
some (p ∷ ps) e = (p, ps, refl)

pub pieces-some : (c : ℕ) (s : List ℕ) → (m : List ℕ) × (ms : List (List ℕ)) × (pieces c s ≡ m ∷ ms)
pieces-some c s = some (pieces c s) (before-none c s)

module _ (h : ReaderState) (l s : List ℕ) (P : List (List ℕ)) (cut : P ≡ l ∷ pieces line_end s) where
  -- a line that is held, and those behind it
  pub run_on : (g : ReaderState) → line_outcome h l ≡ reader_holds g → lines_outcome h P ≡ lines_outcome g (pieces line_end s)
  run_on g q =
      let k = held-passed _ _ g q in
      let z = pieces-some line_end s in
      rw (cut, z.2) (run-passed h l z.0 z.1 k.0 ∙ rw k.1)

  -- a line that is refused
  pub run-off : (a : ProtocolError) → line_outcome h l ≡ reader_refuses a → lines_outcome h P ≡ reader_refuses a
  run-off a q =
      let z = pieces-some line_end s in
      rw (cut, z.2) (run-failed h l z.0 z.1 a (refused-failed _ _ a q))

-- a line's step by the word before its first comma and the fields behind it
pub step_cut : (h : ReaderState) (line w fields : List ℕ) (k : Option Kind) (o : ReaderOutcome) → pieces comma line ≡ w ∷ pieces comma fields
    → k ≡ line_kind h.last (w ∷ pieces comma fields) → o ≡ line_outcome_as h k (pieces comma fields) → o ≡ line_outcome h line
unfolding rows_of_line line_put line_fields
step_cut h line w fields k o cut hk ho = ho ∙ rw (hk, cut)
