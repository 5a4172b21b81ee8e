-- A run over lines holds exactly where each line passes its rows, and then every line has been put down.
-- Assumes nothing.
use Rattle.std.specs.Prelude.{Err, Ok, Option, None}
use Prim.Native.Nat.{ℕ, suc, ◌+◌, ◌≤◌}
use mathlib.Core.Bool.{Bool, true, false, cond, not, ◌&&◌, false≢true}
use mathlib.Core.Path.{◌≡◌, refl, sym, ap, ◌∙◌}
use mathlib.Core.List.{List, [], ◌∷◌, ◌++◌}
use native.Mathlib.Omega.{arith}
use lib.ListN.{length}
use lib.Seq.{length-sets}
use lib.Dec.{ltb, leb, eqb}
use borrow.Author.Tests.{leb-true, le-leb, eqb-true, ne_eqb, eq-eqb, not-true}
use Rattle.protocol.specs.Rows.{decide, AllPass, Check}
use Rattle.protocol.proofs.AllPass.{passed-all-pass, all-pass-passed}
use Rattle.text.specs.Text.{pieces, comma, line_end}
use Rattle.scene_line.specs.declared.kind.Kind.{Kind}
use Rattle.scene_line.specs.Kind.{rank, field_count, first_form, kind_of, follows, line_kind, line_fields}
use Rattle.scene_line.specs.Line.{forms_ok, line_bytes}
use Rattle.octets.specs.Lists.{same}
use Rattle.scene_reader.specs.Reader.{ReaderState, reader_refuses, reader_holds, seen_with, line_put_as, line_rows, rows_of_line, line_put, scene_end_rows, lines_outcome}
use Rattle.scene_reader.proofs.LinesOutcome.{run-passed, run-failed, run-last, held-passed, pieces-some}
use Rattle.scene_reading.specs.Lines.{word_of, kind_of_line, fields_of_line, count_ok, form_ok, bytes_of_line}
use Rattle.octets.proofs.Truth.{and_both}

-- a line passes the line rows, after `seen` lines of the kind of rank `last`, with `used` of `size` bytes of the store filled
pub record LinePasses (last seen used size : ℕ) (l : List ℕ) : Type 0 where
  pub order : follows last (rank (kind_of_line l)) ≡ true
  pub count : count_ok l ≡ true
  pub few : seen_with last seen (rank (kind_of_line l)) ≤ 64
  pub form : form_ok l ≡ true
  pub room : used + length (bytes_of_line l) ≤ size

-- each line passes, and verdicts stand last
unfoldable pub LinesPass : ℕ → ℕ → ℕ → ℕ → List (List ℕ) → Type 0
LinesPass last seen used size [] = last ≡ 7
LinesPass last seen used size (l ∷ ls) =
    LinePasses last seen used size l
    × LinesPass (rank (kind_of_line l)) (seen_with last seen (rank (kind_of_line l))) (used + length (bytes_of_line l)) size ls

-- the lines put down one behind another
unfoldable pub put_line : ReaderState → List ℕ → ReaderState
put_line h l = line_put_as h (kind_of_line l) (fields_of_line l)

unfoldable pub put_lines : ReaderState → List (List ℕ) → ReaderState
put_lines h [] = h
put_lines h (l ∷ ls) = put_lines (put_line h l) ls

-- ---- the row for 2

-- no line is of kind 0
follows-none : (last k : ℕ) → follows last k ≡ true → k ≡ 0 → ⊥
unfolding follows
follows-none last k f e = by (ltb last 2) f
  where
    by : (t : Bool) → cond t (eqb k (last + 1)) (leb 3 k && (leb last k && not (eqb last 7))) ≡ true → ⊥
    by true f = let z : k ≡ last + 1 = eqb-true k (last + 1) f in omega arith
    by false f = false≢true (rw e at f)

module _ (last : ℕ) where
  kind-known : (ws : List (List ℕ)) → follows last (rank (kind_of (word_of ws))) ≡ true → eqb (length (line_fields ws)) (field_count (kind_of (word_of ws))) ≡ true
      → line_kind last ws ≡ kind_of (word_of ws)
  unfolding line_kind word_of line_fields kind_of same
  kind-known [] f n = refl
  kind-known (w ∷ fs) f n = rw (f, n)

  known-kind : (ws : List (List ℕ)) → eqb (rank (line_kind last ws)) 0 ≡ false
      → (follows last (rank (kind_of (word_of ws))) ≡ true)
      × ((eqb (length (line_fields ws)) (field_count (kind_of (word_of ws))) ≡ true) × (line_kind last ws ≡ kind_of (word_of ws)))
  unfolding line_kind word_of line_fields
  known-kind [] e = absurd (false≢true (sym e))
  known-kind (w ∷ fs) e = by (follows last (rank (kind_of w)) && eqb (length fs) (field_count (kind_of w))) refl e
    where
      by : (t : Bool) → (follows last (rank (kind_of w)) && eqb (length fs) (field_count (kind_of w))) ≡ t → eqb (rank (cond t (kind_of w) None)) 0 ≡ false
          → (follows last (rank (kind_of w)) ≡ true)
          × ((eqb (length fs) (field_count (kind_of w)) ≡ true) × (cond t (kind_of w) None ≡ kind_of w))
      by true q e = let p = and_both (follows last (rank (kind_of w))) _ q in (p.0, (p.1, refl))
      by false q e = absurd (false≢true (sym e))

-- ---- one line

pub held_same : (g h : ReaderState) → reader_holds g ≡ reader_holds h → g ≡ h
held_same g h e = cc

-- every row passes a line of a kind with a rank
record Rows (h : ReaderState) (k : Option Kind) (fs : List (List ℕ)) : Type 0 where
  known : eqb (rank k) 0 ≡ false
  few : seen_with h.last h.seen (rank k) ≤ 64
  form : forms_ok true (first_form k) fs ≡ true
  room : h.used + length (line_bytes (first_form k) fs) ≤ length h.store

rows_of : (h : ReaderState) (k : Option Kind) (fs : List (List ℕ)) → AllPass (line_rows h k fs) → Rows h k fs
unfolding line_rows
rows_of h k fs z =
    record {
      known = not-true (eqb (rank k) 0) z.0;
      few = leb-true (seen_with h.last h.seen (rank k)) 64 z.1.0;
      form = z.1.1.0;
      room = leb-true (h.used + length (line_bytes (first_form k) fs)) (length h.store) z.1.1.1.0;
    }

of-rows : (h : ReaderState) (k : Option Kind) (fs : List (List ℕ)) → Rows h k fs → AllPass (line_rows h k fs)
unfolding line_rows
of-rows h k fs r = (rw r.known, (le-leb _ 64 r.few, (r.form, (le-leb _ (length h.store) r.room, tt))))

module _ (h : ReaderState) (l : List ℕ) where
  -- every row passes a line
  line-holds : LinePasses h.last h.seen h.used (length h.store) l → AllPass (rows_of_line h l) × (line_put h l ≡ put_line h l)
  unfolding rows_of_line line_put put_line kind_of_line fields_of_line count_ok form_ok bytes_of_line
  line-holds p =
      let k = kind-known h.last (pieces comma l) p.order p.count in
      let known = ne_eqb (rank (kind_of (word_of (pieces comma l)))) 0 (follows-none h.last _ p.order) in
      (rw k (of-rows h _ _ (record { known = known; few = p.few; form = p.form; room = p.room })), rw k)

  holds-line : AllPass (rows_of_line h l) → LinePasses h.last h.seen h.used (length h.store) l × (line_put h l ≡ put_line h l)
  unfolding rows_of_line line_put put_line kind_of_line fields_of_line count_ok form_ok bytes_of_line
  holds-line z =
      let r = rows_of h (line_kind h.last (pieces comma l)) (line_fields (pieces comma l)) z in
      let k = known-kind h.last (pieces comma l) r.known in (
        record { order = k.0; count = k.1.0; few = rw k.1.1 at r.few; form = rw k.1.1 at r.form; room = rw k.1.1 at r.room },
        rw k.1.1,
      )

-- ---- the lines

-- what is left to do passes after a line put down
module _ (h : ReaderState) (l : List ℕ) (ls : List (List ℕ)) where
  onto : LinesPass (rank (kind_of_line l)) (seen_with h.last h.seen (rank (kind_of_line l))) (h.used + length (bytes_of_line l)) (length h.store) ls
      → LinesPass (put_line h l).last (put_line h l).seen (put_line h l).used (length (put_line h l).store) ls
  unfolding put_line line_put_as bytes_of_line
  onto p = rw (length-sets h.store h.used _) p

  from : LinesPass (put_line h l).last (put_line h l).seen (put_line h l).used (length (put_line h l).store) ls
      → LinesPass (rank (kind_of_line l)) (seen_with h.last h.seen (rank (kind_of_line l))) (h.used + length (bytes_of_line l)) (length h.store) ls
  unfolding put_line line_put_as bytes_of_line
  from p = rw (length-sets h.store h.used _) at p

-- behind a line that passes come those behind it, and the end
line-run : (h : ReaderState) (l : List ℕ) (ls : List (List ℕ)) → decide (Ok tt) (rows_of_line h l) ≡ Ok tt → lines_outcome h (l ∷ (ls ++ ([] ∷ []))) ≡ lines_outcome (line_put h l) (ls ++ ([] ∷ []))
line-run h l [] e = run-passed h l [] [] e
line-run h l (k ∷ ls) e = run-passed h l k (ls ++ ([] ∷ [])) e

-- the end passes behind verdicts
ends : (h : ReaderState) → h.last ≡ 7 → AllPass (scene_end_rows h [])
unfolding scene_end_rows
ends h e = (refl, (eq-eqb h.last 7 e, tt))

-- lines that pass are put down
pub lines-run : (ls : List (List ℕ)) (h : ReaderState) → LinesPass h.last h.seen h.used (length h.store) ls
    → lines_outcome h (ls ++ ([] ∷ [])) ≡ reader_holds (put_lines h ls)
unfolding LinesPass put_lines
lines-run [] h p = run-last h [] _ refl ∙ rw (all-pass-passed (scene_end_rows h []) (ends h p))
lines-run (l ∷ ls) h p =
    let z = line-holds h l p.0 in
    line-run h l ls (all-pass-passed (rows_of_line h l) z.0) ∙ rw z.1 (lines-run ls (put_line h l) (onto h l ls p.1))

-- lines that a run holds pass
pub record Ran (h g : ReaderState) (P : List (List ℕ)) : Type 0 where
  pub lines : List (List ℕ)
  pub ended : P ≡ lines ++ ([] ∷ [])
  pub pass : LinesPass h.last h.seen h.used (length h.store) lines
  pub result : g ≡ put_lines h lines

no_bytes : (l : List ℕ) → eqb (length l) 0 ≡ true → l ≡ []
no_bytes [] e = refl
no_bytes (x ∷ l) e = absurd (let z : suc (length l) ≡ 0 = eqb-true (suc (length l)) 0 e in omega arith)

ran-last : (h g : ReaderState) (l : List ℕ) → lines_outcome h (l ∷ []) ≡ reader_holds g → Ran h g (l ∷ [])
unfolding scene_end_rows LinesPass put_lines
ran-last h g l e =
    let p = held-passed _ _ g (sym (run-last h l _ refl) ∙ e) in
    let b = passed-all-pass (scene_end_rows h l) p.0 in
    record { lines = []; ended = rw (no_bytes l b.0); pass = eqb-true h.last 7 b.1.0; result = sym p.1 }

run-lines : (l : List ℕ) (ls : List (List ℕ)) (h g : ReaderState) → lines_outcome h (l ∷ ls) ≡ reader_holds g → Ran h g (l ∷ ls)
unfolding LinesPass put_lines
run-lines l [] h g e = ran-last h g l e
run-lines l (k ∷ ls) h g e = on (decide (Ok tt) (rows_of_line h l)) refl (λ j q. run-lines k ls j g q)
  where
    on : (c : Check) → decide (Ok tt) (rows_of_line h l) ≡ c → ((j : ReaderState) → lines_outcome j (k ∷ ls) ≡ reader_holds g → Ran j g (k ∷ ls)) → Ran h g (l ∷ k ∷ ls)
    on (Err a) s rec = absurd (let r : reader_refuses a ≡ reader_holds g = sym (run-failed h l k ls a s) ∙ e in let z : ◌≡◌ {A = ℕ} 0 1 = cc in omega arith)
    on (Ok _) s rec =
        let p = holds-line h l (passed-all-pass (rows_of_line h l) s) in
        let r = rec (put_line h l) (rw p.1 at (sym (run-passed h l k ls s) ∙ e)) in
        record { lines = l ∷ r.lines; ended = ap (λ (t : List (List ℕ)). l ∷ t) r.ended; pass = (p.0, from h l r.lines r.pass); result = r.result }

-- so do those of a text, which has at least one piece
pub run-text : (text : List ℕ) (h g : ReaderState) → lines_outcome h (pieces line_end text) ≡ reader_holds g → Ran h g (pieces line_end text)
run-text text h g e = let q = pieces-some line_end text in rw q.2 (run-lines q.0 q.1 h g (rw q.2 at e))
