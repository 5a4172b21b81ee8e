-- A store as long as the scene is long enough: the reader never gives 6 with it.
-- Assumes nothing.
use Rattle.std.specs.Prelude.{Err, Ok}
use Prim.Native.Nat.{ℕ, suc, ◌+◌, ◌≤◌}
use mathlib.Core.Bool.{Bool, true, false, cond}
use mathlib.Core.Logic.{inl, inr}
use mathlib.Core.Path.{◌≡◌, refl, ap}
use mathlib.Core.List.{List, [], ◌∷◌}
use native.Mathlib.Omega.{arith}
use borrow.Author.Tests.{leb-false}
use lib.Dec.{eqb}
use lib.ListN.{length, length-append, length-replicate}
use lib.Seq.{length-sets}
use Rattle.octets.specs.Lists.{joined}
use Rattle.protocol.specs.Errors.{error_number}
use Rattle.protocol.specs.Rows.{decide, FirstFailed, check_number, Check}
use Rattle.protocol.specs.declared.error.ProtocolError.{ProtocolError}
use Rattle.protocol.proofs.AllPass.{failed-first}
use Rattle.protocol.proofs.Each.{Refuses, each-refuses}
use Rattle.text.specs.Text.{pieces, before, hex_bytes, comma, line_end}
use Rattle.text.proofs.HexLaws.{hex-length}
use Rattle.scene_line.specs.declared.form.Form.{Form}
use Rattle.scene_line.specs.Line.{next_form, hex_form, field_bytes, line_bytes}
use Rattle.scene_line.specs.Kind.{first_form, line_kind, line_fields}
use Rattle.scene_reader.specs.Reader.{ReaderState, ReaderOutcome, outcome_after, line_put_as, line_rows, rows_of_line, line_put, scene_end_rows, lines_outcome, reader_start, scene_limit_rows, read_of, reader_check}
use Rattle.scene_reader.specs.Room.{scene_end_outcome}
use Rattle.scene_reader.proofs.LinesOutcome.{run-passed, run-failed, run-last, limits-passed, limits-failed, pieces-some}
use Rattle.protocol.specs.Limits.{table_min_entries}

-- the pieces of a text have no more bytes than it
joined-before : (x : ℕ) (ps : List (List ℕ)) → length (joined (before (x ∷ []) ps)) ≡ suc (length (joined ps))
unfolding joined before
joined-before x [] = refl
joined-before x (p ∷ ps) = refl

pub pieces-short : (c : ℕ) (s : List ℕ) → length (joined (pieces c s)) ≤ length s
unfolding pieces joined
pieces-short c [] = omega arith
pieces-short c (x ∷ r) = go (eqb x c) (pieces-short c r)
  where
    go : (b : Bool) → length (joined (pieces c r)) ≤ length r → length (joined (cond b ([] ∷ pieces c r) (before (x ∷ []) (pieces c r)))) ≤ suc (length r)
    go true h = omega arith
    go false h = omega (arith, joined-before x (pieces c r))

-- nor has a line's hexadecimal fields' content
field-short : (t : Form) (f : List ℕ) → length (field_bytes t f) ≤ length f
unfolding field_bytes
field-short t f = go (hex_form t)
  where
    go : (b : Bool) → length (cond b (hex_bytes f) []) ≤ length f
    go true = omega (arith, hex-length f)
    go false = omega arith

fields-short : (t : Form) (fs : List (List ℕ)) → length (line_bytes t fs) ≤ length (joined fs)
unfolding line_bytes joined
fields-short t [] = omega arith
fields-short t (f ∷ fs) =
    omega (arith, field-short t f, fields-short (next_form t) fs, length-append (field_bytes t f) (line_bytes (next_form t) fs), length-append f (joined fs))

behind-short : (ps : List (List ℕ)) → length (joined (line_fields ps)) ≤ length (joined ps)
unfolding line_fields joined
behind-short [] = omega arith
behind-short (p ∷ ps) = omega (arith, length-append p (joined ps))

pub line-short : (t : Form) (line : List ℕ) → length (line_bytes t (line_fields (pieces comma line))) ≤ length line
line-short t line =
    omega (arith, fields-short t (line_fields (pieces comma line)), behind-short (pieces comma line), pieces-short comma line)

-- an outcome is not 6
Never : ReaderOutcome → Type 0
Never o = check_number (reader_check o) ≡ 6 → ⊥

-- no row of a line gives 6 where the store has room for the line
line-never : (h : ReaderState) (l : List ℕ) (a : ProtocolError) → h.used + length l ≤ length h.store → FirstFailed (rows_of_line h l) a → error_number a ≡ 6 → ⊥
unfolding rows_of_line line_rows
line-never h l a room (inl f) q = absurd (omega (arith, ap error_number f.1))
line-never h l a room (inr (p, inl f)) q = absurd (omega (arith, ap error_number f.1))
line-never h l a room (inr (p, inr (r, inl f))) q = absurd (omega (arith, ap error_number f.1))
line-never h l a room (inr (p, inr (r, inr (s, inl f)))) q =
    let t = first_form (line_kind h.last (pieces comma l)) in
    absurd (omega (arith, line-short t l, leb-false (h.used + length (line_bytes t (line_fields (pieces comma l)))) (length h.store) f.0))
line-never h l a room (inr (p, inr (r, inr (s, inr f)))) q = absurd f.1

-- a line put down takes no more of the store than its own bytes
put-fits : (h : ReaderState) (l : List ℕ) → ((line_put h l).used ≤ h.used + length l) × (length (line_put h l).store ≡ length h.store)
unfolding line_put line_put_as
put-fits h l =
    let t = first_form (line_kind h.last (pieces comma l)) in
    (omega (arith, line-short t l), length-sets h.store h.used (line_bytes t (line_fields (pieces comma l))))

-- nor does the end of the scene give 6
end-never : (h : ReaderState) (l : List ℕ) → Never (scene_end_outcome h l)
unfolding scene_end_rows Never
end-never h l = go (decide (Ok tt) (scene_end_rows h l)) (each-refuses (λ a. error_number a ≡ 6 → ⊥) (scene_end_rows h l) (λ q. absurd (omega arith), (λ q. absurd (omega arith), tt)))
  where
    go : (c : Check) → Refuses (λ a. error_number a ≡ 6 → ⊥) c → Never (outcome_after c h)
    go (Ok _) f q = absurd (omega arith)
    go (Err a) f q = f q

-- the lines, with a store that has room for all of them
run-never : (l : List ℕ) (ls : List (List ℕ)) (h : ReaderState) → h.used + length (joined (l ∷ ls)) ≤ length h.store → Never (lines_outcome h (l ∷ ls))
unfolding joined Never
run-never l [] h room = rw (run-last h l _ refl) (end-never h l)
run-never l (m ∷ ls) h room =
    let n = length-append l (joined (m ∷ ls)) in
    let f = put-fits h l in
    go (decide (Ok tt) (rows_of_line h l)) refl (run-never m ls (line_put h l) (omega (arith, f.0, f.1)))
  where
    go : (c : Check) → decide (Ok tt) (rows_of_line h l) ≡ c → Never (lines_outcome (line_put h l) (m ∷ ls)) → Never (lines_outcome h (l ∷ m ∷ ls))
    go (Ok _) e next = rw (run-passed h l m ls e) next
    go (Err a) e next =
        let n = length-append l (joined (m ∷ ls)) in
        rw (run-failed h l m ls a e) (line-never h l a (omega arith) (failed-first (rows_of_line h l) a e))

-- nor do the reader's limits, with a table of 2,048 entries
limits-never : (scene : List ℕ) (m : ℕ) (a : ProtocolError) → table_min_entries ≤ m → FirstFailed (scene_limit_rows scene m) a → error_number a ≡ 6 → ⊥
unfolding scene_limit_rows
limits-never scene m a hm (inl f) q = absurd (omega (arith, ap error_number f.1))
limits-never scene m a hm (inr (p, inl f)) q = absurd (omega (arith, leb-false table_min_entries m f.0))
limits-never scene m a hm (inr (p, inr f)) q = absurd f.1

-- 01: "The program's buffers are long enough that it never gives 5 or 6": 6, for the reader
pub reader-never-six : (scene : List ℕ) (n m : ℕ) → length scene ≤ n → table_min_entries ≤ m → check_number (reader_check (read_of scene n m)) ≡ 6 → ⊥
unfolding reader_start Never
reader-never-six scene n m hn hm = go (decide (Ok tt) (scene_limit_rows scene m)) refl
  where
    go : (c : Check) → decide (Ok tt) (scene_limit_rows scene m) ≡ c → Never (read_of scene n m)
    go (Ok _) e =
        let z = pieces-some line_end scene in
        let short : length (joined (z.0 ∷ z.1)) ≤ length scene = rw z.2 at (pieces-short line_end scene) in
        rw (limits-passed scene n m e, z.2) (run-never z.0 z.1 (reader_start n m) (omega (arith, length-replicate {0} {A = ℕ} n 0)))
    go (Err a) e = rw (limits-failed scene n m a e) (limits-never scene m a hm (failed-first (scene_limit_rows scene m) a e))
