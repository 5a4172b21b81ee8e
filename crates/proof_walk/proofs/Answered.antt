-- The answer buffer: its front written, a part lent and come back.
-- Assumes nothing.
use mathlib.Core.Path.{◌≡◌, ap, ◌∙◌}
use mathlib.Core.List.{List, ◌++◌, append_assoc, append-nil}
use Prim.Native.Nat.{ℕ, ◌-◌, ◌≤◌}
use native.Mathlib.Omega.{arith}
use lib.ListN.{length, take, drop, length-append, length-drop}
use lib.Seq.{drop-length, drop-drop, take_at, drop_at, take_all}
use borrow.Rule.Slice.PartMut.{mid_of, put_mid, Post-is, put_same}
use Rattle.decision.specs.Walk.{answered}

pub answered-length : (d made : List ℕ) → length made ≤ length d → length (answered d made) ≡ length d
unfolding answered
answered-length d made h = simp (length-append, length-drop) (omega arith)

answered-more : (d made src : List ℕ) (at : ℕ) → length made ≡ at
    → take at (answered d made) ++ answered (drop at (answered d made)) src ≡ answered d (made ++ src)
unfolding answered
answered-more d made src at e =
    rw (take_at made (drop (length made) d) at e, drop_at made (drop (length made) d) at e, drop-drop, length-append, append_assoc)

-- the whole after the part from `a` on was lent, and came back with src at its front
pub part-put : (d made src : List ℕ) (a : ℕ) {out ys : List ℕ} → length made ≡ a → a ≤ length d → out ≡ answered d made
    → ys ≡ answered (mid_of a (length out - a) out) src → put_mid a (length out - a) out ys ≡ answered d (made ++ src)
part-put d made src a {out} {ys} e h o y =
    let n : length out ≡ length d = ap length o ∙ answered-length d made (omega arith) in
    let k : length (drop a out) ≤ length out - a = simp length-drop (omega arith) in
    rw (y, Post-is a (length out) out (omega arith), drop-length out, append-nil, take_all (length out - a) (drop a out) k, o)
    (answered-more d made src a e)

-- the rest of the answer buffer, as it is lent, and the whole after it came back
abbrev pub lent_of : ℕ → List ℕ → List ℕ
lent_of total answer = mid_of total (length answer - total) answer

abbrev pub back_in : ℕ → List ℕ → List ℕ → List ℕ
back_in total answer after = put_mid total (length answer - total) answer after

pub unwritten : (total : ℕ) (answer after : List ℕ) → after ≡ lent_of total answer → back_in total answer after ≡ answer
unwritten total answer after e = ap (back_in total answer) e ∙ put_same total (length answer - total) answer
