-- Runs of stores into a list: one behind another, past the end, and from the front.
-- Assumes nothing.
use mathlib.Core.Path.{◌≡◌, refl, sym, ◌∙◌}
use mathlib.Core.List.{List, [], ◌∷◌, ◌++◌, append-nil, append_assoc}
use Prim.Native.Nat.{ℕ, zero, suc, ◌+◌, ◌≤◌, ◌<◌}
use native.Mathlib.Nat.{zero-add, add-zero}
use native.Mathlib.Numerals.{add-one}
use native.Mathlib.Omega.{arith}
use lib.ListN.{length, take, drop, get_or, set, length-set, drop_of_length-le}
use lib.Seq.{sets, sets-eq, set_out, take_all, drop-cons, drop-drop, length-take-le}
use borrow.Rule.Slice.PartMut.{mid_of, put_mid}
use Rattle.octets.proofs.Parts.{part_length}

-- a store, and the rest of a run from the next place: the run from this place
pub sets-cons : (out : List ℕ) (at : ℕ) (b : ℕ) (bs : List ℕ) (next : ℕ) (run : List ℕ) → next ≡ suc at → run ≡ b ∷ bs → sets (set out at b) next bs ≡ sets out at run
sets-cons out at b bs next run e f = rw (e, f)

-- one run behind another
pub sets-append : (l : List ℕ) (at : ℕ) (a b : List ℕ) (next : ℕ) → next ≡ at + length a → sets (sets l at a) next b ≡ sets l at (a ++ b)
sets-append l at [] b next e = rw (e, add-zero)
sets-append l at (x ∷ a) b next e = sets-append (set l at x) (suc at) a b next (omega arith)

-- past the end nothing is stored
pub sets-out : (vs l : List ℕ) (at : ℕ) → length l ≤ at → sets l at vs ≡ l
sets-out [] l at h = refl
sets-out (v ∷ vs) l at h = rw (set_out l at v h) (sets-out vs l (suc at) (omega arith))

-- what is left of a run past the end may be cut off
pub sets-clip : (vs l : List ℕ) (at k : ℕ) → length l ≤ at + k → sets l at (take k vs) ≡ sets l at vs
sets-clip vs l at zero h = sym (sets-out vs l at (omega arith))
sets-clip [] l at (suc k) h = refl
sets-clip (v ∷ vs) l at (suc k) h =
    let n : length (set l at v) ≡ length l = length-set l at v in
    sets-clip vs (set l at v) (suc at) k (omega arith)

-- a run stored from the front
pub sets-front : (l bs : List ℕ) → length bs ≤ length l → sets l 0 bs ≡ bs ++ drop (length bs) l
sets-front l bs h = rw zero-add at (sets-eq bs l 0 (rw zero-add h))

-- a run that is at least as long as the list, stored from the front
pub sets_over : (l bs : List ℕ) → length l ≤ length bs → sets l 0 bs ≡ take (length l) bs
sets_over l bs h =
    let n : length (take (length l) bs) ≡ length l = length-take-le (length l) bs h in
    let m : length l ≤ length (take (length l) bs) = omega arith in
    sym (sets-clip bs l 0 (length l) (omega arith))
    ∙ (sets-front l (take (length l) bs) (omega arith) ∙ rw (drop_of_length-le l m, append-nil))

-- a turn of the loop that stores a run: its next place, and then the rest; and nothing behind the last
pub run-turn : (out run : List ℕ) (at i : ℕ) → i < length run
    → sets out (at + i) (drop i run) ≡ sets (set out (at + i) (get_or run i 0)) (at + (i + 1)) (drop (i + 1) run)
run-turn out run at i h =
    let e : drop i run ≡ get_or run i 0 ∷ drop (i + 1) run = rw add-one (drop-cons run i 0 h) in
    sym (sets-cons out (at + i) (get_or run i 0) (drop (i + 1) run) (at + (i + 1)) (drop i run) (omega arith) e)

pub run-none : (out run : List ℕ) (at i : ℕ) → length run ≤ i → sets out at (drop i run) ≡ out
run-none out run at i h = rw (drop_of_length-le run h)

-- a part of a list was lent, and came back as a run that fills it
pub lent_run : (l bs : List ℕ) (at n : ℕ) → length bs ≡ n → at + n ≤ length l → put_mid at n l bs ≡ sets l at bs
lent_run l bs at n e h = rw (sets-eq bs l at (omega arith), e, drop-drop n at l, append_assoc)

-- a part of a list was lent, and a run that fills it was stored there
pub sets-lent : (l bs ys : List ℕ) (at n : ℕ) → length bs ≡ n → at + n ≤ length l → ys ≡ sets (mid_of at n l) 0 bs → put_mid at n l ys ≡ sets l at bs
sets-lent l bs ys at n e h k =
    let m : length (take n (drop at l)) ≡ n = part_length l at n h in
    let stored : sets (take n (drop at l)) 0 bs ≡ bs = sets_over (take n (drop at l)) bs (omega arith) ∙ take_all (length (take n (drop at l))) bs (omega arith) in
    rw (k, stored, sets-eq bs l at (omega arith), e, drop-drop n at l, append_assoc)

-- what a store past the end, or past it in part, leaves
pub ruleset store_laws = (sets-out, sets-clip)

pub ruleset run_turns = (run-turn, run-none)
