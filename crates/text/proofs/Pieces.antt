-- Pieces of a text: where the first one ends, and how many there are. Assumes nothing.
use Prim.Native.Nat.{ℕ, suc, ◌+◌, ◌≤◌, ◌<◌}
use mathlib.Core.Bool.{Bool, true, false, cond, not}
use mathlib.Core.Path.{◌≡◌, refl, sym, ap, ◌∙◌}
use mathlib.Core.List.{List, [], ◌∷◌, ◌++◌, append_assoc}
use mathlib.Core.Logic.{⊎_elim}
use native.Mathlib.Numerals.{add-one}
use native.Mathlib.Nat.{eq-or-lt_of_le}
use native.Mathlib.Omega.{arith}
use borrow.Author.Tests.{ltb-false}
use lib.ListN.{length, take, drop, get_or, drop_of_length-le}
use lib.Seq.{drop-cons, length-take-le}
use lib.Dec.{eqb, ltb}
use Rattle.std.specs.Prelude.{Option, None, Some, position, unwrap_or}
use Rattle.std.specs.List.{count_by, position_or_len}
use Rattle.std.proofs.lemmas.List.Sums.{sum_by-cons}
use Rattle.octets.specs.Lists.{joined}
use Rattle.text.specs.Text.{pieces, before, Cut}

pub before-before : (t u : List ℕ) (ps : List (List ℕ)) → before t (before u ps) ≡ before (t ++ u) ps
unfolding before
before-before t u [] = refl
before-before t u (p ∷ ps) = ap (λ (q : List ℕ). q ∷ ps) (sym (append_assoc t u p))

before-some : (b : Bool) (x : ℕ) (ps : List (List ℕ)) → before [] (cond b ([] ∷ ps) (before (x ∷ []) ps)) ≡ cond b ([] ∷ ps) (before (x ∷ []) ps)
unfolding before
before-some true x ps = refl
before-some false x [] = refl
before-some false x (p ∷ ps) = refl

pub before-none : (c : ℕ) (s : List ℕ) → pieces c s ≡ before [] (pieces c s)
unfolding pieces before
before-none c [] = refl
before-none c (x ∷ s) = sym (before-some (eqb x c) x (pieces c s))

-- the first place of c, or the length where there is none
pub cut_position : (c : ℕ) (s : List ℕ) → Cut c s (position_or_len (λ y. eqb y c) s)
unfolding pieces before
cut_position c [] = record { within = omega arith; cut = λ h. absurd (omega arith); whole = λ e. refl }
cut_position c (x ∷ s) = go (eqb x c) refl (position_or_len (λ y. eqb y c) s) (cut_position c s)
  where
    go : (b : Bool) → eqb x c ≡ b → (n : ℕ) → Cut c s n → Cut c (x ∷ s) (cond (not b) (1 + n) 0)
    go true e n k = record { within = omega arith; cut = λ h. rw e; whole = λ q. absurd (omega arith) }
    go false e n k =
        let one : 1 + n ≡ suc n = omega arith in
        rw one (record {
          within = omega (arith, k.within);
          cut = λ h. rw (e, k.cut (omega arith), add-one (suc n), add-one n);
          whole = λ q. rw (e, k.whole (omega arith));
        })

-- that place, by what the library's search gives
pub cut_found : (c : ℕ) (s : List ℕ) (o : Option ℕ) → o ≡ position (λ y. eqb y c) s → Cut c s (unwrap_or o (length s))
cut_found c s o e = rw e (go (ltb n (length s)) refl)
  where
    n : ℕ
    n = position_or_len (λ y. eqb y c) s

    go : (b : Bool) → ltb n (length s) ≡ b → Cut c s (unwrap_or (cond b (Some n) None) (length s))
    go true h = cut_position c s
    go false h =
        let k = cut_position c s in
        let last : n ≡ length s = omega (arith, k.within, ltb-false n (length s) h) in
        rw last at k

-- whichever way a text is cut, its first piece is what stands before the cut
pub cut-first : (c : ℕ) (s : List ℕ) (n : ℕ) → Cut c s n → (ps : List (List ℕ)) × (pieces c s ≡ take n s ∷ ps)
cut-first c s n k = ⊎_elim (λ e. ([], k.whole e)) (λ h. (pieces c (drop (n + 1) s), k.cut h)) (eq-or-lt_of_le k.within)

-- so there is one such index: the first piece's length
pub cut-place : (c : ℕ) (s : List ℕ) (n : ℕ) → Cut c s n → n ≡ length (get_or (pieces c s) 0 [])
cut-place c s n k = rw (cut-first c s n k).1 (sym (length-take-le n s k.within))

-- how many pieces there are

length_before : (t : List ℕ) (ps : List (List ℕ)) → ps ≡ before [] ps → length (before t ps) ≡ length ps
unfolding before
length_before t [] e = let z : ◌≡◌ {A = ℕ} 0 1 = ap length e in absurd (omega arith)
length_before t (p ∷ ps) e = refl

pub pieces_count : (c : ℕ) (s : List ℕ) → count_by (λ y. eqb y c) s + 1 ≡ length (pieces c s)
unfolding pieces
pieces_count c [] = refl
pieces_count c (x ∷ s) = rw (sum_by-cons (λ y. cond (eqb y c) 1 0) x s) (go (eqb x c) (pieces_count c s))
  where
    go : (b : Bool) → count_by (λ y. eqb y c) s + 1 ≡ length (pieces c s)
        → cond b 1 0 + count_by (λ y. eqb y c) s + 1 ≡ length (cond b ([] ∷ pieces c s) (before (x ∷ []) (pieces c s)))
    go true e = omega arith
    go false e = omega (arith, length_before (x ∷ []) (pieces c s) (before-none c s))

-- a turn of the loop that counts the separators, and what it comes to
pub count-turn : (c : ℕ) (s : List ℕ) (i : ℕ) → i < length s
    → count_by (λ y. eqb y c) (drop i s) ≡ cond (eqb (get_or s i 0) c) 1 0 + count_by (λ y. eqb y c) (drop (i + 1) s)
count-turn c s i h = rw (add-one, drop-cons s i 0 h) (sum_by-cons (λ y. cond (eqb y c) 1 0) (get_or s i 0) (drop (suc i) s))

pub count-none : (c : ℕ) (s : List ℕ) (i : ℕ) → length s ≤ i → count_by (λ y. eqb y c) (drop i s) ≡ 0
count-none c s i h = rw (drop_of_length-le s h)

pub count-start : (c : ℕ) (s : List ℕ) → 1 + count_by (λ y. eqb y c) s ≡ length (pieces c s)
count-start c s = omega (arith, pieces_count c s)

pub ruleset count_turns = (count-start, count-turn, count-none)

-- a text is cut in two in one way alone: behind its first piece, and only where it has another
pub split-place : (c : ℕ) (s a b : List ℕ) → pieces c s ≡ a ∷ pieces c b → b ≡ drop (length a + 1) s
    → (a ≡ get_or (pieces c s) 0 []) × (b ≡ drop (length (get_or (pieces c s) 0 []) + 1) s)
split-place c s a b e d = rw e (refl, d)

pub split-one : (c : ℕ) (s a b : List ℕ) → pieces c s ≡ s ∷ [] → pieces c s ≡ a ∷ pieces c b → ⊥
split-one c s a b w e = omega (arith, ap length (sym w ∙ e), pieces_count c b)

-- they have no more bytes than the text
joined-before : (x : ℕ) (ps : List (List ℕ)) → length (joined (before (x ∷ []) ps)) ≡ suc (length (joined ps))
unfolding joined before
joined-before x [] = refl
joined-before x (p ∷ ps) = refl

pub pieces_short : (c : ℕ) (s : List ℕ) → length (joined (pieces c s)) ≤ length s
unfolding pieces joined
pieces_short c [] = omega arith
pieces_short c (x ∷ s) = go (eqb x c) (pieces_short c s)
  where
    go : (b : Bool) → length (joined (pieces c s)) ≤ length s → length (joined (cond b ([] ∷ pieces c s) (before (x ∷ []) (pieces c s)))) ≤ suc (length s)
    go true h = omega arith
    go false h = omega (arith, joined-before x (pieces c s))

pub ruleset first_piece = (cut-first, cut-place)
