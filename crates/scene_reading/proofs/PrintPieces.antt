-- Texts joined by a separator that none of them holds are cut into themselves.
-- Assumes nothing.
use Prim.Native.Nat.{ℕ}
use mathlib.Core.Path.{◌≡◌, refl, ap, ◌∙◌}
use mathlib.Core.Bool.{Bool, true, not}
use mathlib.Core.List.{List, [], ◌∷◌, ◌++◌, append-nil}
use borrow.Author.Tests.{not-true, eq-eqb}
use lib.Dec.{eqb}
use Rattle.octets.specs.Lists.{every}
use Rattle.text.specs.Text.{before, pieces, comma, line_end}
use Rattle.text.proofs.Pieces.{before-before, before-none}
use Rattle.octets.proofs.Truth.{and_left, and_right}
use Rattle.text.specs.Print.{parted_by, line_text, ended_lines}

-- c stands nowhere in s
unfoldable pub without : ℕ → List ℕ → Bool
without c s = every (λ (x : ℕ). not (eqb x c)) s

module _ (c : ℕ) where
  -- a text without c stands before the first piece of what follows
  pieces-before : (s r : List ℕ) → without c s ≡ true → pieces c (s ++ r) ≡ before s (pieces c r)
  unfolding without every pieces
  pieces-before [] r h = before-none c r
  pieces-before (x ∷ s) r h =
      rw (not-true (eqb x c) (and_left (not (eqb x c)) (without c s) h), pieces-before s r (and_right (not (eqb x c)) (without c s) h))
      (before-before (x ∷ []) s (pieces c r))

  -- it is the one piece where nothing follows
  pub piece-last : (s : List ℕ) → without c s ≡ true → pieces c s ≡ s ∷ []
  unfolding pieces before
  piece-last s h =
      let e : pieces c (s ++ []) ≡ (s ++ []) ∷ [] = pieces-before s [] h in
      rw append-nil at e

  -- and a piece where c follows
  pub piece_cut : (s r : List ℕ) → without c s ≡ true → pieces c (s ++ (c ∷ r)) ≡ s ∷ pieces c r
  unfolding pieces before
  piece_cut s r h =
      pieces-before s (c ∷ r) h ∙ rw (eq-eqb c c refl, append-nil s)

-- a line's word and its fields
pub line-pieces : (word : List ℕ) (fs : List (List ℕ)) → without comma word ≡ true → every (without comma) fs ≡ true → pieces comma (line_text word fs) ≡ word ∷ fs
unfolding line_text parted_by every
line-pieces word [] w h = rw append-nil (piece-last comma word w)
line-pieces word (f ∷ fs) w h =
    piece_cut comma word (line_text f fs) w
    ∙ ap (λ (ps : List (List ℕ)). word ∷ ps) (line-pieces f fs (and_left (without comma f) (every (without comma) fs) h) (and_right (without comma f) (every (without comma) fs) h))

-- the lines of a text, and nothing behind the last ending
pub lines-pieces : (ls : List (List ℕ)) → every (without line_end) ls ≡ true → pieces line_end (ended_lines ls) ≡ ls ++ ([] ∷ [])
unfolding ended_lines every pieces
lines-pieces [] h = refl
lines-pieces (l ∷ ls) h =
    piece_cut line_end l (ended_lines ls) (and_left (without line_end l) (every (without line_end) ls) h)
    ∙ ap (λ (ps : List (List ℕ)). l ∷ ps) (lines-pieces ls (and_right (without line_end l) (every (without line_end) ls) h))
