-- The library's split of a text at a byte, piece by piece. Assumes nothing.
use Rattle.std.specs.Prelude.{Option, None, Some}
use Prim.Native.Nat.{ℕ, ◌+◌, ◌<◌}
use mathlib.Core.Path.{◌≡◌, refl, sym}
use mathlib.Core.List.{List, [], ◌∷◌}
use native.Mathlib.Numerals.{add-one}
use native.Mathlib.Nat.{le_of_eq}
use denote.Ref.{Bor}
use lib.Dec.{eqb}
use lib.ListN.{length, drop, get_or, drop_of_length-le}
use lib.Seq.{drop-cons}
use Rattle.std.specs.Iterator.{Yields}
use Rattle.std.specs.List.{slice_split, onto_first}
use Rattle.std.proofs.lemmas.Iterator.{YieldsList}
use Rattle.std.proofs.lemmas.Iterator.Consumers.{YieldsList-turn, YieldsList-end}
use Rattle.text.specs.Text.{pieces, before}

onto-before : (x : ℕ) (ps : List (List ℕ)) → onto_first x ps ≡ before (x ∷ []) ps
unfolding before
onto-before x [] = refl
onto-before x (p ∷ ps) = refl

-- the parts are the pieces
pub split_pieces : (c : ℕ) (s : List ℕ) → slice_split (λ y. eqb y c) s ≡ pieces c s
unfolding pieces
split_pieces c [] = refl
split_pieces c (x ∷ s) = rw (split_pieces c s, onto-before x (pieces c s))

-- A loop over them has passed the pieces xs.
module _ {S : Type 0} {steps : S → Option (Bor (List ℕ)) → S → Type 0} {it : S} (xs : List (Bor (List ℕ))) (t u : S) (r : Option (Bor (List ℕ)))
    (passed : Yields steps it xs t) (step : steps t r u) (c : ℕ) (s : List ℕ) (all : YieldsList steps (λ x. x.now) it (slice_split (λ y. eqb y c) s)) where
  -- the next one, and those behind it
  pub piece_turn : (x : Bor (List ℕ)) → r ≡ Some x → drop (length xs) (pieces c s) ≡ x.now ∷ drop (length xs + 1) (pieces c s)
  piece_turn x e =
      let k = YieldsList-turn all xs t passed r u x e step in
      let m : length xs < length (pieces c s) = rw (← split_pieces c s) k.0 in
      let is : x.now ≡ get_or (pieces c s) (length xs) x.now = rw (← split_pieces c s) k.1 in
      rw (add-one, drop-cons (pieces c s) (length xs) x.now m, ← is)

  -- or none is left
  pub pieces_end : r ≡ None → drop (length xs) (pieces c s) ≡ []
  pieces_end e =
      let k = YieldsList-end all xs t passed r u e step in
      let m : length xs ≡ length (pieces c s) = rw (← split_pieces c s) k.1 in
      drop_of_length-le (pieces c s) (le_of_eq (sym m))
