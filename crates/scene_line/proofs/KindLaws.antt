-- The kinds' ranks and fields, and what a line's kind says. Assumes nothing.
use Rattle.std.specs.Prelude.{Option, None, Some}
use Prim.Native.Nat.{ℕ, ◌<◌}
use mathlib.Core.Bool.{Bool, true, false, cond, ◌&&◌}
use mathlib.Core.Path.{◌≡◌, refl}
use mathlib.Core.List.{List, ◌∷◌}
use native.Mathlib.Omega.{arith}
use borrow.Author.Tests.{eqb-true}
use lib.ListN.{length}
use lib.Dec.{eqb}
use Rattle.octets.proofs.Truth.{and_left, and_right}
use Rattle.scene_line.specs.declared.kind.Kind.{Kind}
use Rattle.scene_line.specs.declared.kind.Kind.TheVariants.{Script, Tx, Input, Output, Dep, Witness, Verdicts}
use Rattle.scene_line.specs.Kind.{rank, field_count, kind_of, follows, line_kind}

pub rank-small : (k : Option Kind) → rank k < 8
rank-small (Some Script) = omega arith
rank-small (Some Tx) = omega arith
rank-small (Some Input) = omega arith
rank-small (Some Output) = omega arith
rank-small (Some Dep) = omega arith
rank-small (Some Witness) = omega arith
rank-small (Some Verdicts) = omega arith
rank-small None = omega arith

-- a line's kind is one whose row 2 holds
pub shape : (last : ℕ) (w : List ℕ) (fs : List (List ℕ)) → (rank (line_kind last (w ∷ fs)) ≡ 0 → ⊥)
    → (length fs ≡ field_count (line_kind last (w ∷ fs))) × (follows last (rank (line_kind last (w ∷ fs))) ≡ true)
unfolding line_kind
shape last w fs h = go (kind_of w) (follows last (rank (kind_of w)) && eqb (length fs) (field_count (kind_of w))) refl h
  where
    go : (k : Option Kind) (b : Bool) → (follows last (rank k) && eqb (length fs) (field_count k)) ≡ b → (rank (cond b k None) ≡ 0 → ⊥)
        → (length fs ≡ field_count (cond b k None)) × (follows last (rank (cond b k None)) ≡ true)
    go k true t h = (eqb-true (length fs) (field_count k) (and_right (follows last (rank k)) (eqb (length fs) (field_count k)) t), and_left (follows last (rank k)) (eqb (length fs) (field_count k)) t)
    go k false t h = absurd (h refl)

-- a kind has a rank
pub rank_some : (k : Kind) → rank (Some k) ≡ 0 → ⊥
rank_some Script e = omega arith
rank_some Tx e = omega arith
rank_some Input e = omega arith
rank_some Output e = omega arith
rank_some Dep e = omega arith
rank_some Witness e = omega arith
rank_some Verdicts e = omega arith

-- so a line that has a kind has its fields, in its order
pub some_shape : (last : ℕ) (w : List ℕ) (fs : List (List ℕ)) (k : Kind) → line_kind last (w ∷ fs) ≡ Some k
    → (length fs ≡ field_count (Some k)) × (follows last (rank (Some k)) ≡ true)
some_shape last w fs k e = rw e at (shape last w fs (rw e (rank_some k)))
