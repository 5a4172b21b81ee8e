-- The order of kinds line by line, and how many lines of each kind may still come.
-- Assumes nothing.
use Rattle.std.specs.Prelude.{Option}
use Prim.Native.Nat.{ℕ, suc, ◌+◌, ◌-◌, ◌≤◌, ◌<◌}
use mathlib.Core.Bool.{Bool, true, false, cond, not, ◌&&◌}
use mathlib.Core.Path.{◌≡◌, refl}
use mathlib.Core.List.{List, [], ◌∷◌}
use native.Mathlib.Omega.{arith}
use lib.Dec.{ltb, leb, eqb}
use borrow.Author.Tests.{leb-true, eqb-true, eqb-false, le-leb, le-ltb, eq-eqb, ne_eqb, not-true}
use Rattle.scene_line.specs.declared.kind.Kind.{Kind}
use Rattle.scene_line.specs.Kind.{rank, follows}
use Rattle.scene_reader.specs.Reader.{seen_with}
use Rattle.octets.proofs.Truth.{and_both}

-- the kinds of the lines that are left, after `seen` lines of the kind of rank `last`
unfoldable pub Order : ℕ → ℕ → List (Option Kind) → Type 0
Order last seen [] = last ≡ 7
Order last seen (k ∷ ks) =
    (follows last (rank k) ≡ true) × ((seen_with last seen (rank k) ≤ 64) × Order (rank k) (seen_with last seen (rank k)) ks)

-- how many more lines of the kind of rank p may come
unfoldable pub left : ℕ → ℕ → ℕ → ℕ
left last seen p = cond (ltb p last) 0 (cond (eqb p last) (64 - seen) 64)

module _ (last seen p : ℕ) where
  pub left_here : p ≡ last → left last seen p ≡ 64 - seen
  unfolding left
  left_here e = rw (le-ltb p last (omega arith), eq-eqb p last e)

  pub left-next : last < p → left last seen p ≡ 64
  unfolding left
  left-next h = rw (le-ltb p last (omega arith), ne_eqb p last (λ e. omega arith))

-- behind the first two lines, what may follow
pub follows-body : (last k : ℕ) → 2 ≤ last → follows last k ≡ true → (3 ≤ k) × ((last ≤ k) × (last ≡ 7 → ⊥))
unfolding follows
follows-body last k h e =
    let f : (leb 3 k && (leb last k && not (eqb last 7))) ≡ true = rw (le-ltb last 2 h) at e in
    let p = and_both (leb 3 k) _ f in
    let q = and_both (leb last k) _ p.1 in
    (leb-true 3 k p.0, (leb-true last k q.0, eqb-false last 7 (not-true (eqb last 7) q.1)))

pub body-follows : (last k : ℕ) → 2 ≤ last → 3 ≤ k → last ≤ k → last < 7 → follows last k ≡ true
unfolding follows
body-follows last k h a b c = rw (le-ltb last 2 h, le-leb 3 k a, le-leb last k b, ne_eqb last 7 (λ e. omega arith))

-- a line of rank q among them
left-line : (last seen q : ℕ) → last ≤ q → left last seen q ≡ 65 - seen_with last seen q
left-line last seen q h = by (eqb q last) refl
  where
    by : (t : Bool) → eqb q last ≡ t → left last seen q ≡ 65 - seen_with last seen q
    by true e =
        let s : seen_with last seen q ≡ seen + 1 = rw e in
        let l : left last seen q ≡ 64 - seen = left_here last seen q (eqb-true q last e) in
        omega arith
    by false e =
        let d : q ≡ last → ⊥ = eqb-false q last e in
        let s : seen_with last seen q ≡ 1 = rw e in
        let l : left last seen q ≡ 64 = left-next last seen q (omega arith) in
        omega arith

-- a line, and n more of its kind: before it, and behind it
module _ (last seen q n : ℕ) (h : last ≤ q) where
  pub left-before : seen_with last seen q ≤ 64 → n ≤ left q (seen_with last seen q) q → suc n ≤ left last seen q
  left-before m l = omega (arith, left-line last seen q h, left_here q (seen_with last seen q) q refl)

  pub left_behind : suc n ≤ left last seen q → (seen_with last seen q ≤ 64) × (n ≤ left q (seen_with last seen q) q)
  left_behind l =
      (omega (arith, left-line last seen q h), omega (arith, left-line last seen q h, left_here q (seen_with last seen q) q refl))
