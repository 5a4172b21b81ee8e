-- The counts of the kinds, which the reader sets line by line at the table's first eight entries.
-- Assumes nothing.
use Rattle.std.specs.Prelude.{Option, Some}
use Prim.Native.Nat.{ℕ, zero, suc, ◌+◌, ◌-◌, ◌≤◌, ◌<◌}
use mathlib.Core.Path.{◌≡◌, refl, ap, ◌∙◌}
use mathlib.Core.List.{List, [], ◌∷◌, ◌++◌}
use native.Mathlib.Nat.{add-zero, le_refl}
use native.Mathlib.Omega.{arith}
use borrow.Author.Tests.{eq-eqb, ne_eqb}
use lib.ListN.{set, replicate}
use lib.Seq.{sets, set-set, set_comm}
use Rattle.scene_line.specs.declared.kind.Kind.{Kind}
use Rattle.scene_line.specs.declared.kind.Kind.TheVariants.{Input, Output, Dep, Witness, Verdicts}
use Rattle.scene_line.specs.Kind.{rank}
use Rattle.scene_reader.specs.Reader.{seen_with}
use Rattle.scene_reading.specs.Lines.{kinds_of}
use Rattle.scene_line.proofs.KindLaws.{rank-small}
use Rattle.scene_reading.proofs.KindsOrder.{body_kinds, body-right}

-- a table after the counts of lines of these kinds
unfoldable pub counts_after : List ℕ → ℕ → ℕ → List (Option Kind) → List ℕ
counts_after table last seen [] = table
counts_after table last seen (k ∷ ks) =
    counts_after (set table (rank k) (seen_with last seen (rank k))) (rank k) (seen_with last seen (rank k)) ks

-- a store before a run of stores
set-sets : (vs t : List ℕ) (i x at : ℕ) → i < at → set (sets t at vs) i x ≡ sets (set t i x) at vs
set-sets [] t i x at h = refl
set-sets (v ∷ vs) t i x at h = set-sets vs (set t at v) i x (suc at) (omega arith) ∙ rw (set_comm t at i v x (λ e. omega arith))

-- counts and a record behind them, in either order
pub counted-behind : (ks : List (Option Kind)) (t : List ℕ) (last seen at : ℕ) (vs : List ℕ) → 8 ≤ at → counts_after (sets t at vs) last seen ks ≡ sets (counts_after t last seen ks) at vs
unfolding counts_after
counted-behind [] t last seen at vs h = refl
counted-behind (k ∷ ks) t last seen at vs h =
    let p : rank k < 8 = rank-small k in
    let s = seen_with last seen (rank k) in
    rw (set-sets vs t (rank k) s at (omega arith)) (counted-behind ks (set t (rank k) s) (rank k) s at vs h)

-- a run of n lines of a kind, before others
module _ (k : Option Kind) (ks : List (Option Kind)) (result : List ℕ) where
  one_more : (n last seen s : ℕ) (t : List ℕ) → seen_with last seen (rank k) ≡ s
      → counts_after t last seen (replicate (suc n) k ++ ks) ≡ counts_after (set t (rank k) s) (rank k) s (replicate n k ++ ks)
  unfolding counts_after
  one_more n last seen s t e = ap (λ (x : ℕ). counts_after (set t (rank k) x) (rank k) x (replicate n k ++ ks)) e

  counted_same : (n seen : ℕ) (t : List ℕ) → set t (rank k) seen ≡ t → ((l s : ℕ) → l ≤ rank k → counts_after (set t (rank k) (seen + n)) l s ks ≡ result)
      → counts_after t (rank k) seen (replicate n k ++ ks) ≡ result
  unfolding counts_after
  counted_same zero seen t e next = rw (add-zero seen, e) at (next (rank k) seen (le_refl (rank k)))
  counted_same (suc n) seen t e next =
      let m : seen + 1 + n ≡ seen + suc n = omega arith in
      one_more n (rank k) seen (seen + 1) t (rw (eq-eqb (rank k) (rank k) refl))
      ∙ (counted_same n (seen + 1) (set t (rank k) (seen + 1)) (set-set t (rank k) (seen + 1) (seen + 1))
      (λ l s h. rw (set-set t (rank k) (seen + 1) (seen + 1 + n), m) (next l s h)))

  counted-run : (n last seen : ℕ) (t : List ℕ) → last < rank k → set t (rank k) 0 ≡ t → ((l s : ℕ) → l ≤ rank k → counts_after (set t (rank k) n) l s ks ≡ result)
      → counts_after t last seen (replicate n k ++ ks) ≡ result
  unfolding counts_after
  counted-run zero last seen t h e next = rw e at (next last seen (omega arith))
  counted-run (suc n) last seen t h e next =
      let m : 1 + n ≡ suc n = omega arith in
      one_more n last seen 1 t (rw (ne_eqb (rank k) last (λ q. omega arith)))
      ∙ (counted_same n 1 (set t (rank k) 1) (set-set t (rank k) 1 1) (λ l s h. rw (set-set t (rank k) 1 (1 + n), m) (next l s h)))

-- the counts of a whole text
module _ (a b c d : ℕ) (r : List ℕ) where
  done : List ℕ
  done = 0 ∷ 1 ∷ 1 ∷ a ∷ b ∷ c ∷ d ∷ 1 ∷ r

  verdicts-counted : (l s : ℕ) → l ≤ 6 → counts_after (0 ∷ 1 ∷ 1 ∷ a ∷ b ∷ c ∷ d ∷ 0 ∷ r) l s (Some Verdicts ∷ []) ≡ done
  unfolding counts_after done
  verdicts-counted l s h = rw (ne_eqb 7 l (λ e. omega arith))

  witnesses-counted : (l s : ℕ) → l ≤ 5 → counts_after (0 ∷ 1 ∷ 1 ∷ a ∷ b ∷ c ∷ 0 ∷ 0 ∷ r) l s (replicate d (Some Witness) ++ (Some Verdicts ∷ [])) ≡ done
  witnesses-counted l s h = counted-run (Some Witness) (Some Verdicts ∷ []) done d l s (0 ∷ 1 ∷ 1 ∷ a ∷ b ∷ c ∷ 0 ∷ 0 ∷ r) (omega arith) refl verdicts-counted

  deps-counted : (l s : ℕ) → l ≤ 4 → counts_after (0 ∷ 1 ∷ 1 ∷ a ∷ b ∷ 0 ∷ 0 ∷ 0 ∷ r) l s (replicate c (Some Dep) ++ (replicate d (Some Witness) ++ (Some Verdicts ∷ []))) ≡ done
  deps-counted l s h = counted-run (Some Dep) _ done c l s (0 ∷ 1 ∷ 1 ∷ a ∷ b ∷ 0 ∷ 0 ∷ 0 ∷ r) (omega arith) refl witnesses-counted

  outputs-counted : (l s : ℕ) → l ≤ 3
      → counts_after (0 ∷ 1 ∷ 1 ∷ a ∷ 0 ∷ 0 ∷ 0 ∷ 0 ∷ r) l s (replicate b (Some Output) ++ (replicate c (Some Dep) ++ (replicate d (Some Witness) ++ (Some Verdicts ∷ [])))) ≡ done
  outputs-counted l s h = counted-run (Some Output) _ done b l s (0 ∷ 1 ∷ 1 ∷ a ∷ 0 ∷ 0 ∷ 0 ∷ 0 ∷ r) (omega arith) refl deps-counted

  body-counted : counts_after (0 ∷ 1 ∷ 1 ∷ 0 ∷ 0 ∷ 0 ∷ 0 ∷ 0 ∷ r) 2 1 (body_kinds a b c d) ≡ done
  body-counted =
      rw (body-right a b c d) (counted-run (Some Input) _ done a 2 1 (0 ∷ 1 ∷ 1 ∷ 0 ∷ 0 ∷ 0 ∷ 0 ∷ 0 ∷ r) (omega arith) refl outputs-counted)

  kinds-counted : counts_after (0 ∷ 0 ∷ 0 ∷ 0 ∷ 0 ∷ 0 ∷ 0 ∷ 0 ∷ r) 0 0 (kinds_of a b c d) ≡ done
  unfolding counts_after kinds_of body_kinds
  kinds-counted = body-counted

-- on a table of m zeros
eight-zeros : (m : ℕ) → 8 ≤ m → replicate {A = ℕ} m 0 ≡ 0 ∷ 0 ∷ 0 ∷ 0 ∷ 0 ∷ 0 ∷ 0 ∷ 0 ∷ replicate (m - 8) 0
eight-zeros m h =
    let e : m ≡ suc (suc (suc (suc (suc (suc (suc (suc (m - 8)))))))) = omega arith in
    ap (λ (n : ℕ). replicate {A = ℕ} n 0) e

pub counts-set : (m a b c d : ℕ) → 8 ≤ m
    → counts_after (replicate m 0) 0 0 (kinds_of a b c d) ≡ sets (replicate m 0) 0 (0 ∷ 1 ∷ 1 ∷ a ∷ b ∷ c ∷ d ∷ 1 ∷ [])
unfolding done
counts-set m a b c d h = rw (eight-zeros m h) (kinds-counted a b c d (replicate (m - 8) 0))
