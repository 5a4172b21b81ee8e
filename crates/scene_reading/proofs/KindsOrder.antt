-- The kinds of lines that may follow each other, up to 64 of each, are script, tx, inputs, outputs, deps, witnesses, verdicts.
-- Assumes nothing.
use Rattle.std.specs.Prelude.{Option, Some, None}
use Prim.Native.Nat.{ℕ, zero, suc, ◌+◌, ◌≤◌, ◌<◌, zero-le}
use mathlib.Core.Bool.{Bool, true, false, cond}
use mathlib.Core.Path.{◌≡◌, refl, sym, ap, ◌∙◌}
use mathlib.Core.List.{List, [], ◌∷◌, ◌++◌}
use native.Mathlib.Nat.{le_refl}
use native.Mathlib.Omega.{arith}
use lib.Dec.{eqb}
use borrow.Author.Tests.{lt-ltb, ne_eqb, eqb-true, eqb-false}
use Rattle.scene_line.specs.declared.kind.Kind.{Kind}
use Rattle.scene_line.specs.declared.kind.Kind.TheVariants.{Script, Tx, Input, Output, Dep, Witness, Verdicts}
use Rattle.scene_line.specs.Kind.{rank, follows}
use Rattle.scene_line.proofs.KindLaws.{rank-small}
use Rattle.scene_reader.specs.Reader.{seen_with}
use Rattle.scene_table.proofs.Lines.{right-nested}
use lib.ListN.{replicate}
use Rattle.scene_reading.specs.Lines.{kinds_of}
use Rattle.scene_reading.proofs.Order.{Order, left, left-next, follows-body, body-follows, left-before, left_behind}

-- the kinds behind tx
unfoldable pub body_kinds : ℕ → ℕ → ℕ → ℕ → List (Option Kind)
body_kinds a b c d = replicate a (Some Input) ++ replicate b (Some Output) ++ replicate c (Some Dep) ++ replicate d (Some Witness) ++ (Some Verdicts ∷ [])

pub body-right : (a b c d : ℕ) → body_kinds a b c d ≡ replicate a (Some Input) ++ (replicate b (Some Output) ++ (replicate c (Some Dep) ++ (replicate d (Some Witness) ++ (Some Verdicts ∷ []))))
unfolding body_kinds
body-right a b c d = right-nested (replicate a (Some Input)) (replicate b (Some Output)) (replicate c (Some Dep)) (replicate d (Some Witness)) (Some Verdicts ∷ [])

-- ---- a rank tells the kind

kind_at : ℕ → Option Kind
kind_at p =
    cond (eqb p 1) (Some Script)
    (cond (eqb p 2) (Some Tx)
    (cond (eqb p 3) (Some Input) (cond (eqb p 4) (Some Output) (cond (eqb p 5) (Some Dep) (cond (eqb p 6) (Some Witness) (cond (eqb p 7) (Some Verdicts) None))))))

kind-at : (k : Option Kind) → kind_at (rank k) ≡ k
unfolding kind_at
kind-at (Some Script) = refl
kind-at (Some Tx) = refl
kind-at (Some Input) = refl
kind-at (Some Output) = refl
kind-at (Some Dep) = refl
kind-at (Some Witness) = refl
kind-at (Some Verdicts) = refl
kind-at None = refl

same_place : (j k : Option Kind) → rank j ≡ rank k → j ≡ k
same_place j k e = sym (kind-at j) ∙ (ap kind_at e ∙ kind-at k)

-- ---- kinds in order: a run of each

-- the first of the kinds has the rank p or a later one
From : ℕ → List (Option Kind) → Type 0
From p [] = Unit {0}
From p (k ∷ ks) = p ≤ rank k

order_from : (p last seen : ℕ) (ks : List (Option Kind)) → 2 ≤ last → ((q : ℕ) → 3 ≤ q → last ≤ q → p ≤ q) → Order last seen ks → From p ks
unfolding Order From
order_from p last seen [] h f r = tt
order_from p last seen (k ∷ ks) h f r = let b = follows-body last (rank k) h r.0 in f (rank k) b.0 b.1.0

-- the lines of kind k at the front, as many as may come, and what is behind them
record Peeled (k : Option Kind) (last seen : ℕ) (ks : List (Option Kind)) : Type 0 where
  count : ℕ
  rest : List (Option Kind)
  these : ks ≡ replicate count k ++ rest
  few : count ≤ left last seen (rank k)
  last-behind : ℕ
  seen-behind : ℕ
  low : 2 ≤ last-behind
  high : last-behind ≤ rank k
  order : Order last-behind seen-behind rest
  from : From (suc (rank k)) rest

module _ (k : Option Kind) (last seen : ℕ) (h : 2 ≤ last) (a : last ≤ rank k) (b : rank k < 7) where
  -- none of them
  peel-none : (j : Option Kind) (ks : List (Option Kind)) → (rank j ≡ rank k → ⊥) → rank k ≤ rank j → Order last seen (j ∷ ks) → Peeled k last seen (j ∷ ks)
  unfolding From
  peel-none j ks n f r =
      record {
        count = 0;
        rest = j ∷ ks;
        these = refl;
        few = zero-le;
        last-behind = last;
        seen-behind = seen;
        low = h;
        high = a;
        order = r;
        from = omega arith;
      }

  -- one more
  peel-one : (ks : List (Option Kind)) → seen_with last seen (rank k) ≤ 64 → Peeled k (rank k) (seen_with last seen (rank k)) ks → Peeled k last seen (k ∷ ks)
  peel-one ks m p =
      record {
        count = suc p.count;
        rest = p.rest;
        these = ap (λ (t : List (Option Kind)). k ∷ t) p.these;
        few = left-before last seen (rank k) p.count a m p.few;
        last-behind = p.last-behind;
        seen-behind = p.seen-behind;
        low = p.low;
        high = p.high;
        order = p.order;
        from = p.from;
      }

peel : (k : Option Kind) (ks : List (Option Kind)) (last seen : ℕ) → 2 ≤ last → last ≤ rank k → rank k < 7 → From (rank k) ks → Order last seen ks → Peeled k last seen ks
unfolding Order From
peel k [] last seen h a b f r = absurd (omega arith)
peel k (j ∷ ks) last seen h a b f r = by (eqb (rank j) (rank k)) refl (λ c d e g. peel k ks (rank k) (seen_with last seen (rank k)) c d b e g)
  where
    by : (t : Bool) → eqb (rank j) (rank k) ≡ t
        → (2 ≤ rank k → rank k ≤ rank k → From (rank k) ks → Order (rank k) (seen_with last seen (rank k)) ks → Peeled k (rank k) (seen_with last seen (rank k)) ks)
        → Peeled k last seen (j ∷ ks)
    by true e rec =
        let q : rank j ≡ rank k = eqb-true (rank j) (rank k) e in
        let o : Order (rank k) (seen_with last seen (rank k)) ks = rw q at r.1.1 in
        let c : 2 ≤ rank k = omega arith in
        rw (same_place j k q)
        (peel-one k last seen h a b ks (rw q at r.1.0)
        (rec c (le_refl (rank k)) (order_from (rank k) (rank k) (seen_with last seen (rank k)) ks c (λ q x y. y) o) o))
    by false e rec = peel-none k last seen h a b j ks (eqb-false (rank j) (rank k) e) f r

-- nothing follows verdicts, and verdicts are last
nothing-behind : (s : ℕ) (ks : List (Option Kind)) → Order 7 s ks → ks ≡ []
unfolding Order
nothing-behind s [] r = refl
nothing-behind s (k ∷ ks) r = absurd ((follows-body 7 (rank k) (omega arith) r.0).1.1 refl)

verdicts-alone : (ks : List (Option Kind)) (last seen : ℕ) → last ≤ 6 → From 7 ks → Order last seen ks → ks ≡ Some Verdicts ∷ []
unfolding Order From
verdicts-alone [] last seen h f r = absurd (omega arith)
verdicts-alone (k ∷ ks) last seen h f r =
    let m : rank k < 8 = rank-small k in
    let q : rank k ≡ 7 = omega arith in
    let e : k ≡ Some Verdicts = same_place k (Some Verdicts) q in
    let o : ks ≡ [] = nothing-behind (seen_with last seen 7) ks (rw q at r.1.1) in
    cc

-- the kinds of a whole text, at most 64 of a kind that may come again
pub record Kinds (ks : List (Option Kind)) : Type 0 where
  pub inputs : ℕ
  pub outputs : ℕ
  pub deps : ℕ
  pub witnesses : ℕ
  pub these : ks ≡ kinds_of inputs outputs deps witnesses
  pub few-inputs : inputs ≤ 64
  pub few-outputs : outputs ≤ 64
  pub few-deps : deps ≤ 64
  pub few-witnesses : witnesses ≤ 64

-- a line of the rank behind `last`, one of the first two
next-line : (k : Option Kind) (ks : List (Option Kind)) (last seen : ℕ) → last < 2 → Order last seen (k ∷ ks) → (rank k ≡ last + 1) × Order (last + 1) 1 ks
unfolding Order follows
next-line k ks last seen h r =
    let p : rank k ≡ last + 1 = eqb-true (rank k) (last + 1) (rw (lt-ltb last 2 h) at r.0) in
    let s : seen_with last seen (last + 1) ≡ 1 = rw (ne_eqb (last + 1) last (λ e. omega arith)) in
    (p, rw (p, s) at r.1.1)

-- the run behind a run
peel-next : (j k : Option Kind) → rank k ≡ suc (rank j) → rank k < 7 → (last seen : ℕ) (ks : List (Option Kind)) (p : Peeled j last seen ks)
    → Peeled k p.last-behind p.seen-behind p.rest
peel-next j k e h last seen ks p =
    peel k p.rest p.last-behind p.seen-behind p.low (omega (arith, p.high)) h (rw e p.from) p.order

few-of : (n last seen p : ℕ) → last < p → n ≤ left last seen p → n ≤ 64
few-of n last seen p h f = rw (left-next last seen p h) at f

-- the four runs behind script and tx, and then verdicts
module _ (k j : Option Kind) (ks : List (Option Kind)) (e : k ≡ Some Script) (f : j ≡ Some Tx) (i : Peeled (Some Input) 2 1 ks) where
  module _ (o : Peeled (Some Output) i.last-behind i.seen-behind i.rest) where
    module _ (d : Peeled (Some Dep) o.last-behind o.seen-behind o.rest) where
      module _ (w : Peeled (Some Witness) d.last-behind d.seen-behind d.rest) where
        runs : k ∷ j ∷ ks ≡ Some Script ∷ Some Tx ∷ body_kinds i.count o.count d.count w.count
        runs =
            let v = verdicts-alone w.rest w.last-behind w.seen-behind w.high w.from w.order in
            rw (body-right i.count o.count d.count w.count, e, f, i.these, o.these, d.these, w.these, v)

        from-witnesses : Kinds (k ∷ j ∷ ks)
        unfolding kinds_of body_kinds
        from-witnesses =
            record {
              inputs = i.count;
              outputs = o.count;
              deps = d.count;
              witnesses = w.count;
              these = runs;
              few-inputs = few-of i.count 2 1 3 (omega arith) i.few;
              few-outputs = few-of o.count i.last-behind i.seen-behind 4 (omega (arith, i.high)) o.few;
              few-deps = few-of d.count o.last-behind o.seen-behind 5 (omega (arith, o.high)) d.few;
              few-witnesses = few-of w.count d.last-behind d.seen-behind 6 (omega (arith, d.high)) w.few;
            }

      from-deps : Kinds (k ∷ j ∷ ks)
      from-deps = from-witnesses (peel-next (Some Dep) (Some Witness) refl (omega arith) o.last-behind o.seen-behind o.rest d)

    from-outputs : Kinds (k ∷ j ∷ ks)
    from-outputs = from-deps (peel-next (Some Output) (Some Dep) refl (omega arith) i.last-behind i.seen-behind i.rest o)

  from-inputs : Kinds (k ∷ j ∷ ks)
  from-inputs = from-outputs (peel-next (Some Input) (Some Output) refl (omega arith) 2 1 ks i)

pub order-kinds : (ks : List (Option Kind)) → Order 0 0 ks → Kinds ks
unfolding Order
order-kinds [] r = absurd (omega arith)
order-kinds (k ∷ []) r = absurd (let z : ◌≡◌ {A = ℕ} 1 7 = (next-line k [] 0 0 (omega arith) r).1 in omega arith)
order-kinds (k ∷ j ∷ ks) r =
    let s = next-line k (j ∷ ks) 0 0 (omega arith) r in
    let t = next-line j ks 1 1 (omega arith) s.1 in
    from-inputs k j ks (same_place k (Some Script) s.0) (same_place j (Some Tx) t.0)
    (peel (Some Input) ks 2 1 (omega arith) (omega arith) (omega arith) (order_from 3 2 1 ks (omega arith) (λ q x y. x) t.1) t.1)

-- a run of n lines of a kind, before lines that may follow it
order-run : (k : Option Kind) (ks : List (Option Kind)) (n last seen : ℕ) → 2 ≤ last → last ≤ rank k → 3 ≤ rank k → rank k < 7 → n ≤ left last seen (rank k)
    → ((l s : ℕ) → 2 ≤ l → l ≤ rank k → Order l s ks) → Order last seen (replicate n k ++ ks)
unfolding Order
order-run k ks zero last seen h a b c m next = next last seen h a
order-run k ks (suc n) last seen h a b c m next =
    let p = left_behind last seen (rank k) n a m in
    let d : last < 7 = omega arith in
    let e : 2 ≤ rank k = omega arith in
    (body-follows last (rank k) h b a d, (p.0, order-run k ks n (rank k) (seen_with last seen (rank k)) e (le_refl (rank k)) b c p.1 next))

verdicts-last : (l s : ℕ) → 2 ≤ l → l ≤ 6 → Order l s (Some Verdicts ∷ [])
unfolding Order
verdicts-last l s h m =
    (body-follows l 7 h (omega arith) (omega arith) (omega arith), (rw (ne_eqb 7 l (λ e. omega arith)) (omega arith), refl))

body-order : (a b c d : ℕ) → a ≤ 64 → b ≤ 64 → c ≤ 64 → d ≤ 64 → Order 2 1 (body_kinds a b c d)
body-order a b c d ha hb hc hd = rw (body-right a b c d) (inputs 2 1 (omega arith) (omega arith))
  where
    w : List (Option Kind)
    w = replicate d (Some Witness) ++ (Some Verdicts ∷ [])

    p : List (Option Kind)
    p = replicate c (Some Dep) ++ w

    o : List (Option Kind)
    o = replicate b (Some Output) ++ p

    witnesses : (l s : ℕ) → 2 ≤ l → l ≤ 5 → Order l s w
    witnesses l s h m =
        order-run (Some Witness) (Some Verdicts ∷ []) d l s h (omega arith) (omega arith) (omega arith) (rw (left-next l s 6 (omega arith)) hd)
        (λ l s h m. verdicts-last l s h m)

    deps : (l s : ℕ) → 2 ≤ l → l ≤ 4 → Order l s p
    deps l s h m = order-run (Some Dep) w c l s h (omega arith) (omega arith) (omega arith) (rw (left-next l s 5 (omega arith)) hc) witnesses

    outputs : (l s : ℕ) → 2 ≤ l → l ≤ 3 → Order l s o
    outputs l s h m = order-run (Some Output) p b l s h (omega arith) (omega arith) (omega arith) (rw (left-next l s 4 (omega arith)) hb) deps

    inputs : (l s : ℕ) → 2 ≤ l → l ≤ 2 → Order l s (replicate a (Some Input) ++ o)
    inputs l s h m = order-run (Some Input) o a l s h (omega arith) (omega arith) (omega arith) (rw (left-next l s 3 (omega arith)) ha) outputs

pub kinds-order : (a b c d : ℕ) → a ≤ 64 → b ≤ 64 → c ≤ 64 → d ≤ 64 → Order 0 0 (kinds_of a b c d)
unfolding Order kinds_of body_kinds follows
kinds-order a b c d ha hb hc hd = (refl, (omega arith, (refl, (omega arith, body-order a b c d ha hb hc hd))))
