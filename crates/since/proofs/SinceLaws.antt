-- What the tests of a since say, and absolute blocks as plain numbers.
-- Assumes nothing.
use mathlib.Core.Path.{◌≡◌, refl, sym, ◌∙◌}
use mathlib.Core.Logic.{◌↔◌}
use mathlib.Core.Bool.{Bool, true, false, not, ◌&&◌, ◌||◌, cond}
use Prim.Native.Nat.{ℕ, ◌/◌, ◌^◌, ◌<◌}
use native.Mathlib.Nat.{mod-eq_of_lt}
use native.Mathlib.Omega.{arith}
use lib.Dec.{eqb, leb}
use borrow.Author.Tests.{le-leb, leb-true, eq-eqb, ne_eqb, eqb-true, eqb-false}
use Rattle.octets.proofs.Truth.{and_both}
use Rattle.since.specs.Epoch.{Epoch, epoch_of, epoch_well_formed, epoch_leb}
use Rattle.since.specs.EpochOrder.{EpochLe}
use Rattle.since.specs.Since.{Since, since_fields, in_epochs, well_formed, value_leb, reached, Reached, AbsoluteBlocks}
use Rattle.since.proofs.EpochOrder.{epoch-order}

-- the epochs of a well-formed since are well-formed
last-test : (r : Bool) (m : ℕ) (x : Bool) → m ≡ 1 → r && (not (eqb m 3) && (not (eqb m 1) || x)) ≡ true → x ≡ true
last-test r m x e h = let k : r && x ≡ true = rw e at h in (and_both r x k).1

well-formed-epoch : (s : Since) → well_formed s ≡ true → s.metric ≡ 1 → epoch_well_formed (epoch_of s.value) ≡ true
unfolding well_formed in_epochs
well-formed-epoch s h e = last-test (eqb s.reserved 0) s.metric (epoch_well_formed (epoch_of s.value)) e h

-- of well-formed numbers the test says what it should
pub since-reached : (w s : Since) → well_formed w ≡ true → well_formed s ≡ true → (reached w s ≡ true) ↔ Reached w s
unfolding reached value_leb in_epochs
since-reached w s p q = (there, back)
  where
    u : Epoch
    u = epoch_of w.value

    v : Epoch
    v = epoch_of s.value

    pairs : w.metric ≡ 1 → w.metric ≡ s.metric → (epoch_leb u v ≡ true) ↔ EpochLe u v
    pairs e m = epoch-order.pairs u v (well-formed-epoch w p e) (well-formed-epoch s q (sym m ∙ e))

    there : reached w s ≡ true → Reached w s
    there h =
        let b = and_both (eqb w.relative s.relative) (eqb w.metric s.metric && value_leb w s) h in
        let c = and_both (eqb w.metric s.metric) (value_leb w s) b.1 in
        let m = eqb-true w.metric s.metric c.0 in
        record {
          relative = eqb-true w.relative s.relative b.0;
          metric = m;
          epochs = λ e. (pairs e m).0 (rw (eq-eqb w.metric 1 e) at c.1);
          numbers = λ n. leb-true w.value s.value (rw (ne_eqb w.metric 1 n) at c.1);
        }

    back : Reached w s → reached w s ≡ true
    back r = rw (eq-eqb w.relative s.relative r.relative, eq-eqb w.metric s.metric r.metric) (go (eqb w.metric 1) refl)
      where
        go : (b : Bool) → eqb w.metric 1 ≡ b → cond b (epoch_leb u v) (leb w.value s.value) ≡ true
        go true e = let o = eqb-true w.metric 1 e in (pairs o r.metric).1 (r.epochs o)
        go false e = le-leb w.value s.value (r.numbers (eqb-false w.metric 1 e))

-- ---- absolute blocks

module _ (n : ℕ) (a : AbsoluteBlocks (since_fields n)) where
  blocks-value : (since_fields n).value ≡ n
  unfolding since_fields
  blocks-value =
      let metric : n / 2 ^ 61 < 4 = omega (arith, a.relative) in
      let no-metric : n / 2 ^ 61 ≡ 0 = sym (mod-eq_of_lt metric) ∙ a.metric in
      let reserved : n / 2 ^ 56 < 32 = omega arith in
      let no-reserved : n / 2 ^ 56 ≡ 0 = sym (mod-eq_of_lt reserved) ∙ a.reserved in
      let value : n < 2 ^ 56 = omega arith in
      mod-eq_of_lt value

  pub blocks-formed : well_formed (since_fields n) ≡ true
  unfolding well_formed in_epochs
  blocks-formed = formed (since_fields n).reserved (since_fields n).metric _ a.reserved a.metric
    where
      formed : (r m : ℕ) (x : Bool) → r ≡ 0 → m ≡ 0 → eqb r 0 && (not (eqb m 3) && (not (eqb m 1) || x)) ≡ true
      formed r m x z b = rw (z, b)

-- are reached as plain numbers
pub blocks-reached : (w s : ℕ) → AbsoluteBlocks (since_fields w) → AbsoluteBlocks (since_fields s) → reached (since_fields w) (since_fields s) ≡ leb w s
unfolding reached value_leb in_epochs
blocks-reached w s a b =
    let r = eq-eqb (since_fields w).relative (since_fields s).relative (a.relative ∙ sym b.relative) in
    let m = eq-eqb (since_fields w).metric (since_fields s).metric (a.metric ∙ sym b.metric) in
    let e = ne_eqb (since_fields w).metric 1 (λ o. omega (arith, a.metric)) in
    rw (r, m, e) (rw (blocks-value w a, blocks-value s b))
