-- Nothing is found exactly where every row passes; else what is found is the refusal of the first row that fails.
-- Assumes nothing.
use Rattle.std.specs.Prelude.{Err, Ok}
use mathlib.Core.Path.{◌≡◌, refl, sym, ◌∙◌}
use mathlib.Core.Bool.{Bool, true, false}
use mathlib.Core.List.{List, [], ◌∷◌, ◌++◌}
use mathlib.Core.Logic.{◌⊎◌, inl, inr, ⊎_elim}
use Prim.Native.Nat.{ℕ}
use native.Mathlib.Omega.{arith}
use Rattle.protocol.specs.declared.error.ProtocolError.{ProtocolError}
use Rattle.protocol.specs.Rows.{Row, ◌▷◌, ◌then◌, decide, AllPass, FirstFailed, Check}

-- a refusal is no passing
pub failed-passed : {A : Type 0} (e : ProtocolError) → ◌≡◌ {A = Check} (Err e) (Ok tt) → A
failed-passed e h = absurd (let z : ◌≡◌ {A = ℕ} 0 1 = cc in omega arith)

-- after a refusal no row matters
pub decide-failed : (rs : List Row) (e : ProtocolError) → decide (Err e) rs ≡ Err e
unfolding decide ◌▷◌
decide-failed [] e = refl
decide-failed (r ∷ rs) e = decide-failed rs e

-- one list of rows after another
pub decide-append : (c : Check) (ps qs : List Row) → decide c (ps ++ qs) ≡ decide (decide c ps) qs
unfolding decide
decide-append c [] qs = refl
decide-append c (p ∷ ps) qs = decide-append (c ▷ p) ps qs

-- what later rows find by themselves
pub decide-then : (c : Check) (rs : List Row) → decide c rs ≡ c then decide (Ok tt) rs
unfolding ◌then◌
decide-then (Ok _) rs = refl
decide-then (Err e) rs = decide-failed rs e

-- two lists, each by itself
pub decide-both : (ps qs : List Row) → decide (Ok tt) (ps ++ qs) ≡ decide (Ok tt) ps then decide (Ok tt) qs
decide-both ps qs = decide-append (Ok tt) ps qs ∙ decide-then (decide (Ok tt) ps) qs

pub then-assoc : (a b c : Check) → (a then b) then c ≡ a then (b then c)
unfolding ◌then◌
then-assoc (Ok _) b c = refl
then-assoc (Err e) b c = refl

-- where both found nothing, each did
pub then-passed : (a b : Check) → a then b ≡ Ok tt → (a ≡ Ok tt) × (b ≡ Ok tt)
unfolding ◌then◌
then-passed (Ok _) b e = (refl, e)
then-passed (Err x) b e = failed-passed x e

first-row : (r : Row) (rs : List Row) (b : Bool) → r.test ≡ b → decide (Ok tt) (r ∷ rs) ≡ Ok tt → (r.test ≡ true) × (decide (Ok tt) rs ≡ Ok tt)
unfolding decide ◌▷◌
first-row r rs true e h = (e, rw e at h)
first-row r rs false e h = failed-passed r.error (sym (decide-failed rs r.error) ∙ (rw e at h))

pub passed-all-pass : (rs : List Row) → decide (Ok tt) rs ≡ Ok tt → AllPass rs
passed-all-pass [] h = tt
passed-all-pass (r ∷ rs) h =
    let z = first-row r rs r.test refl h in
    (z.0, passed-all-pass rs z.1)

pub all-pass-passed : (rs : List Row) → AllPass rs → decide (Ok tt) rs ≡ Ok tt
unfolding decide ◌▷◌
all-pass-passed [] h = refl
all-pass-passed (r ∷ rs) h = rw h.0 (all-pass-passed rs h.1)

-- later rows count only where the earlier ones pass
pub decide-where : (c : Check) (ps qs rs : List Row) → (AllPass ps → rs ≡ qs) → decide (decide c ps) rs ≡ decide c (ps ++ qs)
decide-where (Ok _) ps qs rs same = go (decide (Ok tt) ps) refl
  where
    go : (k : Check) → decide (Ok tt) ps ≡ k → decide (decide (Ok tt) ps) rs ≡ decide (Ok tt) (ps ++ qs)
    go (Ok _) h = rw (decide-append (Ok tt) ps qs, same (passed-all-pass ps h))
    go (Err e) h = rw (decide-append (Ok tt) ps qs, h, decide-failed rs e, decide-failed qs e)
decide-where (Err e) ps qs rs same = rw (decide-append (Err e) ps qs, decide-failed ps e, decide-failed rs e, decide-failed qs e)

-- every row of two lists passes where every row of each does
pub all-pass-append : (ps qs : List Row) → AllPass ps → AllPass qs → AllPass (ps ++ qs)
all-pass-append [] qs h k = k
all-pass-append (p ∷ ps) qs h k = (h.0, all-pass-append ps qs h.1 k)

pub all-pass-split : (ps qs : List Row) → AllPass (ps ++ qs) → AllPass ps × AllPass qs
all-pass-split [] qs h = (tt, h)
all-pass-split (p ∷ ps) qs h = let z = all-pass-split ps qs h.1 in ((h.0, z.0), z.1)

-- what is found is the refusal of the first row that fails
first_step : (r : Row) (rs : List Row) (e : ProtocolError) (b : Bool) → r.test ≡ b → decide (Ok tt) (r ∷ rs) ≡ Err e
    → ((b ≡ false) × (r.error ≡ e)) ⊎ ((b ≡ true) × (decide (Ok tt) rs ≡ Err e))
unfolding decide ◌▷◌
first_step r rs e true t h = inr (refl, rw t at h)
first_step r rs e false t h = inl (refl, same-error (sym (decide-failed rs r.error) ∙ (rw t at h)))
  where
    same-error : ◌≡◌ {A = Check} (Err r.error) (Err e) → r.error ≡ e
    same-error k = cc

pub failed-first : (rs : List Row) (e : ProtocolError) → decide (Ok tt) rs ≡ Err e → FirstFailed rs e
unfolding decide
failed-first [] e h = failed-passed e (sym h)
failed-first (r ∷ rs) e h =
    ⊎_elim (λ f. inl f) (λ p. inr (p.0, failed-first rs e p.1)) (first_step r rs e r.test refl h)

pub first-failed : (rs : List Row) (e : ProtocolError) → FirstFailed rs e → decide (Ok tt) rs ≡ Err e
unfolding decide ◌▷◌
first-failed [] e f = absurd f
first-failed (r ∷ rs) e (inl f) = rw (f.0, f.1) (decide-failed rs e)
first-failed (r ∷ rs) e (inr p) = rw p.0 (first-failed rs e p.1)

-- what a function that tests lists of rows one behind another finds, for the check's own search
pub ruleset deciding = (decide-both, decide-failed)
