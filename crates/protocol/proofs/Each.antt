-- Where the refusal of every row has a property, or of every row that can be the first to fail, so has the refusal that the rows find.
-- Assumes nothing.
use Rattle.std.specs.Prelude.{Err, Ok}
use mathlib.Core.Path.{◌≡◌, refl, subst}
use mathlib.Core.Bool.{Bool, true, false, cond}
use mathlib.Core.List.{List, [], ◌∷◌, ◌++◌}
use Rattle.protocol.specs.Rows.{Row, ◌▷◌, decide, Check}
use Rattle.protocol.specs.declared.error.ProtocolError.{ProtocolError}
use Rattle.protocol.proofs.AllPass.{decide-failed}

-- the refusal of every row has the property P
abbrev pub Each : (ProtocolError → Type 0) → List Row → Type 0
Each P [] = Unit {0}
Each P (r ∷ rs) = P r.error × Each P rs

-- the refusal of every row that fails where those before it pass has the property P
abbrev pub EachFailing : (ProtocolError → Type 0) → List Row → Type 0
EachFailing P [] = Unit {0}
EachFailing P (r ∷ rs) = (r.test ≡ false → P r.error) × (r.test ≡ true → EachFailing P rs)

-- what the checks found has the property P, where it is a refusal
abbrev pub Refuses : (ProtocolError → Type 0) → Check → Type 0
Refuses P (Ok _) = Unit {0}
Refuses P (Err e) = P e

module _ (P : ProtocolError → Type 0) where
  -- one list of rows after another
  pub each_append : (ps qs : List Row) → Each P ps → Each P qs → Each P (ps ++ qs)
  each_append [] qs h k = k
  each_append (p ∷ ps) qs h k = (h.0, each_append ps qs h.1 k)

  -- one of two lists of rows
  pub each-cond : (b : Bool) (ps qs : List Row) → Each P ps → Each P qs → Each P (cond b ps qs)
  each-cond true ps qs h k = h
  each-cond false ps qs h k = k

  -- what the rows find has the property
  pub each-refuses : (rs : List Row) → Each P rs → Refuses P (decide (Ok tt) rs)
  unfolding decide ◌▷◌
  each-refuses [] h = tt
  each-refuses (r ∷ rs) h = go r.test (each-refuses rs h.1)
    where
      go : (b : Bool) → Refuses P (decide (Ok tt) rs) → Refuses P (decide (cond b (Ok tt) (Err r.error)) rs)
      go true k = k
      go false k = rw (decide-failed rs r.error) h.0

  -- as it has where every row that fails first has it
  pub failing-refuses : (rs : List Row) → EachFailing P rs → Refuses P (decide (Ok tt) rs)
  unfolding decide ◌▷◌
  failing-refuses [] h = tt
  failing-refuses (r ∷ rs) h = go r.test h.0 (λ t. failing-refuses rs (h.1 t))
    where
      go : (b : Bool) → (b ≡ false → P r.error) → (b ≡ true → Refuses P (decide (Ok tt) rs))
          → Refuses P (decide (cond b (Ok tt) (Err r.error)) rs)
      go true f k = k refl
      go false f k = rw (decide-failed rs r.error) (f refl)

  -- so has the refusal that they give
  pub each-failed : (rs : List Row) (e : ProtocolError) → Each P rs → decide (Ok tt) rs ≡ Err e → P e
  each-failed rs e h f = subst (Refuses P) f (each-refuses rs h)

-- a property that follows from another
pub each_more : (P Q : ProtocolError → Type 0) → ((e : ProtocolError) → P e → Q e) → (rs : List Row) → Each P rs → Each Q rs
each_more P Q f [] h = tt
each_more P Q f (r ∷ rs) h = (f r.error h.0, each_more P Q f rs h.1)
