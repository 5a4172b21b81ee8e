-- The weights of entries by capability, added one entry after another.
-- Assumes nothing.
use mathlib.Core.Path.{◌≡◌, sym, ◌∙◌}
use mathlib.Core.List.{List, [], ◌∷◌}
use Prim.Native.Nat.{ℕ, ◌+◌, ◌≤◌, ◌<◌}
use native.Mathlib.Nat.{add-zero}
use native.Mathlib.Numerals.{add-one}
use native.Mathlib.Omega.{arith}
use lib.ListN.{length}
use Rattle.account_state.specs.Reading.{EntryReading, capable_share, capable_weight}
use Rattle.account_state.specs.State.{summary_of, Light, with_entry}
use Rattle.account_state.specs.declared.walk.StateSummary.{StateSummary}

-- what is added of the entries es, with the weights of those that are left, is the whole; and there is room for these
pub record Weighing (es left : List EntryReading) (t : StateSummary) : Type 0 where
  pub spend : t.spend_weight + capable_weight 1 left ≡ capable_weight 1 es
  pub rotate : t.rotate_weight + capable_weight 2 left ≡ capable_weight 2 es
  pub recovery : t.recovery_weight + capable_weight 4 left ≡ capable_weight 4 es
  pub light : Light (length left) t

pub weigh-first : (es : List EntryReading) (t : StateSummary) → length es ≤ 16 → t.spend_weight ≡ 0 → t.rotate_weight ≡ 0
    → t.recovery_weight ≡ 0 → Weighing es es t
weigh-first es t n x y z =
    record {
      spend = omega arith;
      rotate = omega arith;
      recovery = omega arith;
      light = record { spend = omega arith; rotate = omega arith; recovery = omega arith };
    }

-- an entry added
pub weigh-next : (es all left : List EntryReading) (e : EntryReading) (t u : StateSummary) → Weighing es all t → all ≡ e ∷ left
    → u ≡ with_entry t e.capabilities e.weight → ((n : ℕ) → Light (n + 1) t → Light n u) → Weighing es left u
unfolding capable_weight with_entry
weigh-next es all left e t u v h q room =
    let w = rw h at v in
    record {
      spend = rw q (omega (arith, w.spend));
      rotate = rw q (omega (arith, w.rotate));
      recovery = rw q (omega (arith, w.recovery));
      light = room (length left) (rw add-one w.light);
    }

-- one entry more has room
pub weigh-light : (es all left : List EntryReading) (e : EntryReading) (t : StateSummary) → Weighing es all t → all ≡ e ∷ left → Light 1 t
weigh-light es all left e t v h =
    let l = (rw h at v).light in
    record { spend = omega (arith, l.spend); rotate = omega (arith, l.rotate); recovery = omega (arith, l.recovery) }

pub weigh-done : (es left : List EntryReading) (t : StateSummary) → Weighing es left t → left ≡ [] → t ≡ summary_of es
unfolding capable_weight summary_of
weigh-done es left t v h =
    let w = rw h at v in
    let x : t.spend_weight ≡ capable_weight 1 es = sym (add-zero _) ∙ w.spend in
    let y : t.rotate_weight ≡ capable_weight 2 es = sym (add-zero _) ∙ w.rotate in
    let z : t.recovery_weight ≡ capable_weight 4 es = sym (add-zero _) ∙ w.recovery in
    rw (← x, ← y, ← z)

-- for the check's own search
pub ruleset weighs = (weigh-first, weigh-next, weigh-light, weigh-done)
