-- The hashed witnesses, one by one.
-- Assumes nothing.
use Rattle.std.specs.Prelude.{Ok}
use mathlib.Core.Path.{◌≡◌, refl, sym, ap, ◌∙◌}
use mathlib.Core.Bool.{Bool, true, false, cond, ◌||◌, true≢false}
use mathlib.Core.List.{List, [], ◌∷◌, ◌++◌}
use Prim.Native.Nat.{ℕ, ◌+◌, ◌-◌, ◌≤◌, ◌<◌, min}
use native.Mathlib.Omega.{arith}
use lib.ListN.{length, drop, length-drop}
use lib.Seq.{drop-drop}
use lib.Dec.{eqb, leb}
use borrow.Author.Tests.{le-leb, lt-leb, leb-true, leb-false}
use Rattle.octets.specs.Lists.{joined, every}
use Rattle.octets.specs.Places.{bytes_at}
use Rattle.blake2b.specs.declared.Blake2b.{Blake2b}
use Rattle.blake2b.specs.State.{fed_all}
use Rattle.blake2b.proofs.Feed.{fed-append}
use Rattle.authorization.specs.Hashed.{hashed_witness}
use Rattle.authorization.specs.Sighash.{hashed_witnesses}
use Rattle.authorization.proofs.SighashTheorem.{sighash-fed}
use Rattle.scene_table.specs.Scene.{Scene, Input}
use Rattle.scene_table.specs.Lent.{scene_in, input_count, witness_count, transaction_place}
use Rattle.scene_table.specs.Places.{input_group}
use Rattle.scene_table.proofs.PlaceLaws.{lent-group, lent-given}
use Rattle.protocol.specs.Rows.{decide}
use Rattle.group_sighash.specs.Witnesses.{group_witnesses, group_of, head_of, first_witness, other_witnesses, witness_fits, other_rows}
use Rattle.group_sighash.specs.Hashed.{hashed_of, hashed_from, group_from, witness_at, is_hashed}

-- the definition's two parts
hashed-split : (is : List Input) (ws : List (List ℕ)) → hashed_of is ws ≡ group_witnesses is ws ++ drop (length is) ws
unfolding hashed_of group_witnesses
hashed-split [] ws = refl
hashed-split (i ∷ is) [] = refl
hashed-split (i ∷ is) (w ∷ ws) = go (eqb i.group 1) (hashed-split is ws)
  where
    go : (b : Bool) → hashed_of is ws ≡ group_witnesses is ws ++ drop (length is) ws
        → cond b (w ∷ hashed_of is ws) (hashed_of is ws) ≡ cond b (w ∷ group_witnesses is ws) (group_witnesses is ws) ++ drop (length is) ws
    go true e = ap (λ x. w ∷ x) e
    go false e = e

hashed-none : (is : List Input) → hashed_of is [] ≡ []
unfolding hashed_of
hashed-none [] = refl
hashed-none (i ∷ is) = refl

group-none : (is : List Input) → group_witnesses is [] ≡ []
unfolding group_witnesses
group-none [] = refl
group-none (i ∷ is) = refl

module _ (table store : List ℕ) (i : ℕ) where
  -- a witness of the group, an input that has none, and behind the last input or the last witness
  pub group-yes : i < min (input_count table) (witness_count table) → input_group table i ≡ true
      → group_from table store i ≡ witness_at table store i ∷ group_from table store (i + 1)
  unfolding group_from group_witnesses witness_at
  group-yes h g =
      let n : i < input_count table = omega arith in
      let w : i < witness_count table = omega arith in
      rw ((lent-given table store).inputs.turn i n, (lent-given table store).witnesses.turn i w, lent-group table store i, g)

  pub group-no : i < min (input_count table) (witness_count table) → input_group table i ≡ false
      → group_from table store i ≡ group_from table store (i + 1)
  unfolding group_from group_witnesses
  group-no h g =
      let n : i < input_count table = omega arith in
      let w : i < witness_count table = omega arith in
      rw ((lent-given table store).inputs.turn i n, (lent-given table store).witnesses.turn i w, lent-group table store i, g)

  group-end : min (input_count table) (witness_count table) ≤ i → group_from table store i ≡ []
  unfolding group_from group_witnesses
  group-end h = go (leb (input_count table) i) refl
    where
      go : (b : Bool) → leb (input_count table) i ≡ b → group_witnesses (drop i (scene_in table store).inputs) (drop i (scene_in table store).witnesses) ≡ []
      go true e = rw ((lent-given table store).inputs.none i (leb-true _ _ e))
      go false e =
          let z : i < input_count table = leb-false _ _ e in
          let w : witness_count table ≤ i = omega arith in
          rw ((lent-given table store).witnesses.none i w) (group-none (drop i (scene_in table store).inputs))

  -- a hashed witness
  pub hashed-take : i < witness_count table → is_hashed table i ≡ true
      → hashed_from table store i ≡ witness_at table store i ∷ hashed_from table store (i + 1)
  unfolding is_hashed hashed_from hashed_of witness_at
  hashed-take w = go (leb (input_count table) i) refl
    where
      go : (b : Bool) → leb (input_count table) i ≡ b → (b || input_group table i) ≡ true
          → hashed_from table store i ≡ witness_at table store i ∷ hashed_from table store (i + 1)
      go true e g =
          let n : input_count table ≤ i = leb-true _ _ e in
          let m : input_count table ≤ i + 1 = omega arith in
          rw ((lent-given table store).inputs.none i n, (lent-given table store).inputs.none (i + 1) m, (lent-given table store).witnesses.turn i w)
      go false e g =
          rw ((lent-given table store).inputs.turn i (leb-false _ _ e), (lent-given table store).witnesses.turn i w, lent-group table store i, g)

  -- one that is not
  pub hashed-skip : i < witness_count table → is_hashed table i ≡ false → hashed_from table store i ≡ hashed_from table store (i + 1)
  unfolding is_hashed hashed_from hashed_of
  hashed-skip w = go (leb (input_count table) i) refl
    where
      go : (b : Bool) → leb (input_count table) i ≡ b → (b || input_group table i) ≡ false
          → hashed_from table store i ≡ hashed_from table store (i + 1)
      go true e g = absurd (true≢false g)
      go false e g =
          rw ((lent-given table store).inputs.turn i (leb-false _ _ e), (lent-given table store).witnesses.turn i w, lent-group table store i, g)

  pub hashed-end : witness_count table ≤ i → hashed_from table store i ≡ []
  unfolding hashed_from
  hashed-end w = rw ((lent-given table store).witnesses.none i w) (hashed-none (drop i (scene_in table store).inputs))

-- the group's witnesses, as far as input i none was one
pub group_begin : (table store : List ℕ) → group_of (scene_in table store) ≡ group_from table store 0
unfolding group_of group_from
group_begin table store = refl

module _ (table store : List ℕ) (i : ℕ) (none : group_of (scene_in table store) ≡ group_from table store i) where
  -- input i has the first, and the others are hashed behind it
  pub first-there : i < min (input_count table) (witness_count table) → input_group table i ≡ true
      → first_witness (scene_in table store) ≡ witness_at table store i
  unfolding first_witness head_of
  first-there h g = rw (none, group-yes table store i h g)

  pub other-there : i < min (input_count table) (witness_count table) → input_group table i ≡ true
      → other_witnesses (scene_in table store) ≡ hashed_from table store (i + 1)
  unfolding other_witnesses hashed_from group_from
  other-there h g =
      let is = (scene_in table store).inputs in
      let ws = (scene_in table store).witnesses in
      let long : length is ≡ input_count table = (lent-given table store).inputs.long in
      let m : i + 1 + (length is - (i + 1)) ≡ length is = rw long (omega arith) in
      rw (none, group-yes table store i h g)
      (sym (hashed-split (drop (i + 1) is) (drop (i + 1) ws) ∙ rw (length-drop, drop-drop, m)))

  -- behind the last input or the last witness there is no first
  group-missing : min (input_count table) (witness_count table) ≤ i → group_of (scene_in table store) ≡ []
  group-missing h = none ∙ group-end table store i h

  pub first-missing : min (input_count table) (witness_count table) ≤ i → first_witness (scene_in table store) ≡ []
  unfolding first_witness head_of
  first-missing e = rw (group-missing e)

  pub other-missing : min (input_count table) (witness_count table) ≤ i → other_witnesses (scene_in table store) ≡ hashed_from table store 0
  unfolding other_witnesses hashed_from group_of
  other-missing e =
      let is = (scene_in table store).inputs in
      let ws = (scene_in table store).witnesses in
      rw (group-missing e) (sym (hashed-split is ws ∙ rw (group-missing e)))

pub ruleset group_begins = (group_begin, group-no, first-there, other-there, first-missing, other-missing)

-- each hashed witness fits
module _ (table store : List ℕ) (i : ℕ) where
  pub fits_more : i < witness_count table → is_hashed table i ≡ true → length (witness_at table store i) ≤ 132096
      → every witness_fits (hashed_from table store i) ≡ every witness_fits (hashed_from table store (i + 1))
  unfolding every witness_fits
  fits_more w g h = rw (hashed-take table store i w g, le-leb (length (witness_at table store i)) 132096 h)

  pub fits_not : i < witness_count table → is_hashed table i ≡ true → 132096 < length (witness_at table store i)
      → every witness_fits (hashed_from table store i) ≡ false
  unfolding every witness_fits
  fits_not w g h = rw (hashed-take table store i w g, lt-leb (length (witness_at table store i)) 132096 h)

  pub fits_end : witness_count table ≤ i → every witness_fits (hashed_from table store i) ≡ true
  unfolding every
  fits_end w = rw (hashed-end table store i w)

pub ruleset others_fit = (hashed-skip, fits_more, fits_not, fits_end)

-- each hashed witness is fed
module _ (h : Blake2b) (table store : List ℕ) (i : ℕ) where
  pub fed-next : i < witness_count table → is_hashed table i ≡ true → fed_all h (hashed_witnesses (hashed_from table store i))
      ≡ fed_all (fed_all h (hashed_witness (witness_at table store i))) (hashed_witnesses (hashed_from table store (i + 1)))
  unfolding hashed_witnesses joined
  fed-next w g =
      let ws = hashed_from table store (i + 1) in
      rw (hashed-take table store i w g) (sym (fed-append h (hashed_witness (witness_at table store i)) (hashed_witnesses ws)))

  pub fed-end : witness_count table ≤ i → fed_all h (hashed_witnesses (hashed_from table store i)) ≡ h
  unfolding hashed_witnesses joined fed_all
  fed-end w = rw (hashed-end table store i w)

pub ruleset fed_others = (hashed-skip, fed-next, fed-end)

-- the sighash's first part, and all of it
pub transaction_lent : (table store : List ℕ) → bytes_at store (transaction_place table) ≡ (scene_in table store).transaction
transaction_lent table store = sym (lent-given table store).transaction

pub ruleset sighash_parts = (transaction_lent, sighash-fed)

-- hashed witnesses that are all short enough pass
pub others-pass : (s : Scene) → every witness_fits (other_witnesses s) ≡ true → decide (Ok tt) (other_rows s) ≡ Ok tt
unfolding other_rows decide
others-pass s e = rw e
