-- 02, change 12: "The border between group and extra witnesses isn't marked": more inputs of the group make extra witnesses the
-- group's, and what a sighash covers stays the same.
-- Assumes nothing.
use mathlib.Core.Path.{◌≡◌, refl, sym, ap, ◌∙◌}
use mathlib.Core.Bool.{Bool, true, false, cond}
use mathlib.Core.List.{List, [], ◌∷◌, ◌++◌, append_assoc}
use Prim.Native.Nat.{ℕ, ◌≤◌}
use native.Mathlib.Omega.{arith}
use lib.Dec.{eqb}
use lib.ListN.{length, take, drop, length-append, length-take, take-append-drop}
use lib.Seq.{take-nil, drop-drop}
use Rattle.octets.specs.Lists.{every}
use Rattle.octets.proofs.Every.{every-split}
use Rattle.scene_table.specs.Scene.{Input, Scene}
use Rattle.group_sighash.specs.Witnesses.{group_witnesses, group_of, head_of, first_witness, other_witnesses}
use Rattle.molecule.specs.Canonical.{canonical_of}
use Rattle.digest_coverage.specs.Coverage.{sighash_input_of, sighash_parts}
use Rattle.digest_coverage.proofs.Covered.{sighash-same}
use Rattle.digest_coverage.specs.Border.{extra_witnesses, with_inputs, BorderMoved, MoreGroup, group_input, two_witnesses, second_extra, second_of_group}

-- inputs of the group alone have the witnesses one by one
all-group : (more : List Input) (ws : List (List ℕ)) → every (λ (i : Input). eqb i.group 1) more ≡ true → group_witnesses more ws ≡ take (length more) ws
unfolding group_witnesses
all-group [] ws h = refl
all-group (i ∷ is) [] h = refl
all-group (i ∷ is) (w ∷ ws) h = let z = every-split _ i is h in rw (z.0, all-group is ws z.1)

-- after other inputs they have those after theirs
group-more : (is more : List Input) (ws : List (List ℕ)) → every (λ (i : Input). eqb i.group 1) more ≡ true
    → group_witnesses (is ++ more) ws ≡ group_witnesses is ws ++ take (length more) (drop (length is) ws)
unfolding group_witnesses
group-more [] more ws h = all-group more ws h
group-more (i ∷ is) more [] h = sym (take-nil (length more))
group-more (i ∷ is) more (w ∷ ws) h = go (eqb i.group 1) (group-more is more ws h)
  where
    go : (b : Bool) → group_witnesses (is ++ more) ws ≡ group_witnesses is ws ++ take (length more) (drop (length is) ws)
        → cond b (w ∷ group_witnesses (is ++ more) ws) (group_witnesses (is ++ more) ws)
        ≡ cond b (w ∷ group_witnesses is ws) (group_witnesses is ws) ++ take (length more) (drop (length is) ws)
    go true e = rw e
    go false e = e

-- the head and the rest of a list with something in it stay, whatever follows
head-stays : (g e : List (List ℕ)) → 1 ≤ length g → head_of (g ++ e) ≡ head_of g
unfolding head_of
head-stays [] e h = absurd (omega arith)
head-stays (w ∷ g) e h = refl

rest-stays : (g e : List (List ℕ)) → 1 ≤ length g → drop 1 (g ++ e) ≡ drop 1 g ++ e
rest-stays [] e h = absurd (omega arith)
rest-stays (w ∷ g) e h = refl

others-joined : (s : Scene) → other_witnesses s ≡ drop 1 (group_of s) ++ extra_witnesses s
unfolding other_witnesses extra_witnesses
others-joined s = refl

module _ (s : Scene) (more : List Input) (h : MoreGroup more s) where
  moved-group : group_of (with_inputs more s) ≡ group_of s ++ take (length more) (extra_witnesses s)
  unfolding group_of with_inputs extra_witnesses
  moved-group = group-more s.inputs more s.witnesses h.group

  moved-extra : extra_witnesses (with_inputs more s) ≡ drop (length more) (extra_witnesses s)
  unfolding with_inputs extra_witnesses
  moved-extra = rw (length-append s.inputs more) (sym (drop-drop (length more) (length s.inputs) s.witnesses))

  moved-others : other_witnesses (with_inputs more s) ≡ other_witnesses s
  moved-others =
      let n = length more in
      let e = extra_witnesses s in
      rw
      (others-joined (with_inputs more s), moved-group, moved-extra, rest-stays (group_of s) (take n e) h.first, append_assoc (drop 1 (group_of s)) (take n e) (drop n e), take-append-drop n e)
      (sym (others-joined s))

  pub moved-first : first_witness (with_inputs more s) ≡ first_witness s
  unfolding first_witness
  moved-first = rw moved-group (head-stays (group_of s) (take (length more) (extra_witnesses s)) h.first)

  moved-transaction : (with_inputs more s).transaction ≡ s.transaction
  unfolding with_inputs
  moved-transaction = refl

  moved-covered : sighash_parts (with_inputs more s) ≡ sighash_parts s
  moved-covered = sighash-same (with_inputs more s) s moved-transaction (ap canonical_of moved-first) moved-others

  -- more inputs of the group move the border, and the sighash input is one
  pub border-unmarked : BorderMoved (length more) s (with_inputs more s)
  border-unmarked = record { group = moved-group; extra = moved-extra; covered = moved-covered; input = ap sighash_input_of moved-covered }

  -- the groups do differ, where there is an input more and an extra witness for it
  pub border-differs : 1 ≤ length more → 1 ≤ length (extra_witnesses s) → ¬ (group_of (with_inputs more s) ≡ group_of s)
  border-differs a b e =
      let n = ap length (sym moved-group ∙ e) in
      omega (arith, length-append (group_of s) (take (length more) (extra_witnesses s)), length-take (length more) (extra_witnesses s))

-- in the smallest pair the second witness is an extra one, or the group's
pub border-smallest : BorderMoved 1 second_extra second_of_group × (¬ (group_of second_of_group ≡ group_of second_extra))
unfolding second_extra second_of_group two_witnesses group_input group_of group_witnesses extra_witnesses with_inputs every
border-smallest =
    let more = group_input ∷ [] in
    let h : MoreGroup more second_extra = record { first = omega arith; group = refl } in
    (border-unmarked second_extra more h, border-differs second_extra more h (omega arith) (omega arith))
