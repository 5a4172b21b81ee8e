-- The hashed witnesses are among the scene's: what a test finds of each of those it finds of these.
-- Assumes nothing.
use mathlib.Core.Path.{◌≡◌, refl}
use mathlib.Core.Bool.{Bool, true, false, cond}
use mathlib.Core.List.{List, [], ◌∷◌}
use Prim.Native.Nat.{ℕ, zero, suc}
use lib.Dec.{eqb}
use lib.ListN.{length, drop}
use Rattle.octets.specs.Lists.{every}
use Rattle.octets.proofs.Every.{every-split, every_append}
use Rattle.scene_table.specs.Scene.{Input, Scene}
use Rattle.group_sighash.specs.Witnesses.{group_witnesses, group_of, head_of, first_witness, other_witnesses}

module _ (p : List ℕ → Bool) where
  every-group : (is : List Input) (ws : List (List ℕ)) → every p ws ≡ true → every p (group_witnesses is ws) ≡ true
  unfolding group_witnesses every
  every-group [] ws h = refl
  every-group (i ∷ is) [] h = refl
  every-group (i ∷ is) (w ∷ ws) h = let z = every-split p w ws h in go (eqb i.group 1) z.0 (every-group is ws z.1)
    where
      go : (b : Bool) → p w ≡ true → every p (group_witnesses is ws) ≡ true → every p (cond b (w ∷ group_witnesses is ws) (group_witnesses is ws)) ≡ true
      go true a e = rw a e
      go false a e = e

  every-after : (n : ℕ) (ws : List (List ℕ)) → every p ws ≡ true → every p (drop n ws) ≡ true
  unfolding every
  every-after zero ws h = h
  every-after (suc n) [] h = refl
  every-after (suc n) (w ∷ ws) h = every-after n ws (every-split p w ws h).1

  every-head : (ws : List (List ℕ)) → every p ws ≡ true → p [] ≡ true → p (head_of ws) ≡ true
  unfolding head_of
  every-head [] h e = e
  every-head (w ∷ ws) h e = (every-split p w ws h).0

  module _ (s : Scene) (h : every p s.witnesses ≡ true) where
    pub every_first : p [] ≡ true → p (first_witness s) ≡ true
    unfolding first_witness group_of
    every_first e = every-head (group_of s) (every-group s.inputs s.witnesses h) e

    pub every-other : every p (other_witnesses s) ≡ true
    unfolding other_witnesses group_of
    every-other =
        let g = every-group s.inputs s.witnesses h in
        every_append p _ _ (every-after 1 (group_of s) g) (every-after (length s.inputs) s.witnesses h)
