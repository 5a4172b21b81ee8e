-- A scene is what its table and its store hold.
-- Assumes nothing.
use mathlib.Core.Path.{◌≡◌, ap, ◌∙◌}
use mathlib.Core.Bool.{true}
use mathlib.Core.List.{List, ◌++◌, append_assoc, map-id}
use Prim.Native.Nat.{ℕ, ◌-◌}
use lib.ListN.{length, replicate}
use Rattle.octets.proofs.Parts.{part-back}
use Rattle.octets.specs.Places.{bytes_at}
use Rattle.scene_table.specs.Scene.{Scene, scene_bytes, padded_to, scene_store, scene_table}
use Rattle.scene_table.specs.Lent.{scene_in}
use Rattle.scene_table.specs.Valid.{scene_ok}
use Rattle.scene_table.proofs.PlaceLaws.{Given, lent-given}
use Rattle.scene_table.proofs.ReadBack.{cell_with, input_with, output_with, scene_with, Gives}
use Rattle.scene_table.proofs.SceneBack.{sayable, scene-back}

-- a part of a scene's bytes is read back from its store
store-gives : (s : Scene) (n : ℕ) → Gives (bytes_at (scene_store s n)) (λ q. q) (scene_bytes s)
unfolding bytes_at scene_store padded_to
store-gives s n p q r at k e lp lq =
    let z : List ℕ = replicate (n - length (scene_bytes s)) 0 in
    let f : scene_bytes s ++ z ≡ p ++ (q ++ (r ++ z)) = ap (λ (b : List ℕ). b ++ z) e ∙ (append_assoc p (q ++ r) z ∙ ap (λ (b : List ℕ). p ++ b) (append_assoc q r z)) in
    part-back (scene_bytes s ++ z) p q (r ++ z) at k f lp lq

same-scene : (s : Scene) → scene_with (λ q. q) s ≡ s
unfolding scene_with input_with output_with cell_with
same-scene s = rw (map-id s.inputs, map-id s.outputs, map-id s.deps, map-id s.witnesses)

pub lent_back : (s : Scene) (m n : ℕ) → scene_ok s ≡ true → scene_in (scene_table s m) (scene_store s n) ≡ s
unfolding scene_in
lent_back s m n ok = scene-back s m (bytes_at (scene_store s n)) (λ q. q) (store-gives s n) (sayable s ok) ∙ same-scene s

-- so the accessors give the scene that left the table and the store
pub scene-given : (s : Scene) (m n : ℕ) → scene_ok s ≡ true → Given (scene_table s m) (scene_store s n) s
scene-given s m n ok = rw (lent_back s m n ok) at (lent-given (scene_table s m) (scene_store s n))
