-- The reader accepts exactly where every row passes, and refuses exactly with the first that fails.
-- Assumes nothing.
use Rattle.std.specs.Prelude.{Err, Ok}
use Prim.Native.Nat.{ℕ}
use mathlib.Core.Path.{◌≡◌, refl}
use mathlib.Core.List.{List}
use mathlib.Core.Logic.{◌↔◌}
use Rattle.protocol.specs.Rows.{AllPass, FirstFailed, Check}
use Rattle.protocol.specs.declared.error.ProtocolError.{ProtocolError}
use Rattle.protocol.proofs.Answers.{answer-accepts, answer-refuses}
use Rattle.scene_reader.specs.Reader.{ReaderState, outcome_after, scene_rows, read_of, reader_check}

-- the answer is what the rows found
answer-after : (h : ReaderState) (c : Check) → reader_check (outcome_after c h) ≡ c
answer-after h (Ok _) = refl
answer-after h (Err e) = refl

module _ (scene : List ℕ) (n m : ℕ) where
  -- 01: "The reader accepts every scene that no reader or line row refuses": accepted exactly where every row passes
  pub scene-passes-rows : (reader_check (read_of scene n m) ≡ Ok tt) ↔ AllPass (scene_rows scene n m)
  unfolding read_of
  scene-passes-rows = answer-accepts (λ c. reader_check (outcome_after c _)) (λ c. c) (answer-after _) (scene_rows scene n m)

  -- refused exactly with the first row that fails
  pub scene-refuses : (e : ProtocolError) → (reader_check (read_of scene n m) ≡ Err e) ↔ FirstFailed (scene_rows scene n m) e
  unfolding read_of
  scene-refuses e = answer-refuses (λ c. reader_check (outcome_after c _)) (λ c. c) (answer-after _) (scene_rows scene n m) e
