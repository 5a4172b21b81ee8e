-- The sizes that the parts of a sighash have in every scene: lent as a table that passes its test and a store, read from a text, or
-- with a digest that the lock reaches.
-- Assumes nothing.
use Rattle.std.specs.Prelude.{Ok}
use mathlib.Core.Path.{◌≡◌, refl}
use mathlib.Core.Bool.{Bool, true}
use mathlib.Core.List.{List}
use Prim.Native.Nat.{ℕ, ◌+◌, ◌^◌, ◌≤◌, ◌<◌}
use native.Mathlib.Omega.{arith}
use borrow.Author.Tests.{leb-true, ltb-true, lt-ltb}
use lib.Dec.{leb, ltb}
use lib.ListN.{length}
use Rattle.octets.specs.Le.{Bytes}
use Rattle.octets.specs.Lists.{every}
use Rattle.octets.proofs.Every.{every_more}
use Rattle.protocol.specs.Rows.{AllPass}
use Rattle.molecule.proofs.CanonicalForm.{length-canonical, fields_within}
use Rattle.scene_reader.specs.Reader.{read_of, reader_check}
use Rattle.scene_table.specs.Scene.{Scene, scene_bytes}
use Rattle.scene_table.specs.Lent.{scene_in}
use Rattle.scene_table.specs.Valid.{valid_table}
use Rattle.scene_table.proofs.ReadBack.{hash-long}
use Rattle.scene_table.proofs.SceneBack.{Sayable, sayable}
use Rattle.scene_table.proofs.LentScene.{lent-sayable, lent-bytes, witnesses-within}
use Rattle.scene_reading.specs.Lines.{LinesAccepted}
use Rattle.scene_reading.specs.Reading.{scene_of}
use Rattle.scene_reading.proofs.PrintBack.{reading-ok}
use Rattle.scene_reading.proofs.SceneAccepts.{reader-accepts}
use Rattle.group_sighash.specs.Witnesses.{first_witness, other_witnesses, group_rows, first_witness_rows, other_rows, witness_fits}
use Rattle.account_lock.specs.Lock as lock
use Rattle.decide_scene.proofs.TextBytes.{text-bytes}
use Rattle.digest_coverage.specs.Coverage.{SighashSizes, sighash_parts}
use Rattle.digest_coverage.specs.Reaches.{Reaches}
use Rattle.digest_coverage.proofs.HasDigest.{has-digest, reached-sayable}
use Rattle.digest_coverage.proofs.HashedWitnesses.{every_first, every-other}
use Rattle.lock_theorems.proofs.Passes.{late, others-fit}

-- of a scene whose first group witness has 20 bytes less than a u64 holds, as the canonical one may have 20 more
sizes-below : (s : Scene) → Sayable s → length (first_witness s) + 20 < 2 ^ 64 → every (λ (w : List ℕ). ltb (length w) (2 ^ 64)) (other_witnesses s) ≡ true
    → SighashSizes (sighash_parts s)
unfolding sighash_parts
sizes-below s ok first others = record {
  transaction = hash-long s.transaction ok.transaction;
  first = omega (arith, length-canonical (first_witness s), fields_within (first_witness s));
  others = others;
}

-- of a scene that a text can say, of fewer than 2 ^ 64 bytes
scene-sizes : (s : Scene) → Sayable s → length (scene_bytes s) < 2 ^ 64 → SighashSizes (sighash_parts s)
scene-sizes s ok short =
    let n = length (scene_bytes s) in
    let within : List ℕ → Bool = λ w. leb (32 + length w) n in
    let below : List ℕ → Bool = λ w. ltb (length w + 20) (2 ^ 64) in
    let held : List ℕ → Bool = λ w. ltb (length w) (2 ^ 64) in
    let all = witnesses-within s ok in
    let firsts = every_more within below (λ w h. lt-ltb (length w + 20) (2 ^ 64) (omega (arith, leb-true (32 + length w) n h))) s.witnesses all in
    let others = every_more within held (λ w h. lt-ltb (length w) (2 ^ 64) (omega (arith, leb-true (32 + length w) n h))) s.witnesses all in
    sizes-below s ok (ltb-true (length (first_witness s) + 20) (2 ^ 64) (every_first below s firsts refl)) (every-other held s others)

pub lent-sizes : (table store : List ℕ) → valid_table table (length store) ≡ true → Bytes store → length store < 2 ^ 64
    → SighashSizes (sighash_parts (scene_in table store))
lent-sizes table store valid bytes short =
    scene-sizes (scene_in table store) (lent-sayable table store valid bytes) (omega (arith, lent-bytes table store valid))

pub text-sizes : (text : List ℕ) (n m : ℕ) → reader_check (read_of text n m) ≡ Ok tt → (p : LinesAccepted text n)
    → SighashSizes (sighash_parts (scene_of p.lines))
text-sizes text n m e p =
    let within = ((reader-accepts text n m).0 e).0 in
    scene-sizes (scene_of p.lines) (sayable _ (reading-ok text n p)) (omega (arith, text-bytes text n p))

-- the rows before the proofs' have limits of their own
module _ (s : Scene) (d : List ℕ) (h : Reaches s d) where
  early : AllPass (lock.early_rows s)
  early = (has-digest s d h).early

  pub reached-first : length (first_witness s) ≤ 132096
  unfolding group_rows first_witness_rows
  reached-first = leb-true (length (first_witness s)) 132096 (late s early).0.1.0

  pub reached-sizes : SighashSizes (sighash_parts s)
  unfolding other_rows witness_fits
  reached-sizes =
      let held : List ℕ → Bool = λ w. ltb (length w) (2 ^ 64) in
      let others =
      every_more witness_fits held (λ w f. lt-ltb (length w) (2 ^ 64) (omega (arith, leb-true (length w) 132096 f))) (other_witnesses s) (others-fit s early).0 in
      sizes-below s (reached-sayable s d h) (omega (arith, reached-first)) others
