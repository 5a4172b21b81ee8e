-- The sighash of a transaction whose hashed witnesses pass is CKB's hash of document 01's input, which is far below 2 ^ 64 bytes.
-- Assumes nothing.
use mathlib.Core.Path.{◌≡◌}
use mathlib.Core.Bool.{Bool, true, false, cond}
use mathlib.Core.List.{List, [], ◌∷◌, ◌++◌}
use Prim.Native.Nat.{ℕ, suc, ◌*◌, ◌≤◌}
use native.Mathlib.Omega.{arith}
use lib.Dec.{eqb}
use lib.ListN.{length, drop, length-append, length-drop}
use borrow.Author.Tests.{leb-true}
use Rattle.octets.specs.Lists.{joined, every}
use Rattle.octets.proofs.Truth.{and_both}
use Rattle.protocol.specs.Rows.{AllPass}
use Rattle.protocol.proofs.AllPass.{all-pass-split}
use Rattle.protocol.specs.declared.error.ProtocolError.TheVariants.{InvalidWitness}
use Rattle.molecule.specs.Table3.{table_rows}
use Rattle.molecule.specs.Canonical.{canonical_of}
use Rattle.molecule.proofs.CanonicalForm.{length-canonical, fields_within}
use Rattle.blake2b.specs.State.{ckb_hash}
use Rattle.authorization.specs.Hashed.{hashed_witness}
use Rattle.authorization.specs.Sighash.{hashed_witnesses, sighash_input}
use Rattle.authorization.proofs.SighashTheorem.{hashed_length, sighash-theorem}
use Rattle.scene_table.specs.Scene.{Input, Scene}
use Rattle.group_sighash.specs.Witnesses.{group_witnesses, group_of, first_witness, other_witnesses, witness_fits, other_rows}
use Rattle.group_sighash.specs.GroupSighash.{sighash_rows, group_sighash}

-- witnesses that fit add at most 132,104 bytes each
others-length : (ws : List (List ℕ)) → every witness_fits ws ≡ true → length (hashed_witnesses ws) ≤ length ws * 132104
unfolding hashed_witnesses joined witness_fits every
others-length [] e = omega arith
others-length (w ∷ ws) e =
    let z = and_both (witness_fits w) (every witness_fits ws) e in
    let n = length-append (hashed_witness w) (hashed_witnesses ws) in
    let k = hashed_length w in
    let fit : length w ≤ 132096 = leb-true _ _ z.0 in
    let rest = others-length ws z.1 in
    omega arith

-- no more witnesses are hashed than there are
group-few : (is : List Input) (ws : List (List ℕ)) → length (group_witnesses is ws) ≤ length ws
unfolding group_witnesses
group-few [] ws = omega arith
group-few (i ∷ is) [] = omega arith
group-few (i ∷ is) (w ∷ ws) = go (eqb i.group 1) (group-few is ws)
  where
    go : (b : Bool) → length (group_witnesses is ws) ≤ length ws
        → length (cond b (w ∷ group_witnesses is ws) (group_witnesses is ws)) ≤ suc (length ws)
    go true h = omega arith
    go false h = omega arith

module _ (s : Scene) where
  others-few : length (other_witnesses s) ≤ 2 * length s.witnesses
  unfolding other_witnesses group_of
  others-few =
      let n = length-append (drop 1 (group_of s)) (drop (length s.inputs) s.witnesses) in
      let a = length-drop 1 (group_of s) in
      let b = length-drop (length s.inputs) s.witnesses in
      let g = group-few s.inputs s.witnesses in
      omega arith

  pub sighash-hash : length s.transaction ≤ 32 → length s.witnesses ≤ 64 → AllPass (sighash_rows s)
      → group_sighash s ≡ ckb_hash (sighash_input s.transaction (canonical_of (first_witness s)) (other_witnesses s))
  unfolding group_sighash sighash_input sighash_rows other_rows witness_fits
  sighash-hash t few h =
      let first = first_witness s in
      let canonical = canonical_of first in
      let others = other_witnesses s in
      let head = length-append s.transaction (hashed_witness canonical) in
      let whole = length-append (s.transaction ++ hashed_witness canonical) (hashed_witnesses others) in
      let k₁ = hashed_length canonical in
      let k₂ = length-canonical first in
      let k₃ = fields_within first in
      let short : length first ≤ 132096 = leb-true _ _ h.1.0 in
      let k₄ = others-length others (all-pass-split (table_rows InvalidWitness first) (other_rows s) h.1.1).1.0 in
      let k₅ = others-few in
      sighash-theorem s.transaction first others (omega arith)
