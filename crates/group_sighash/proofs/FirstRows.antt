-- The rows of the group's first witness, read as empty where it is missing: they find what they find behind the row for a missing one.
-- Assumes nothing.
use Rattle.std.specs.Prelude.{Err, Ok}
use mathlib.Core.Path.{◌≡◌, sym, ◌∙◌}
use mathlib.Core.List.{List, [], ◌∷◌, ◌++◌}
use Prim.Native.Nat.{ℕ}
use lib.Dec.{leb}
use lib.ListN.{length, drop}
use borrow.Author.Tests.{le-leb}
use native.Mathlib.Omega.{arith}
use Rattle.octets.specs.Places.{bytes_at}
use Rattle.protocol.specs.Rows.{Row, row, decide}
use Rattle.protocol.proofs.AllPass.{decide-failed, passed-all-pass}
use Rattle.protocol.specs.declared.error.ProtocolError.TheVariants.{InvalidWitness}
use Rattle.molecule.specs.Table3.{table_rows}
use Rattle.molecule.specs.Bytes.{witness_lock_rows, witness_lock_place}
use Rattle.molecule.proofs.BytesTheorem.{lock-read}
use Rattle.scene_table.specs.Scene.{Scene}
use Rattle.group_sighash.specs.Witnesses.{group_of, head_of, first_witness, lock_in, witness_fits, first_witness_rows, group_rows, other_rows}
use Rattle.group_sighash.specs.GroupSighash.{sighash_rows}

-- rows that refuse an empty witness with 22 need no row for a missing one
missing-row : (rows : List ℕ → List Row) → decide (Ok tt) (rows []) ≡ Err InvalidWitness → (ws : List (List ℕ))
    → decide (Ok tt) (row (leb 1 (length ws)) InvalidWitness ∷ rows (head_of ws)) ≡ decide (Ok tt) (rows (head_of ws))
unfolding head_of decide
missing-row rows h [] = decide-failed (rows []) InvalidWitness ∙ sym h
missing-row rows h (w ∷ ws) = rw (le-leb 1 (length (w ∷ ws)) (omega arith))

empty-first : decide (Ok tt) (first_witness_rows []) ≡ Err InvalidWitness
unfolding first_witness_rows witness_lock_rows table_rows decide
empty-first = decide-failed (drop 2 (first_witness_rows [])) InvalidWitness

pub group-first : (s : Scene) → decide (Ok tt) (first_witness_rows (first_witness s)) ≡ decide (Ok tt) (group_rows s)
unfolding group_rows first_witness
group-first s = sym (missing-row first_witness_rows empty-first (group_of s))

empty-hashed : (s : Scene) → decide (Ok tt) (row (witness_fits []) InvalidWitness ∷ (table_rows InvalidWitness [] ++ other_rows s)) ≡ Err InvalidWitness
unfolding witness_fits table_rows decide
empty-hashed s = decide-failed (other_rows s) InvalidWitness

pub sighash_first : (s : Scene) → decide (Ok tt) (sighash_rows s)
    ≡ decide (Ok tt) (row (witness_fits (first_witness s)) InvalidWitness ∷ (table_rows InvalidWitness (first_witness s) ++ other_rows s))
unfolding sighash_rows first_witness
sighash_first s = missing-row (λ w. row (witness_fits w) InvalidWitness ∷ (table_rows InvalidWitness w ++ other_rows s)) (empty-hashed s) (group_of s)

-- the lock in a witness whose rows for it pass
pub lock_found : (w : List ℕ) → decide (Ok tt) (witness_lock_rows w) ≡ Ok tt → bytes_at w (witness_lock_place w) ≡ lock_in w
unfolding lock_in
lock_found w h = lock-read w (passed-all-pass (witness_lock_rows w) h)
