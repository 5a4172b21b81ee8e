-- The canonical witness: it is read back with an empty lock and the other two fields as they were, and it is handed out in
-- parts without a copy.
-- Assumes nothing.
use Rattle.std.specs.Prelude.{Ok}
use mathlib.Core.Path.{◌≡◌, refl, sym}
use mathlib.Core.List.{List, [], ◌∷◌}
use Prim.Native.Nat.{ℕ, ◌+◌, ◌^◌, ◌<◌}
use native.Mathlib.Omega.{arith}
use lib.ListN.{length}
use Rattle.octets.specs.declared.place.Place.{Place}
use Rattle.octets.specs.Le.{Bytes}
use Rattle.octets.specs.Places.{bytes_at}
use Rattle.molecule.specs.Molecule.{bytes_vector, table_bytes}
use Rattle.molecule.specs.Table3.{field2, field3}
use Rattle.molecule.specs.Bytes.{read_witness_lock}
use Rattle.molecule.specs.Canonical.{canonical_of, ReadBack, Whole}
use Rattle.molecule.proofs.Form.{length_three, table-passes-hold}
use Rattle.molecule.proofs.CanonicalForm.{canonical-whole, length-canonical}
use Rattle.molecule.proofs.Inverse.{written-passes, field1-read, field2-read, field3-read}
use Rattle.molecule.proofs.BytesTheorem.{witness-lock-theorem}

-- a witness with a lock, and its canonical witness: the same table but for the lock
pub canonical-theorem : (s : List ℕ) (p : Place) → Bytes s → read_witness_lock s ≡ Ok p
    → (s ≡ table_bytes (bytes_vector (bytes_at s p) ∷ field2 s ∷ field3 s ∷ [])) × (canonical_of s ≡ table_bytes (bytes_vector [] ∷ field2 s ∷ field3 s ∷ []))
unfolding canonical_of
canonical-theorem s p b h = (sym (witness-lock-theorem s p b h).1, refl)

-- where its size fits its field it is read back
pub canonical-read : (s : List ℕ) → length (canonical_of s) < 2 ^ 32 → ReadBack s
unfolding canonical_of
canonical-read s h =
    let n : length (table_bytes (bytes_vector [] ∷ field2 s ∷ field3 s ∷ [])) ≡ 16 + length (bytes_vector []) + length (field2 s) + length (field3 s) =
    length_three (bytes_vector []) (field2 s) (field3 s) in
    let small : 16 + length (bytes_vector []) + length (field2 s) + length (field3 s) < 2 ^ 32 = omega arith in
    record {
      accepted = λ e. table-passes-hold e _ (written-passes (bytes_vector []) (field2 s) (field3 s) small);
      lock = field1-read (bytes_vector []) (field2 s) (field3 s) small;
      second = field2-read (bytes_vector []) (field2 s) (field3 s) small;
      third = field3-read (bytes_vector []) (field2 s) (field3 s) small;
    }

-- the parts, one behind the other, are the canonical witness
pub parts-theorem : (s : List ℕ) → Whole s
parts-theorem s = record { bytes = canonical-whole s; size = sym (length-canonical s) }
