-- A canonical witness covers fields 2 and 3 of its witness, and nothing else of it.
-- Assumes nothing.
use mathlib.Core.Path.{◌≡◌, sym, ap, ◌∙◌}
use mathlib.Core.List.{List, [], ◌∷◌}
use Prim.Native.Nat.{ℕ, ◌^◌, ◌<◌}
use native.Mathlib.Omega.{arith}
use lib.ListN.{length}
use Rattle.molecule.specs.Molecule.{bytes_vector, table_bytes}
use Rattle.molecule.specs.Table3.{field2, field3}
use Rattle.molecule.specs.Canonical.{canonical_of}
use Rattle.molecule.proofs.CanonicalForm.{length-canonical, fields_within}
use Rattle.molecule.proofs.CanonicalTheorem.{canonical-read}
use Rattle.scene_table.specs.Scene.{Scene}
use Rattle.group_sighash.specs.Witnesses.{first_witness}
use Rattle.digest_coverage.specs.Coverage.{SighashParts, sighash_parts, SameCovered}
use Rattle.digest_coverage.specs.LockField.{SameFields}
use Rattle.digest_coverage.specs.Reaches.{Reaches}
use Rattle.digest_coverage.proofs.Sizes.{reached-first}

-- where its size fits its field, only witnesses with the same fields 2 and 3 have it
pub canonical-covers : (v w : List ℕ) → length (canonical_of v) < 2 ^ 32 → length (canonical_of w) < 2 ^ 32 → canonical_of v ≡ canonical_of w → SameFields v w
canonical-covers v w a b e =
    let r = canonical-read v a in
    let r' = canonical-read w b in
    record { second = sym r.second ∙ (ap field2 e ∙ r'.second); third = sym r.third ∙ (ap field3 e ∙ r'.third) }

-- and all of these have it
table_same : {a b c d : List ℕ} → a ≡ b → c ≡ d → table_bytes (bytes_vector [] ∷ a ∷ c ∷ []) ≡ table_bytes (bytes_vector [] ∷ b ∷ d ∷ [])
table_same p q = rw (p, q)

pub canonical-same : (v w : List ℕ) → SameFields v w → canonical_of v ≡ canonical_of w
unfolding canonical_of
canonical-same v w h = table_same h.second h.third

-- the size fits in every scene whose digest is reached
canonical-small : (s : Scene) (d : List ℕ) → Reaches s d → length (canonical_of (first_witness s)) < 2 ^ 32
canonical-small s d h =
    let w = first_witness s in
    omega (arith, reached-first s d h, length-canonical w, fields_within w)

-- so a digest covers fields 2 and 3 of the first group witness
pub covered-fields : (s t : Scene) (d e : List ℕ) → Reaches s d → Reaches t e → SameCovered s t → SameFields (first_witness s) (first_witness t)
unfolding sighash_parts
covered-fields s t d e a b c =
    canonical-covers (first_witness s) (first_witness t) (canonical-small s d a) (canonical-small t e b) (ap (λ (p : SighashParts). p.first) c.sighash)
