-- The written form of a public-key proof: how long it is, and its parts stored one behind another.
-- Assumes nothing.
use Rattle.std.specs.Prelude.{Ok}
use mathlib.Core.Path.{◌≡◌, refl, sym}
use mathlib.Core.List.{List, ◌++◌}
use Prim.Native.Nat.{ℕ, ◌+◌}
use native.Mathlib.Omega.{arith}
use lib.ListN.{length, length-append}
use lib.Seq.{sets}
use Rattle.octets.specs.Layout.{layout_bytes}
use Rattle.octets.proofs.Stores.{sets-append}
use Rattle.octets.proofs.LayoutLaws.{length-numbers, store_numbers, numbers-stored}
use Rattle.protocol.proofs.Outcome.{write_done}
use Rattle.public_key_proof.specs.Reading.{PublicKeyProofReading, public_key_proof_head, public_key_proof_bytes}
use Rattle.public_key_proof.specs.Writer.{public_key_proof_writer_rows, public_key_proof_total, public_key_proof_writer_fault, public_key_proof_stored}

module _ (r : PublicKeyProofReading) where
  abbrev pub public_key_proof_head_bytes : List ℕ
  public_key_proof_head_bytes = layout_bytes (public_key_proof_head r)

  pub length-public-key-proof-head : length public_key_proof_head_bytes ≡ 5
  unfolding public_key_proof_head
  length-public-key-proof-head = length-numbers (public_key_proof_head r)

  pub before-signature : length (public_key_proof_head_bytes ++ r.public_key) ≡ 5 + length r.public_key
  before-signature = simp (length-append, length-public-key-proof-head)

  pub length-public-key-proof : length (public_key_proof_bytes r) ≡ public_key_proof_total r
  unfolding public_key_proof_bytes public_key_proof_total
  length-public-key-proof = simp (length-append, length-public-key-proof-head)

  -- the parts stored one behind another
  pub parts_stored : (l : List ℕ)
      → sets l 0 (public_key_proof_bytes r) ≡ sets (sets (store_numbers l 0 (public_key_proof_head r)) 5 r.public_key) (5 + length r.public_key) r.signature
  unfolding public_key_proof_bytes
  parts_stored l =
      let h : length public_key_proof_head_bytes ≡ 5 = length-public-key-proof-head in
      let e : length (public_key_proof_head_bytes ++ r.public_key) ≡ 5 + length r.public_key = before-signature in
      rw (
        numbers-stored l 0 (public_key_proof_head r),
        sets-append l 0 public_key_proof_head_bytes r.public_key 5 (omega arith),
        sets-append l 0 (public_key_proof_head_bytes ++ r.public_key) r.signature (5 + length r.public_key) (omega arith),
      )

  -- where the writer's checks find nothing they stand at the front
  pub proof_stored : (out : List ℕ) → public_key_proof_writer_fault r (length out) ≡ Ok tt → public_key_proof_stored r out ≡ sets out 0 (public_key_proof_bytes r)
  unfolding public_key_proof_writer_fault public_key_proof_stored
  proof_stored out found =
      sym (write_done (public_key_proof_writer_rows r) (public_key_proof_total r) out (Ok tt) (sym found) (public_key_proof_bytes r) (sets out 0 (public_key_proof_bytes r)) refl length-public-key-proof refl).1
