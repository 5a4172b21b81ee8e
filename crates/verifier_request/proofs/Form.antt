-- The written form of a request: how long it is, and its parts stored one behind another.
-- Assumes nothing.
use Rattle.std.specs.Prelude.{Ok}
use mathlib.Core.Path.{◌≡◌, refl, sym}
use mathlib.Core.List.{List, ◌++◌}
use Prim.Native.Nat.{ℕ, ◌+◌}
use native.Mathlib.Omega.{arith}
use lib.ListN.{length, length-append}
use lib.Seq.{sets}
use Rattle.octets.specs.Layout.{layout_bytes}
use Rattle.octets.proofs.Stores.{sets-append}
use Rattle.octets.proofs.LayoutLaws.{length-numbers}
use Rattle.protocol.proofs.Outcome.{write_done}
use Rattle.verifier_request.specs.Reading.{RequestReading, RequestTyped, request_head, request_lengths, request_bytes}
use Rattle.verifier_request.specs.Writer.{request_writer_rows, request_total, request_writer_fault, request_stored}

-- the digest and the key have their size
pub record RequestSized (r : RequestReading) : Type 0 where
  pub digest : length r.digest ≡ 32
  pub key : length r.key ≡ 32

pub request-typed-sized : (r : RequestReading) → RequestTyped r → RequestSized r
request-typed-sized r t = record { digest = t.digest; key = t.key }

module _ (r : RequestReading) where
  -- the two tables of the written form
  abbrev pub request_head_bytes : List ℕ
  request_head_bytes = layout_bytes (request_head r.algorithm r.slot r.operation r.profile)

  abbrev pub request_length_bytes : List ℕ
  request_length_bytes = layout_bytes (request_lengths (length r.aux) (length r.proof))

  pub length-request-head : length request_head_bytes ≡ 16
  unfolding request_head
  length-request-head = length-numbers (request_head r.algorithm r.slot r.operation r.profile)

  pub length-lengths : length request_length_bytes ≡ 16
  unfolding request_lengths
  length-lengths = length-numbers (request_lengths (length r.aux) (length r.proof))

module _ (r : RequestReading) (z : RequestSized r) where
  -- where each part begins
  pub before-key : length (request_head_bytes r ++ r.digest) ≡ 48
  before-key = simp (length-append, length-request-head r, z.digest)

  pub before-lengths : length (request_head_bytes r ++ r.digest ++ r.key) ≡ 80
  before-lengths = simp (length-append, length-request-head r, z.digest, z.key)

  pub before-aux : length (request_head_bytes r ++ r.digest ++ r.key ++ request_length_bytes r) ≡ 96
  before-aux = simp (length-append, length-request-head r, z.digest, z.key, length-lengths r)

  pub before-proof : length (request_head_bytes r ++ r.digest ++ r.key ++ request_length_bytes r ++ r.aux) ≡ 96 + length r.aux
  before-proof = simp (length-append, length-request-head r, z.digest, z.key, length-lengths r)

  pub length-request : length (request_bytes r) ≡ request_total r
  unfolding request_bytes request_total
  length-request = simp (length-append, length-request-head r, z.digest, z.key, length-lengths r)

-- the parts stored one behind another
module _ (r : RequestReading) (digest : length r.digest ≡ 32) (key : length r.key ≡ 32) where
  pub parts_stored : (out : List ℕ)
      → sets out 0 (request_bytes r)
      ≡ sets
      (sets (sets (sets (sets (sets out 0 (request_head_bytes r)) 16 r.digest) 48 r.key) 80 (request_length_bytes r)) 96 r.aux)
      (96 + length r.aux)
      r.proof
  unfolding request_bytes
  parts_stored out =
      let z : RequestSized r = record { digest = digest; key = key } in
      let h : length (request_head_bytes r) ≡ 16 = length-request-head r in
      let e₁ : length (request_head_bytes r ++ r.digest) ≡ 48 = before-key r z in
      let e₂ : length (request_head_bytes r ++ r.digest ++ r.key) ≡ 80 = before-lengths r z in
      let e₃ : length (request_head_bytes r ++ r.digest ++ r.key ++ request_length_bytes r) ≡ 96 = before-aux r z in
      let e₄ : length (request_head_bytes r ++ r.digest ++ r.key ++ request_length_bytes r ++ r.aux) ≡ 96 + length r.aux = before-proof r z in
      rw (
        sets-append out 0 (request_head_bytes r) r.digest 16 (omega arith),
        sets-append out 0 (request_head_bytes r ++ r.digest) r.key 48 (omega arith),
        sets-append out 0 (request_head_bytes r ++ r.digest ++ r.key) (request_length_bytes r) 80 (omega arith),
        sets-append out 0 (request_head_bytes r ++ r.digest ++ r.key ++ request_length_bytes r) r.aux 96 (omega arith),
        sets-append out 0 (request_head_bytes r ++ r.digest ++ r.key ++ request_length_bytes r ++ r.aux) r.proof (96 + length r.aux) (omega arith),
      )

  -- as many as their lengths say
  pub length_parts : length (request_bytes r) ≡ request_total r
  length_parts = length-request r (record { digest = digest; key = key })

-- where the writer's checks find nothing the bytes stand at the front
pub request_stored_front : (r : RequestReading) (out : List ℕ) → request_writer_fault r (length out) ≡ Ok tt → length (request_bytes r) ≡ request_total r
    → request_stored r out ≡ sets out 0 (request_bytes r)
unfolding request_writer_fault request_stored
request_stored_front r out found n =
    sym (write_done (request_writer_rows r) (request_total r) out (Ok tt) (sym found) (request_bytes r) (sets out 0 (request_bytes r)) refl n refl).1
