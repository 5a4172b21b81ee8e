-- The reader and the writer of a request are inverse: an accepted request is the written form of its reading, and the
-- written form of a reading within the writer's limits is accepted and read as that reading.
-- Assumes nothing.
use mathlib.Core.Path.{◌≡◌, refl, ap}
use mathlib.Core.Bool.{true}
use mathlib.Core.List.{List, [], ◌∷◌, ◌++◌, append_assoc, append-nil}
use Prim.Native.Nat.{ℕ, ◌+◌, ◌^◌, ◌≤◌, ◌<◌}
use native.Mathlib.Omega.{arith}
use borrow.Author.Tests.{leb-true, eqb-true, le-leb, eq-eqb}
use lib.ListN.{length, take, drop}
use lib.Seq.{take-add, take_all}
use Rattle.octets.specs.Le.{Bytes}
use Rattle.octets.specs.Layout.{layout_bytes, layout_at, field_value}
use Rattle.octets.proofs.LeLaws.{number_lt}
use Rattle.octets.proofs.LayoutLaws.{layout-back, numbers-back}
use Rattle.octets.proofs.Parts.{part-back, part_length}
use Rattle.protocol.specs.Policy.{is_operation}
use Rattle.protocol.specs.Rows.{AllPass}
use Rattle.protocol.proofs.AllPass.{all-pass-append}
use Rattle.verifier_request.specs.Fields.{request_abi_of, request_algorithm_of, request_aux_length_of, request_header_length_of, request_last_zeros_of, request_magic_of, request_operation_of, request_profile_of, request_proof_length_of, request_reserved_of, request_slot_of, request_zeros_of}
use Rattle.verifier_request.specs.Reader.{request_magic, request_header_rows, request_field_rows, request_rows, request_fields_of}
use Rattle.verifier_request.specs.Reading.{RequestReading, RequestTyped, request_given, request_reading, request_head, request_lengths, request_bytes}
use Rattle.verifier_request.specs.Writer.{request_writer_limit_rows, request_writer_rows, request_total}
use Rattle.verifier_request.proofs.Form.{RequestSized, request-typed-sized, request_head_bytes, request_length_bytes, length-request-head, before-key, before-lengths, before-aux, before-proof, length-request}

-- what the rows say of a request that passes them; that it has at most 69,728 bytes follows
pub record RequestPasses (s : List ℕ) : Type 0 where
  pub header : 96 ≤ length s
  pub magic : request_magic_of s ≡ request_magic
  pub abi : request_abi_of s ≡ 1
  pub flags : request_reserved_of s ≡ 0
  pub header_len : request_header_length_of s ≡ 96
  pub operation : is_operation (request_operation_of s) ≡ true
  pub zeros : request_zeros_of s ≡ 0
  pub last_zeros : request_last_zeros_of s ≡ 0
  pub aux : request_aux_length_of s ≤ 4096
  pub proof : request_proof_length_of s ≤ 65536
  pub sum : 96 + request_aux_length_of s + request_proof_length_of s ≡ length s

pub request-passes : (s : List ℕ) → AllPass (request_rows s) → RequestPasses s
unfolding request_rows request_header_rows request_field_rows
request-passes s h =
    let k = h.1.1.1.1.1.1 in
    record {
      header = leb-true _ _ h.0;
      magic = eqb-true _ _ h.1.1.0;
      abi = eqb-true _ _ h.1.1.1.0;
      flags = eqb-true _ _ h.1.1.1.1.0;
      header_len = eqb-true _ _ h.1.1.1.1.1.0;
      operation = k.0;
      zeros = eqb-true _ _ k.1.0;
      last_zeros = eqb-true _ _ k.1.1.0;
      aux = leb-true _ _ k.1.1.1.0;
      proof = leb-true _ _ k.1.1.1.1.0;
      sum = eqb-true _ _ k.1.1.1.1.1.0;
    }

pub request-passes-hold : (s : List ℕ) → RequestPasses s → AllPass (request_rows s)
unfolding request_rows request_header_rows request_field_rows
request-passes-hold s z =
    let most : length s ≤ 69728 = omega arith in
    all-pass-append (request_header_rows s) (request_field_rows s)
    (le-leb _ _ z.header, (le-leb _ _ most, (eq-eqb _ _ z.magic, (eq-eqb _ _ z.abi, (eq-eqb _ _ z.flags, (eq-eqb _ _ z.header_len, tt))))))
    (z.operation, (eq-eqb _ _ z.zeros, (eq-eqb _ _ z.last_zeros, (le-leb _ _ z.aux, (le-leb _ _ z.proof, (eq-eqb _ _ z.sum, tt))))))

-- From the bytes to the reading and back.
module _ (s : List ℕ) (b : Bytes s) (z : RequestPasses s) where
  head-back : layout_bytes (request_head (request_algorithm_of s) (request_slot_of s) (request_operation_of s) (request_profile_of s)) ≡ take 16 s
  unfolding request_head layout_at
  head-back =
      rw (z.magic, z.abi, z.flags, z.header_len, z.zeros) at
      (layout-back (4 ∷ 1 ∷ 1 ∷ 2 ∷ 2 ∷ 2 ∷ 1 ∷ 1 ∷ 2 ∷ []) s 0 b (omega arith))

  lengths-back : layout_bytes (request_lengths (request_aux_length_of s) (request_proof_length_of s)) ≡ take 16 (drop 80 s)
  unfolding request_lengths layout_at
  lengths-back = rw z.last_zeros at (layout-back (4 ∷ 4 ∷ 8 ∷ []) s 80 b (omega arith))

  length-aux : length (take (request_aux_length_of s) (drop 96 s)) ≡ request_aux_length_of s
  length-aux = part_length s 96 (request_aux_length_of s) (omega arith)

  length-proof : length (take (request_proof_length_of s) (drop (96 + request_aux_length_of s) s)) ≡ request_proof_length_of s
  length-proof = part_length s (96 + request_aux_length_of s) (request_proof_length_of s) (omega arith)

  -- the request is the written form of its reading,
  pub request-back : request_bytes (request_reading s) ≡ s
  unfolding request_bytes request_reading request_given request_fields_of
  request-back =
      let a = request_aux_length_of s in
      let p = request_proof_length_of s in
      rw (
        length-aux,
        length-proof,
        head-back,
        lengths-back,
        ← take-add 16 32 s,
        ← take-add 48 32 s,
        ← take-add 80 16 s,
        ← take-add 96 a s,
        ← take-add (96 + a) p s,
      )
      (take_all (96 + a + p) s (omega arith))

  -- whose fields are of their types,
  pub request-typed : RequestTyped (request_reading s)
  unfolding request_reading request_given request_fields_of
  request-typed =
      record {
        algorithm = number_lt s 8 2 b;
        slot = number_lt s 10 2 b;
        operation = number_lt s 12 1 b;
        profile = number_lt s 13 1 b;
        digest = part_length s 16 32 (omega arith);
        key = part_length s 48 32 (omega arith);
      }

  -- which is within the writer's limits,
  pub request-reading-limits : AllPass (request_writer_rows (request_reading s))
  unfolding request_writer_rows request_writer_limit_rows request_reading request_given request_fields_of
  request-reading-limits = rw (length-aux, length-proof) (z.operation, (le-leb _ _ z.aux, (le-leb _ _ z.proof, tt)))

  -- and whose written form is as long as the request
  pub request-reading-total : request_total (request_reading s) ≡ length s
  unfolding request_total request_reading request_given request_fields_of
  request-reading-total = rw (length-aux, length-proof) z.sum

-- From a reading to the bytes and back, where the parts' lengths fit their fields.
module _ (r : RequestReading) (t : RequestTyped r) (small : request_total r < 2 ^ 32) where
  sized : RequestSized r
  sized = request-typed-sized r t

  head_read : layout_at (4 ∷ 1 ∷ 1 ∷ 2 ∷ 2 ∷ 2 ∷ 1 ∷ 1 ∷ 2 ∷ []) (request_bytes r) 0 ≡ request_head r.algorithm r.slot r.operation r.profile
  unfolding request_bytes request_head
  head_read =
      numbers-back (request_head r.algorithm r.slot r.operation r.profile) (request_bytes r) [] (r.digest ++ (r.key ++ (request_length_bytes r ++ (r.aux ++ r.proof)))) 0
      (omega arith)
      (simp append_assoc)
      refl

  lengths_read : layout_at (4 ∷ 4 ∷ 8 ∷ []) (request_bytes r) 80 ≡ request_lengths (length r.aux) (length r.proof)
  unfolding request_bytes request_lengths request_total
  lengths_read =
      numbers-back (request_lengths (length r.aux) (length r.proof)) (request_bytes r) (request_head_bytes r ++ r.digest ++ r.key) (r.aux ++ r.proof) 80
      (omega arith)
      (simp append_assoc)
      (before-lengths r sized)

  digest-read : take 32 (drop 16 (request_bytes r)) ≡ r.digest
  unfolding request_bytes
  digest-read =
      part-back (request_bytes r) (request_head_bytes r) r.digest (r.key ++ (request_length_bytes r ++ (r.aux ++ r.proof))) 16 32 (simp append_assoc) (length-request-head r) t.digest

  key-read : take 32 (drop 48 (request_bytes r)) ≡ r.key
  unfolding request_bytes
  key-read =
      part-back (request_bytes r) (request_head_bytes r ++ r.digest) r.key (request_length_bytes r ++ (r.aux ++ r.proof)) 48 32 (simp append_assoc) (before-key r sized) t.key

  aux-read : take (length r.aux) (drop 96 (request_bytes r)) ≡ r.aux
  unfolding request_bytes
  aux-read =
      part-back (request_bytes r) (request_head_bytes r ++ r.digest ++ r.key ++ request_length_bytes r) r.aux r.proof 96 _ (simp append_assoc) (before-aux r sized) refl

  proof-read : take (length r.proof) (drop (96 + length r.aux) (request_bytes r)) ≡ r.proof
  unfolding request_bytes
  proof-read =
      part-back (request_bytes r) (request_head_bytes r ++ r.digest ++ r.key ++ request_length_bytes r ++ r.aux) r.proof [] (96 + length r.aux) _
      (simp (append_assoc, append-nil))
      (before-proof r sized)
      refl

  -- the written form is read as the reading,
  pub request-written-read : request_reading (request_bytes r) ≡ r
  unfolding request_reading request_given request_fields_of request_head request_lengths layout_at
  request-written-read =
      let e₁ : request_algorithm_of (request_bytes r) ≡ r.algorithm = ap (field_value 4) head_read in
      let e₂ : request_slot_of (request_bytes r) ≡ r.slot = ap (field_value 5) head_read in
      let e₃ : request_operation_of (request_bytes r) ≡ r.operation = ap (field_value 6) head_read in
      let e₄ : request_profile_of (request_bytes r) ≡ r.profile = ap (field_value 7) head_read in
      let e₅ : request_aux_length_of (request_bytes r) ≡ length r.aux = ap (field_value 0) lengths_read in
      let e₆ : request_proof_length_of (request_bytes r) ≡ length r.proof = ap (field_value 1) lengths_read in
      rw (e₁, e₂, e₃, e₄, e₅, e₆, digest-read, key-read, aux-read, proof-read)

  -- and within the writer's limits it passes
  pub request-written-passes : AllPass (request_writer_rows r) → RequestPasses (request_bytes r)
  unfolding request_writer_rows request_writer_limit_rows request_total request_head request_lengths layout_at
  request-written-passes h =
      let a : length r.aux ≤ 4096 = leb-true _ _ h.1.0 in
      let p : length r.proof ≤ 65536 = leb-true _ _ h.1.1.0 in
      let n : length (request_bytes r) ≡ 96 + length r.aux + length r.proof = length-request r sized in
      let ea : request_aux_length_of (request_bytes r) ≡ length r.aux = ap (field_value 0) lengths_read in
      let ep : request_proof_length_of (request_bytes r) ≡ length r.proof = ap (field_value 1) lengths_read in
      let eo : request_operation_of (request_bytes r) ≡ r.operation = ap (field_value 6) head_read in
      record {
        header = omega arith;
        magic = ap (field_value 0) head_read;
        abi = ap (field_value 1) head_read;
        flags = ap (field_value 2) head_read;
        header_len = ap (field_value 3) head_read;
        operation = rw eo h.0;
        zeros = ap (field_value 8) head_read;
        last_zeros = ap (field_value 2) lengths_read;
        aux = omega arith;
        proof = omega arith;
        sum = omega arith;
      }
