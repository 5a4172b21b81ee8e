-- The reader and the writer of a public-key proof are inverse: an accepted proof is the written form of its reading, and the
-- written form of a reading within the writer's limits is accepted and read as that reading.
-- Assumes nothing.
use mathlib.Core.Path.{◌≡◌, refl, sym, ap, ◌∙◌}
use mathlib.Core.List.{List, [], ◌∷◌, ◌++◌, append_assoc, append-nil}
use Prim.Native.Nat.{ℕ, ◌+◌, ◌%◌, ◌^◌, ◌≤◌, ◌<◌}
use native.Mathlib.Omega.{arith}
use borrow.Author.Tests.{leb-true, eqb-true, ltb-true, le-leb, eq-eqb, lt-ltb}
use lib.ListN.{length, take, drop, length-append}
use lib.Seq.{take-add, take_all}
use Rattle.octets.specs.Le.{Bytes, to_le, from_le, number_at}
use Rattle.octets.specs.Layout.{layout_bytes, layout_at, field_value}
use Rattle.octets.proofs.LeLaws.{length_to, from-to, number_lt}
use Rattle.octets.proofs.LayoutLaws.{layout-back, numbers-back}
use Rattle.octets.proofs.Parts.{part-back, part_length}
use Rattle.protocol.specs.Rows.{AllPass}
use Rattle.public_key_proof.specs.Reader.{public_key_proof_rows, public_key_proof_places, public_key_length_of, public_key_proof_version_of, signature_length_of}
use Rattle.public_key_proof.specs.Reading.{PublicKeyProofReading, public_key_proof_given, public_key_proof_reading, public_key_proof_head, public_key_proof_bytes}
use Rattle.public_key_proof.specs.Writer.{public_key_proof_writer_rows, public_key_proof_total}
use Rattle.public_key_proof.proofs.Form.{public_key_proof_head_bytes, length-public-key-proof-head, before-signature, length-public-key-proof}

-- what the rows say of a proof that passes them
pub record PublicKeyProofPasses (s : List ℕ) : Type 0 where
  pub header : 5 ≤ length s
  pub version : public_key_proof_version_of s ≡ 1
  pub key : 0 < public_key_length_of s
  pub signature : 0 < signature_length_of s
  pub sum : 5 + public_key_length_of s + signature_length_of s ≡ length s

pub public-key-proof-passes : (s : List ℕ) → AllPass (public_key_proof_rows s) → PublicKeyProofPasses s
unfolding public_key_proof_rows
public-key-proof-passes s h =
    record {
      header = leb-true _ _ h.0;
      version = eqb-true _ _ h.1.0;
      key = ltb-true _ _ h.1.1.0;
      signature = ltb-true _ _ h.1.1.1.0;
      sum = eqb-true _ _ h.1.1.1.1.0;
    }

pub public-key-proof-passes-hold : (s : List ℕ) → PublicKeyProofPasses s → AllPass (public_key_proof_rows s)
unfolding public_key_proof_rows
public-key-proof-passes-hold s z =
    (le-leb _ _ z.header, (eq-eqb _ _ z.version, (lt-ltb _ _ z.key, (lt-ltb _ _ z.signature, (eq-eqb _ _ z.sum, tt)))))

-- From the bytes to the reading and back.
module _ (s : List ℕ) (b : Bytes s) (z : PublicKeyProofPasses s) where
  length-key : length (take (public_key_length_of s) (drop 5 s)) ≡ public_key_length_of s
  length-key = part_length s 5 (public_key_length_of s) (omega arith)

  length-signature : length (take (signature_length_of s) (drop (5 + public_key_length_of s) s)) ≡ signature_length_of s
  length-signature = part_length s (5 + public_key_length_of s) (signature_length_of s) (omega arith)

  head-back : layout_bytes (public_key_proof_head (public_key_proof_reading s)) ≡ take 5 s
  unfolding public_key_proof_head public_key_proof_reading public_key_proof_given public_key_proof_places layout_at
  head-back = rw (length-key, length-signature) (rw z.version at (layout-back (1 ∷ 2 ∷ 2 ∷ []) s 0 b (omega arith)))

  -- the proof is the written form of its reading,
  pub public-key-proof-back : public_key_proof_bytes (public_key_proof_reading s) ≡ s
  unfolding public_key_proof_bytes public_key_proof_reading public_key_proof_given public_key_proof_places
  public-key-proof-back =
      let k = public_key_length_of s in
      let g = signature_length_of s in
      rw (head-back, ← take-add 5 k s, ← take-add (5 + k) g s) (take_all (5 + k + g) s (omega arith))

  -- which is within the writer's limits,
  pub public-key-proof-reading-limits : AllPass (public_key_proof_writer_rows (public_key_proof_reading s))
  unfolding public_key_proof_writer_rows public_key_proof_reading public_key_proof_given public_key_proof_places
  public-key-proof-reading-limits =
      let k : public_key_length_of s < 65536 = number_lt s 1 2 b in
      let g : signature_length_of s < 65536 = number_lt s 3 2 b in
      rw (length-key, length-signature)
      (lt-ltb _ _ z.key, (lt-ltb _ _ z.signature, (le-leb (public_key_length_of s) 65535 (omega arith), (le-leb (signature_length_of s) 65535 (omega arith), tt))))

  -- and whose written form is as long as the proof
  pub public-key-proof-reading-total : public_key_proof_total (public_key_proof_reading s) ≡ length s
  unfolding public_key_proof_total public_key_proof_reading public_key_proof_given public_key_proof_places
  public-key-proof-reading-total = rw (length-key, length-signature) z.sum

-- From a reading to the bytes and back, where the parts' lengths fit their fields.
module _ (r : PublicKeyProofReading) (k : length r.public_key < 65536) (g : length r.signature < 65536) where
  head_read : layout_at (1 ∷ 2 ∷ 2 ∷ []) (public_key_proof_bytes r) 0 ≡ public_key_proof_head r
  unfolding public_key_proof_bytes public_key_proof_head
  head_read = numbers-back (public_key_proof_head r) (public_key_proof_bytes r) [] (r.public_key ++ r.signature) 0 (omega arith) (simp append_assoc) refl

  key-read : take (length r.public_key) (drop 5 (public_key_proof_bytes r)) ≡ r.public_key
  unfolding public_key_proof_bytes
  key-read = part-back (public_key_proof_bytes r) (public_key_proof_head_bytes r) r.public_key r.signature 5 _ (simp append_assoc) (length-public-key-proof-head r) refl

  signature-read : take (length r.signature) (drop (5 + length r.public_key) (public_key_proof_bytes r)) ≡ r.signature
  unfolding public_key_proof_bytes
  signature-read =
      part-back (public_key_proof_bytes r) (public_key_proof_head_bytes r ++ r.public_key) r.signature [] (5 + length r.public_key) _ (simp (append_assoc, append-nil)) (before-signature r) refl

  -- the written form is read as the reading,
  pub public-key-proof-written-read : public_key_proof_reading (public_key_proof_bytes r) ≡ r
  unfolding public_key_proof_reading public_key_proof_given public_key_proof_places public_key_proof_head layout_at
  public-key-proof-written-read =
      let e₁ : public_key_length_of (public_key_proof_bytes r) ≡ length r.public_key = ap (field_value 1) head_read in
      let e₂ : signature_length_of (public_key_proof_bytes r) ≡ length r.signature = ap (field_value 2) head_read in
      rw (e₁, e₂, key-read, signature-read)

  -- and within the writer's limits it passes
  pub public-key-proof-written-passes : AllPass (public_key_proof_writer_rows r) → PublicKeyProofPasses (public_key_proof_bytes r)
  unfolding public_key_proof_writer_rows public_key_proof_total public_key_proof_head layout_at
  public-key-proof-written-passes h =
      let n : length (public_key_proof_bytes r) ≡ 5 + length r.public_key + length r.signature = length-public-key-proof r in
      let a : 0 < length r.public_key = ltb-true _ _ h.0 in
      let c : 0 < length r.signature = ltb-true _ _ h.1.0 in
      let e₁ : public_key_length_of (public_key_proof_bytes r) ≡ length r.public_key = ap (field_value 1) head_read in
      let e₂ : signature_length_of (public_key_proof_bytes r) ≡ length r.signature = ap (field_value 2) head_read in
      record { header = omega arith; version = ap (field_value 0) head_read; key = omega arith; signature = omega arith; sum = omega arith }

-- a number of the written form, cut to its field
number_cut : (s p t : List ℕ) (at w n : ℕ) → s ≡ p ++ (to_le w n ++ t) → length p ≡ at → number_at s at w ≡ n % 256 ^ w
unfolding number_at
number_cut s p t at w n e l = ap from_le (part-back s p (to_le w n) t at w e l (length_to w n)) ∙ from-to w n

-- lengths that were cut would not add up to the whole
pub lengths-fit : (r : PublicKeyProofReading) (s : List ℕ) → PublicKeyProofPasses s → public_key_proof_bytes r ≡ s → (length r.public_key < 65536) × (length r.signature < 65536)
unfolding public_key_proof_bytes public_key_proof_head layout_bytes public_key_proof_total
lengths-fit r s z e =
    let k : ℕ = length r.public_key in
    let g : ℕ = length r.signature in
    let parts = r.public_key ++ r.signature in
    let a : public_key_length_of s ≡ k % 65536 = number_cut s (to_le 1 1) (to_le 2 g ++ parts) 1 2 k (sym e ∙ simp append_assoc) (length_to 1 1) in
    let c : signature_length_of s ≡ g % 65536 = number_cut s (to_le 1 1 ++ to_le 2 k) parts 3 2 g (sym e ∙ simp append_assoc) (length-append (to_le 1 1) (to_le 2 k) ∙ rw (length_to 1 1, length_to 2 k)) in
    let n : length s ≡ 5 + k + g = sym (ap length e) ∙ length-public-key-proof r in
    omega arith
