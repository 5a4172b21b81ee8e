-- An accepted witness lock is the written form of its reading.
-- Assumes nothing.
use mathlib.Core.Path.{◌≡◌, refl, ap, ◌∙◌}
use mathlib.Core.Bool.{true}
use mathlib.Core.List.{List, [], ◌∷◌, ◌++◌, append_assoc, append-nil}
use Prim.Native.Nat.{ℕ, zero, suc, ◌+◌, ◌≤◌}
use native.Mathlib.Nat.{add_assoc}
use native.Mathlib.Omega.{arith}
use borrow.Author.Tests.{leb-true, eqb-true}
use lib.ListN.{length, take, drop}
use lib.Seq.{take-add, take_all}
use Rattle.octets.specs.Le.{Bytes}
use Rattle.octets.specs.Lists.{joined}
use Rattle.octets.specs.Layout.{layout_bytes, layout_at}
use Rattle.octets.proofs.LeLaws.{number_lt}
use Rattle.octets.proofs.LayoutLaws.{layout-back}
use Rattle.octets.proofs.Parts.{part_length, join}
use Rattle.protocol.specs.Policy.{is_operation}
use Rattle.protocol.specs.Rows.{AllPass}
use Rattle.protocol.proofs.AllPass.{all-pass-split}
use Rattle.account_witness.specs.Fields.{operation_of, proof_count_of, proof_length_at, proof_slot_at, witness_magic_of, witness_reserved_of, witness_sequence_of, witness_version_of}
use Rattle.account_witness.specs.Header.{witness_magic, witness_header_rows, witness_header_fields}
use Rattle.account_witness.specs.Walk.{proof_layout_rows, proof_at, proofs_layout_rows, witness_proof_rows}
use Rattle.account_witness.specs.Witness.{witness_rows}
use Rattle.account_witness.specs.Reading.{proof_fields, proof_bytes, proofs_bytes, witness_bytes, proof_given, proofs_of, witness_reading, ProofTyped, ProofsTyped, WitnessTyped}
use Rattle.account_witness.proofs.WalkLaws.{ProofHolds, proof-holds}

-- what the rows of a witness lock say
pub record WitnessHolds (s : List ℕ) : Type 0 where
  pub present : 16 ≤ length s
  pub most : length s ≤ 131072
  pub magic : witness_magic_of s ≡ witness_magic
  pub version : witness_version_of s ≡ 1
  pub operation : is_operation (operation_of s) ≡ true
  pub zeros : witness_reserved_of s ≡ 0
  pub count : proof_count_of s ≤ 16
  pub proofs : AllPass (witness_proof_rows s)

pub witness-holds : (s : List ℕ) → AllPass (witness_rows s) → WitnessHolds s
unfolding witness_rows witness_header_rows
witness-holds s h =
    record {
      present = leb-true _ _ h.0;
      most = leb-true _ _ h.1.0;
      magic = eqb-true _ _ h.1.1.0;
      version = eqb-true _ _ h.1.1.1.0;
      operation = h.1.1.1.1.0;
      zeros = eqb-true _ _ h.1.1.1.1.1.0;
      count = leb-true _ _ h.1.1.1.1.1.1.0;
      proofs = h.1.1.1.1.1.1.1;
    }

-- the rows of one proof, and of those behind it
pub proofs-split : (s : List ℕ) (n off least : ℕ) → AllPass (proofs_layout_rows s (suc n) off least)
    → ProofHolds s off least × AllPass (proofs_layout_rows s n (off + 8 + proof_length_at s off) (proof_slot_at s off + 1))
unfolding proofs_layout_rows
proofs-split s n off least h = let z = all-pass-split (proof_layout_rows s off least) _ h in (proof-holds s off least z.0, z.1)

pub proofs-end : (s : List ℕ) (off least : ℕ) → AllPass (proofs_layout_rows s 0 off least) → off ≡ length s
unfolding proofs_layout_rows
proofs-end s off least h = eqb-true _ _ h.0

pub length-proofs : (s : List ℕ) (n off : ℕ) → length (proofs_of s n off) ≡ n
unfolding proofs_of
length-proofs s zero off = refl
length-proofs s (suc n) off = ap suc (length-proofs s n _)

module _ (s : List ℕ) (b : Bytes s) where
  -- a proof is written back
  proof-back : (off least : ℕ) → ProofHolds s off least
      → proof_bytes (proof_given s (proof_at s off)) ≡ take (8 + proof_length_at s off) (drop off s)
  unfolding proof_bytes proof_fields proof_given proof_at layout_at
  proof-back off least z =
      let n = proof_length_at s off in
      let i = z.inside in
      let head = rw z.zeros at (simp add_assoc at (layout-back (2 ∷ 2 ∷ 4 ∷ []) s off b (omega arith))) in
      rw (part_length s (off + 8) n i, head, join s off 8 n (off + 8) refl)

  proof-typed : (off least : ℕ) → ProofHolds s off least → ProofTyped (proof_given s (proof_at s off))
  unfolding proof_given proof_at
  proof-typed off least z =
      record { slot = number_lt s off 2 b; len = rw (part_length s (off + 8) (proof_length_at s off) z.inside) (number_lt s (off + 4) 4 b) }

  -- n proofs are, to the end
  proofs-back : (n off least : ℕ) → AllPass (proofs_layout_rows s n off least) → take off s ++ proofs_bytes (proofs_of s n off) ≡ s
  unfolding proofs_of proofs_bytes joined
  proofs-back zero off least h =
      let e : off ≡ length s = proofs-end s off least h in
      append-nil (take off s) ∙ take_all off s (omega arith)
  proofs-back (suc n) off least h =
      let z = proofs-split s n off least h in
      rw (proof-back off least z.0, ← append_assoc, ← take-add off (8 + proof_length_at s off) s, ← add_assoc) (proofs-back n _ _ z.1)

  proofs-typed : (n off least : ℕ) → AllPass (proofs_layout_rows s n off least) → ProofsTyped (proofs_of s n off)
  unfolding proofs_of
  proofs-typed zero off least h = tt
  proofs-typed (suc n) off least h =
      let z = proofs-split s n off least h in
      (proof-typed off least z.0, proofs-typed n _ _ z.1)

  witness-header-back : WitnessHolds s → layout_bytes (witness_header_fields (operation_of s) (proof_count_of s) (witness_sequence_of s)) ≡ take 16 s
  unfolding witness_header_fields layout_at
  witness-header-back z = rw (z.magic, z.version, z.zeros) at (layout-back (4 ∷ 1 ∷ 1 ∷ 1 ∷ 1 ∷ 8 ∷ []) s 0 b z.present)

  -- the whole is
  pub witness-back : AllPass (witness_rows s) → witness_bytes (witness_reading s) ≡ s
  unfolding witness_bytes witness_reading
  witness-back h =
      let z = witness-holds s h in
      rw (length-proofs s (proof_count_of s) 16, witness-header-back z) (proofs-back (proof_count_of s) 16 0 z.proofs)

  pub witness-typed : AllPass (witness_rows s) → WitnessTyped (witness_reading s)
  unfolding witness_reading
  witness-typed h =
      record {
        operation = number_lt s 5 1 b;
        sequence = number_lt s 8 8 b;
        count = rw (length-proofs s (proof_count_of s) 16) (number_lt s 6 1 b);
        proofs = proofs-typed (proof_count_of s) 16 0 (witness-holds s h).proofs;
      }
