-- The witness lock and its proofs: 01, "Witness lock" and "Proof", computed from the definitions.
use Rattle.std.specs.Prelude.{ℕ, zero, suc, ◌+◌, ◌≡◌, List, [], ◌∷◌, ◌++◌, map, length, replicate}
use Rattle.protocol.specs.Rows.{check_number}
use Rattle.octets.specs.Lists.{tabulate}
use Rattle.account_witness.specs.Header.{read_witness_header}
use Rattle.account_witness.specs.Reading.{witness_reading}
use Rattle.account_witness.specs.Witness.{read_witness}

-- a header of 16 bytes, `CKA` and a letter: version, operation, count, byte 7
unfoldable pub witness_front : ℕ → ℕ → ℕ → ℕ → ℕ → List ℕ
witness_front letter version operation count reserved =
    (67 ∷ 75 ∷ 65 ∷ letter ∷ version ∷ operation ∷ count ∷ reserved ∷ []) ++ replicate 8 0

-- a proof of zeros: slot, bytes 2 and 3, length
unfoldable pub proof_with : ℕ → ℕ → ℕ → ℕ → List ℕ
proof_with slot second third len = (slot ∷ 0 ∷ second ∷ third ∷ len ∷ 0 ∷ 0 ∷ 0 ∷ []) ++ replicate len 0

-- proofs of one byte at the slots 0 to n - 1
unfoldable pub proofs_up_to : ℕ → List ℕ
proofs_up_to zero = []
proofs_up_to (suc n) = proofs_up_to n ++ proof_with n 0 0 1

-- the numbers of the two readers
abbrev head_number : List ℕ → ℕ
head_number s = check_number (read_witness_header s)

abbrev read_number : List ℕ → ℕ
read_number s = check_number (read_witness s)

abbrev by_letter : ℕ → ℕ
by_letter letter = head_number (witness_front letter 1 1 0 0)

abbrev by_version : ℕ → ℕ
by_version version = head_number (witness_front 87 version 1 0 0)

abbrev by_operation : ℕ → ℕ
by_operation operation = head_number (witness_front 87 1 operation 0 0)

abbrev by_byte7 : ℕ → ℕ
by_byte7 reserved = head_number (witness_front 87 1 1 0 reserved)

abbrev head_by_count : ℕ → ℕ
head_by_count count = head_number (witness_front 87 1 1 count 0)

abbrev by_count : ℕ → ℕ
by_count count = read_number (witness_front 87 1 1 count 0 ++ proofs_up_to count)

-- by the one proof, and by the second slot, behind slot 5
abbrev by_proof : List ℕ → ℕ
by_proof proof = read_number (witness_front 87 1 1 1 0 ++ proof)

abbrev by_slot : ℕ → ℕ
by_slot slot = read_number (witness_front 87 1 1 2 0 ++ proof_with 5 0 0 1 ++ proof_with slot 0 0 1)

-- a witness lock of two proofs whose bytes differ, so that each field is read at its place
unfoldable pub witness_places : List ℕ
witness_places =
    (67 ∷ 75 ∷ 65 ∷ 87 ∷ 1 ∷ 3 ∷ 2 ∷ 0 ∷ []) ++ tabulate (λ i. i + 1) 8
    ++ (9 ∷ 10 ∷ 0 ∷ 0 ∷ 1 ∷ 0 ∷ 0 ∷ 0 ∷ 11 ∷ [])
    ++ (12 ∷ 13 ∷ 0 ∷ 0 ∷ 2 ∷ 0 ∷ 0 ∷ 0 ∷ 14 ∷ 15 ∷ [])

pub record WitnessLimits : Type 0 where
  -- "16 to 131,072 bytes"; "Every fault is 22, version too."
  pub of-15 : (s : List ℕ) → length s ≡ 15 → head_number s ≡ 22
  pub of-16 : head_number (witness_front 87 1 1 0 0) ≡ 0
  pub of-131072 : (rest : List ℕ) → length rest ≡ 131056 → head_number (witness_front 87 1 1 0 0 ++ rest) ≡ 0
  pub of-131073 : (rest : List ℕ) → length rest ≡ 131057 → head_number (witness_front 87 1 1 0 0 ++ rest) ≡ 22
  -- "`CKAW`, version 1, operation 1 to 3, proof count, 0"
  pub letters : map by_letter (83 ∷ 87 ∷ []) ≡ 22 ∷ 0 ∷ []
  pub versions : map by_version (0 ∷ 1 ∷ 2 ∷ []) ≡ 22 ∷ 0 ∷ 22 ∷ []
  pub operations : map by_operation (0 ∷ 1 ∷ 2 ∷ 3 ∷ 4 ∷ []) ≡ 22 ∷ 0 ∷ 0 ∷ 0 ∷ 22 ∷ []
  pub byte-7 : map by_byte7 (0 ∷ 1 ∷ []) ≡ 0 ∷ 22 ∷ []
  -- "Counts 17 to 255 pass `parse_witness_header`; `run` refuses them with 22"
  pub header-counts : map head_by_count (16 ∷ 17 ∷ 255 ∷ []) ≡ 0 ∷ 0 ∷ 0 ∷ []
  pub counts : map by_count (0 ∷ 1 ∷ 16 ∷ 17 ∷ []) ≡ 0 ∷ 0 ∷ 0 ∷ 22 ∷ []
  -- "slot (u16), two zero bytes, length (u32, not 0), bytes"
  pub zeros : by_proof (proof_with 0 0 0 1) ∷ by_proof (proof_with 0 1 0 1) ∷ by_proof (proof_with 0 0 1 1) ∷ [] ≡ 0 ∷ 22 ∷ 22 ∷ []
  pub empty : by_proof (proof_with 0 0 0 0) ≡ 22
  pub high-length : by_proof (0 ∷ 0 ∷ 0 ∷ 0 ∷ 1 ∷ 0 ∷ 0 ∷ 1 ∷ 0 ∷ []) ≡ 22
  -- "slots rise strictly; no byte follows the last"
  pub slots : map by_slot (4 ∷ 5 ∷ 6 ∷ []) ≡ 22 ∷ 22 ∷ 0 ∷ []
  pub byte-behind : by_proof (proof_with 0 0 0 1 ++ (0 ∷ [])) ≡ 22
  -- each field at its place, the sequence at bytes 8 to 15
  pub places-read : read_number witness_places ≡ 0
  pub places : witness_reading witness_places ≡ record { operation = 3; sequence = 0x0807060504030201; proofs = record { slot = 0x0a09; bytes = 11 ∷ [] } ∷ record { slot = 0x0d0c; bytes = 14 ∷ 15 ∷ [] } ∷ [] }
