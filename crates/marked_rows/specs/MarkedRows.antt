-- 01, "Marked rows": those marked P, as rows of one theorem about the definitions. A row that names a length is for every list of
-- that length.
use Rattle.std.specs.Prelude.{ℕ, ◌≡◌, List, [], ◌∷◌, ◌++◌, length, replicate, Ok}
use Rattle.protocol.specs.Rows.{check_number}
use Rattle.molecule.specs.Canonical.{canonical_written, canonical_stored}
use Rattle.protocol.specs.Args.{read_args}
use Rattle.account_state.specs.State.{read_state}
use Rattle.account_witness.specs.Witness.{read_witness}
use Rattle.public_key_proof.specs.Reader.{read_public_key_proof}

-- the smallest state, of 113 bytes: thresholds spend, 1, 0, and one entry of weight 1 and capabilities 3 whose aux is one byte
unfoldable pub smallest_state : ℕ → ℕ → ℕ → ℕ → List ℕ
smallest_state version flags spend since =
    (67 ∷ 75 ∷ 65 ∷ 83 ∷ version ∷ flags ∷ 32 ∷ 0 ∷ [])
    ++ replicate 8 0
    ++ (spend ∷ 0 ∷ 1 ∷ 0 ∷ 0 ∷ 0 ∷ 1 ∷ 0 ∷ since ∷ [])
    ++ replicate 7 0
    ++ (81 ∷ 0 ∷ 0 ∷ 0 ∷ 1 ∷ 0 ∷ 3 ∷ 0 ∷ 1 ∷ 0 ∷ 0 ∷ 1 ∷ [])
    ++ replicate 32 0
    ++ (32 ∷ 0 ∷ 1 ∷ 0 ∷ [])
    ++ replicate 32 0
    ++ (1 ∷ [])

-- a witness lock of 16 bytes, with no proof
unfoldable pub empty_witness : ℕ → List ℕ
empty_witness operation = (67 ∷ 75 ∷ 65 ∷ 87 ∷ 1 ∷ operation ∷ 0 ∷ 0 ∷ []) ++ replicate 8 0

-- a witness whose lock is the byte aa, and one whose lock is empty; no other field
unfoldable pub lock_of_one : List ℕ
lock_of_one =
    0x15 ∷ 0 ∷ 0 ∷ 0 ∷ 0x10 ∷ 0 ∷ 0 ∷ 0 ∷ 0x15 ∷ 0 ∷ 0 ∷ 0 ∷ 0x15 ∷ 0 ∷ 0 ∷ 0 ∷ 0x01 ∷ 0 ∷ 0 ∷ 0 ∷ 0xaa ∷ []

unfoldable pub lock_of_none : List ℕ
lock_of_none = 0x14 ∷ 0 ∷ 0 ∷ 0 ∷ 0x10 ∷ 0 ∷ 0 ∷ 0 ∷ 0x14 ∷ 0 ∷ 0 ∷ 0 ∷ 0x14 ∷ 0 ∷ 0 ∷ 0 ∷ 0 ∷ 0 ∷ 0 ∷ 0 ∷ []

pub record MarkedRows : Type 0 where
  -- "args of 32 bytes 20, of 33 starting 0x02 32"
  pub args-of-32 : (s : List ℕ) → length s ≡ 32 → check_number (read_args s) ≡ 20
  pub args-version : (id : List ℕ) → length id ≡ 32 → check_number (read_args (2 ∷ id)) ≡ 32
  -- "state of 31 bytes 21"
  pub state-of-31 : (s : List ℕ) → length s ≡ 31 → check_number (read_state s) ≡ 21
  -- "smallest state with thresholds 1, 1, 0 and weight 1, capabilities 3, accepted"
  pub smallest : check_number (read_state (smallest_state 1 0 1 0)) ≡ 0
  -- "The smallest state has 113 bytes."
  pub smallest-length : length (smallest_state 1 0 1 0) ≡ 113
  -- "spend threshold 2 there 38; version 2 32; recovery_since 1 there 21; flags 4 there 21"
  pub spend-2 : check_number (read_state (smallest_state 1 0 2 0)) ≡ 38
  pub version-2 : check_number (read_state (smallest_state 2 0 1 0)) ≡ 32
  pub since-1 : check_number (read_state (smallest_state 1 0 1 1)) ≡ 21
  pub flags-4 : check_number (read_state (smallest_state 1 4 1 0)) ≡ 21
  -- "proof `01 01 00 01 00 aa bb` read, without `bb` 36"
  pub proof-read : read_public_key_proof (0x01 ∷ 0x01 ∷ 0x00 ∷ 0x01 ∷ 0x00 ∷ 0xaa ∷ 0xbb ∷ []) ≡ Ok (record { public_key = 5; public_key_len = 1; signature = 6; signature_len = 1 })
  pub proof-short : check_number (read_public_key_proof (0x01 ∷ 0x01 ∷ 0x00 ∷ 0x01 ∷ 0x00 ∷ 0xaa ∷ [])) ≡ 36
  -- "16-byte witness lock with count 0 read, operation 4 22"
  pub witness-empty : check_number (read_witness (empty_witness 1)) ≡ 0
  pub witness-operation : check_number (read_witness (empty_witness 4)) ≡ 22
  -- "witness `15 00 00 00 10 00 00 00 15 00 00 00 15 00 00 00 01 00 00 00 aa` becomes
  -- `14 00 00 00 10 00 00 00 14 00 00 00 14 00 00 00 00 00 00 00`"
  pub canonical : canonical_written lock_of_one (replicate 20 0xff) ≡ Ok 20
  pub canonical-bytes : canonical_stored lock_of_one (replicate 20 0xff) ≡ lock_of_none
