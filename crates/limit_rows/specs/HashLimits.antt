-- CKB's hash and what the sighash and the digest are made of: 01, main.rs, 02, change 1, computed from the definitions.
use Rattle.std.specs.Prelude.{ℕ, ◌+◌, ◌≡◌, List, [], ◌∷◌, ◌++◌, replicate, Ok}
use Rattle.octets.specs.Lists.{tabulate}
use Rattle.protocol.specs.Rows.{decide, check_number}
use Rattle.blake2b.specs.State.{ckb_hash}
use Rattle.authorization.specs.Digest.{digest_input}
use Rattle.authorization.specs.Sighash.{sighash_input}
use Rattle.cell_hashes.specs.Hashes.{cell_hash_rows}

-- 01: "32 bytes out, no key, parameter block with the 16 personal bytes `ckb-default-hash`": the hash of no bytes, by python3's hashlib
unfoldable pub empty_hash : List ℕ
empty_hash =
    0x44 ∷ 0xf4 ∷ 0xc6 ∷ 0x97 ∷ 0x44 ∷ 0xd5 ∷ 0xf8 ∷ 0xc5 ∷ 0x5d ∷ 0x64 ∷ 0x20 ∷ 0x62 ∷ 0x94 ∷ 0x9d ∷ 0xca ∷ 0xe4
    ∷ 0x9b ∷ 0xc4 ∷ 0xe7 ∷ 0xef ∷ 0x43 ∷ 0xd3 ∷ 0x88 ∷ 0xc5 ∷ 0xa1 ∷ 0x2f ∷ 0x42 ∷ 0xb5 ∷ 0x63 ∷ 0x3d ∷ 0x16 ∷ 0x3e ∷ []

-- a cell's rows, by its type script and its data, where each of its hashes is that of no bytes
abbrev cell_number : List ℕ → List ℕ → ℕ
cell_number script content =
    check_number (decide (Ok _) (cell_hash_rows (record { type_hash = empty_hash; data_hash = empty_hash; type_script = script; content = content })))

pub record HashLimits : Type 0 where
  pub ckb-empty : ckb_hash [] ≡ empty_hash
  -- two blocks, the second of one byte
  pub ckb-129 : ckb_hash (tabulate (λ i. i) 129) ≡
      0x85 ∷ 0xd9 ∷ 0xde ∷ 0x2d ∷ 0xa9 ∷ 0xc9 ∷ 0x35 ∷ 0x0a ∷ 0x6b ∷ 0x6c ∷ 0x71 ∷ 0x21 ∷ 0x60 ∷ 0x14 ∷ 0x2a ∷ 0xfc
      ∷ 0xfa ∷ 0x6f ∷ 0x2d ∷ 0x30 ∷ 0x72 ∷ 0xc1 ∷ 0x6d ∷ 0xc0 ∷ 0xfd ∷ 0xd8 ∷ 0xd2 ∷ 0xb4 ∷ 0x72 ∷ 0x18 ∷ 0xb4 ∷ 0x81 ∷ []
  -- 02, change 1: "the data hash of each cell whose data isn't empty"; 40
  pub no-data : cell_number [] [] ≡ 0
  pub type-differs : cell_number (7 ∷ []) [] ≡ 40
  pub data-differs : cell_number [] (7 ∷ []) ≡ 40
  -- "Digest input: `CKB_ACCOUNT_LOCK_V1`, operation, account id, sequence (u64), hash of the state, sighash."
  pub digest-input : digest_input 3 (replicate 32 7) 0x0807060504030201 [] (replicate 32 9) ≡
      (67 ∷ 75 ∷ 66 ∷ 95 ∷ 65 ∷ 67 ∷ 67 ∷ 79 ∷ 85 ∷ 78 ∷ 84 ∷ 95 ∷ 76 ∷ 79 ∷ 67 ∷ 75 ∷ 95 ∷ 86 ∷ 49 ∷ 3 ∷ [])
      ++ replicate 32 7 ++ tabulate (λ i. i + 1) 8 ++ empty_hash ++ replicate 32 9
  -- "Each witness is preceded by its length as u64."
  pub sighash-input : sighash_input (1 ∷ []) (2 ∷ 3 ∷ []) ((4 ∷ []) ∷ [] ∷ []) ≡
      1 ∷ 2 ∷ 0 ∷ 0 ∷ 0 ∷ 0 ∷ 0 ∷ 0 ∷ 0 ∷ 2 ∷ 3 ∷ 1 ∷ 0 ∷ 0 ∷ 0 ∷ 0 ∷ 0 ∷ 0 ∷ 0 ∷ 4 ∷ replicate 8 0
