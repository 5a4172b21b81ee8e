-- The account state: 01, "State header" and "Each entry", 02, changes 6 and 10, computed from the definitions.
use Rattle.protocol.specs.Rows.{check_number}
use Rattle.std.specs.Prelude.{ℕ, ◌+◌, ◌≡◌, List, [], ◌∷◌, ◌++◌, map, length, replicate, Ok}
use Rattle.octets.specs.Le.{to_le}
use Rattle.octets.specs.Lists.{tabulate}
use Rattle.account_state.specs.Reading.{entry_of, entries_of}
use Rattle.account_state.specs.State.{read_state_header, read_state}

-- a header of 32 bytes, `CKA` and a letter: version, flags, header length, spend, rotate and recovery thresholds, count, byte 23,
-- recovery_since
unfoldable pub state_front : ℕ → ℕ → ℕ → ℕ → ℕ → ℕ → ℕ → ℕ → ℕ → ℕ → List ℕ
state_front letter version flags len spend rotate recovery count reserved since =
    (67 ∷ 75 ∷ 65 ∷ letter ∷ version ∷ flags ∷ len ∷ 0 ∷ [])
    ++ replicate 8 0
    ++ (spend ∷ 0 ∷ rotate ∷ 0 ∷ recovery ∷ 0 ∷ count ∷ reserved ∷ since ∷ [])
    ++ replicate 7 0

-- an entry of zeros beside its length, slot, algorithm, capabilities, weight, hash type, ABI and the lengths of key and aux
unfoldable pub entry_with : ℕ → ℕ → ℕ → ℕ → ℕ → ℕ → ℕ → ℕ → ℕ → List ℕ
entry_with len slot algorithm capabilities weight hash_type abi key aux =
    to_le 2 len
    ++ to_le 2 slot
    ++ to_le 2 algorithm
    ++ to_le 2 capabilities
    ++ to_le 2 weight
    ++ (hash_type ∷ abi ∷ [])
    ++ replicate 32 0
    ++ to_le 2 key
    ++ to_le 2 aux
    ++ replicate key 0
    ++ replicate aux 0

-- the numbers of the two readers
abbrev head_number : List ℕ → ℕ
head_number s = check_number (read_state_header s)

abbrev read_number : List ℕ → ℕ
read_number s = check_number (read_state s)

-- a header by its letter, version, flags, header length, byte 23 or count, the others as in the smallest state
abbrev by_letter : ℕ → ℕ
by_letter letter = head_number (state_front letter 1 0 32 1 1 0 1 0 0)

abbrev by_version : ℕ → ℕ
by_version version = head_number (state_front 83 version 0 32 1 1 0 1 0 0)

abbrev by_flags : ℕ → ℕ
by_flags flags = head_number (state_front 83 1 flags 32 1 1 0 1 0 0)

abbrev by_header_length : ℕ → ℕ
by_header_length len = head_number (state_front 83 1 0 len 1 1 0 1 0 0)

abbrev by_byte23 : ℕ → ℕ
by_byte23 reserved = head_number (state_front 83 1 0 32 1 1 0 1 reserved 0)

abbrev by_count : ℕ → ℕ
by_count count = head_number (state_front 83 1 0 32 1 1 0 count 0 0)

-- the smallest state by its flags and capabilities (thresholds 1, 1, 0), and by those, its thresholds and recovery_since
abbrev by_policy : ℕ → ℕ → ℕ → ℕ → ℕ → ℕ → ℕ
by_policy flags capabilities spend rotate recovery since =
    read_number (state_front 83 1 flags 32 spend rotate recovery 1 0 since ++ entry_with 81 0 0x0001 capabilities 1 0 1 32 1)

-- by one entry
abbrev by_entry : List ℕ → ℕ
by_entry entry = read_number (state_front 83 1 0 32 1 1 0 1 0 0 ++ entry)

abbrev by_capabilities : ℕ → ℕ
by_capabilities capabilities = by_entry (entry_with 81 0 0x0001 capabilities 1 0 1 32 1)

abbrev by_algorithm : ℕ → ℕ
by_algorithm algorithm = by_entry (entry_with 81 0 algorithm 0x0003 1 0 1 32 1)

abbrev by_weight : ℕ → ℕ
by_weight weight = by_entry (entry_with 81 0 0x0001 0x0003 weight 0 1 32 1)

abbrev by_hash_type : ℕ → ℕ
by_hash_type hash_type = by_entry (entry_with 81 0 0x0001 0x0003 1 hash_type 1 32 1)

abbrev by_abi : ℕ → ℕ
by_abi abi = by_entry (entry_with 81 0 0x0001 0x0003 1 0 abi 32 1)

abbrev by_entry_length : ℕ → ℕ
by_entry_length len = by_entry (entry_with len 0 0x0001 0x0003 1 0 1 32 1)

abbrev by_key : ℕ → ℕ
by_key key = by_entry (entry_with (49 + key) 0 0x0001 0x0003 1 0 1 key 1)

abbrev by_aux : ℕ → ℕ
by_aux aux = by_entry (entry_with (80 + aux) 0 0x0001 0x0003 1 0 1 32 aux)

-- by the second slot, behind slot 5
abbrev by_slot : ℕ → ℕ
by_slot slot =
    read_number (state_front 83 1 0 32 1 1 0 2 0 0 ++ entry_with 81 5 0x0001 0x0003 1 0 1 32 1 ++ entry_with 81 slot 0x0001 0x0003 1 0 1 32 1)

-- by the thresholds of four entries, each with one capability, of weights 1, 2, 3 and 4
abbrev by_thresholds : ℕ → ℕ → ℕ → ℕ
by_thresholds spend rotate recovery =
    read_number
    (state_front 83 1 3 32 spend rotate recovery 4 0 0
    ++ entry_with 81 0 0x0001 0x0001 1 0 1 32 1
    ++ entry_with 81 1 0x0001 0x0002 2 0 1 32 1
    ++ entry_with 81 2 0x0001 0x0004 3 0 1 32 1
    ++ entry_with 81 3 0x0001 0x0008 4 0 1 32 1)

-- a header and two entries whose bytes differ, so that each field is read at its place
unfoldable pub head_places : List ℕ
head_places = (67 ∷ 75 ∷ 65 ∷ 83 ∷ 1 ∷ 3 ∷ 32 ∷ 0 ∷ []) ++ tabulate (λ i. i + 1) 14 ++ (2 ∷ 0 ∷ []) ++ tabulate (λ i. i + 15) 8

unfoldable pub entry_places : List ℕ
entry_places =
    (83 ∷ 0 ∷ []) ++ tabulate (λ i. i + 31) 10 ++ tabulate (λ i. i + 41) 32 ++ (32 ∷ 0 ∷ 3 ∷ 0 ∷ []) ++ tabulate (λ i. i + 73) 35

pub record StateLimits : Type 0 where
  -- "length 32 to 16,384 (21)": 31 bytes are a marked row
  pub of-32 : head_number (state_front 83 1 0 32 1 1 0 1 0 0) ≡ 0
  pub of-16384 : (rest : List ℕ) → length rest ≡ 16352 → head_number (state_front 83 1 0 32 1 1 0 1 0 0 ++ rest) ≡ 0
  pub of-16385 : (rest : List ℕ) → length rest ≡ 16353 → head_number (state_front 83 1 0 32 1 1 0 1 0 0 ++ rest) ≡ 21
  -- "magic (21)": `CKAS`, `CKAW`; "version (32)"
  pub letters : map by_letter (83 ∷ 87 ∷ []) ≡ 0 ∷ 21 ∷ []
  pub versions : map by_version (0 ∷ 1 ∷ 2 ∷ []) ≡ 32 ∷ 0 ∷ 32 ∷ []
  -- "flags above 3 (21), header length (21), byte 23 (21), count 1 to 16 (21)"
  pub flags : map by_flags (0 ∷ 1 ∷ 2 ∷ 3 ∷ 4 ∷ 8 ∷ []) ≡ 0 ∷ 0 ∷ 0 ∷ 0 ∷ 21 ∷ 21 ∷ []
  pub header-length : map by_header_length (31 ∷ 32 ∷ 33 ∷ []) ≡ 21 ∷ 0 ∷ 21 ∷ []
  pub byte-23 : map by_byte23 (0 ∷ 1 ∷ []) ≡ 0 ∷ 21 ∷ []
  pub counts : map by_count (0 ∷ 1 ∷ 16 ∷ 17 ∷ []) ≡ 21 ∷ 0 ∷ 0 ∷ 21 ∷ []
  -- 02, change 10: "States with flag 2 or capability 0x0008 are still read"
  pub flag-2 : by_policy 2 0x0003 1 1 0 0 ≡ 0
  pub flags-3 : by_policy 3 0x0007 1 1 1 0 ≡ 0
  -- "capabilities at most 0x000F"
  pub capabilities : map by_capabilities (0x0003 ∷ 0x0007 ∷ 0x000b ∷ 0x000f ∷ 0x0013 ∷ []) ≡ 0 ∷ 0 ∷ 0 ∷ 0 ∷ 21 ∷ []
  -- "spend or rotate threshold 0 or above the weight of its holders is 38. With flag 1 set the same holds for recovery."
  pub thresholds-0 : by_policy 0 0x0003 0 1 0 0 ∷ by_policy 0 0x0003 1 0 0 0 ∷ by_policy 1 0x0007 1 1 0 0 ∷ [] ≡ 38 ∷ 38 ∷ 38 ∷ []
  pub thresholds : by_thresholds 1 2 3 ≡ 0
  pub thresholds-above : by_thresholds 2 2 3 ∷ by_thresholds 1 3 3 ∷ by_thresholds 1 2 4 ∷ [] ≡ 38 ∷ 38 ∷ 38 ∷ []
  -- "With flag 1 clear, a recovery threshold or recovery_since other than 0 is 21."
  pub recovery-off : by_policy 0 0x0007 1 1 1 0 ∷ by_policy 2 0x0007 1 1 1 0 ∷ by_policy 2 0x0007 1 1 0 1 ∷ [] ≡ 21 ∷ 21 ∷ 21 ∷ []
  pub recovery-on : by_policy 1 0x0007 1 1 1 1 ≡ 0
  -- "algorithm 0x0001, 0x0101, 0x0102, 0x0103 or 0x0201 (33)"
  pub algorithms : map by_algorithm (0x0001 ∷ 0x0101 ∷ 0x0102 ∷ 0x0103 ∷ 0x0201 ∷ []) ≡ replicate 5 0
  pub no-algorithms : map by_algorithm (0x0000 ∷ 0x0002 ∷ 0x0100 ∷ 0x0104 ∷ 0x0200 ∷ 0x0202 ∷ 0x0301 ∷ []) ≡ replicate 7 33
  -- "weight not 0"; "hash type at most 1 .. and ABI 1 (30)"
  pub weights : map by_weight (0 ∷ 1 ∷ 65535 ∷ []) ≡ 21 ∷ 0 ∷ 0 ∷ []
  pub hash-types : map by_hash_type (0 ∷ 1 ∷ 2 ∷ []) ≡ 0 ∷ 0 ∷ 30 ∷ []
  pub abi : map by_abi (0 ∷ 1 ∷ 2 ∷ []) ≡ 30 ∷ 0 ∷ 30 ∷ []
  -- "entry length equal to 48 + key + aux"; "key of 32 bytes and aux not empty (21)"
  pub entry_length : map by_entry_length (80 ∷ 81 ∷ 82 ∷ []) ≡ 21 ∷ 0 ∷ 21 ∷ []
  pub key : map by_key (31 ∷ 32 ∷ 33 ∷ []) ≡ 21 ∷ 0 ∷ 21 ∷ []
  -- 02, change 6: "The longest aux in any of our accounts has 2,593 bytes"; 44
  pub aux : map by_aux (0 ∷ 1 ∷ 2593 ∷ 2594 ∷ []) ≡ 21 ∷ 0 ∷ 0 ∷ 44 ∷ []
  -- "slot above its predecessor"; "After the last entry no byte follows (21)."
  pub slots : map by_slot (4 ∷ 5 ∷ 6 ∷ []) ≡ 21 ∷ 21 ∷ 0 ∷ []
  pub byte-behind : by_entry (entry_with 81 0 0x0001 0x0003 1 0 1 32 1 ++ (0 ∷ [])) ≡ 21
  -- "`CKAS`, version 1, flags, length 32 (u16), sequence (u64), spend, rotate and recovery thresholds (u16 each), count, 0,
  -- recovery_since (u64)"
  pub header-places : read_state_header head_places ≡ Ok (record { flags = 3; sequence = 0x0807060504030201; spend_threshold = 0x0a09; rotate_threshold = 0x0c0b; recovery_threshold = 0x0e0d; authenticator_count = 2; recovery_since = 0x161514131211100f })
  -- "entry length, slot, algorithm, capabilities, weight (u16 each), hash type, ABI (one byte each), code hash (32 bytes), key length,
  -- aux length (u16 each), key, aux"
  pub entry-places : entry_of entry_places ≡ record { slot = 0x201f; algorithm = 0x2221; capabilities = 0x2423; weight = 0x2625; hash_type = 39; abi = 40; code_hash = tabulate (λ i. i + 41) 32; key = tabulate (λ i. i + 73) 32; aux = 105 ∷ 106 ∷ 107 ∷ [] }
  pub next_place : entries_of 2 (entry_places ++ entry_places) ≡ entry_of entry_places ∷ entry_of entry_places ∷ []
