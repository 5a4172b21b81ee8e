-- The fields of an account state by their names, in the layout's order. The bytes of an entry are those from it on.
use Rattle.std.specs.Prelude.{ℕ, ◌+◌, ◌/◌, ◌%◌, Bool, List, eqb, take, drop}
use Rattle.octets.specs.Le.{number_at}

-- 01: "State header, 32 bytes: `CKAS`, version 1, flags, length 32 (u16), sequence (u64), spend, rotate and recovery thresholds
-- (u16 each), count, 0, recovery_since (u64)."
abbrev pub state_magic_of : List ℕ → ℕ
state_magic_of s = number_at s 0 4

abbrev pub state_version_of : List ℕ → ℕ
state_version_of s = number_at s 4 1

abbrev pub flags_of : List ℕ → ℕ
flags_of s = number_at s 5 1

-- the original's STATE_FLAGS_KNOWN_MASK; 01: "flags above 3 (21)"
abbrev pub state_flags_known_mask : ℕ
state_flags_known_mask = 3

-- 01: "With flag 1 set the same holds for recovery."
abbrev pub recovery_enabled : ℕ → Bool
recovery_enabled flags = eqb (flags / 1 % 2) 1

-- the original's STATE_FLAG_SESSION_ENABLED: flag 2
abbrev pub session_enabled : ℕ → Bool
session_enabled flags = eqb (flags / 2 % 2) 1

abbrev pub state_header_length_of : List ℕ → ℕ
state_header_length_of s = number_at s 6 2

abbrev pub sequence_of : List ℕ → ℕ
sequence_of s = number_at s 8 8

abbrev pub spend_threshold_of : List ℕ → ℕ
spend_threshold_of s = number_at s 16 2

abbrev pub rotate_threshold_of : List ℕ → ℕ
rotate_threshold_of s = number_at s 18 2

abbrev pub recovery_threshold_of : List ℕ → ℕ
recovery_threshold_of s = number_at s 20 2

abbrev pub entry_count_of : List ℕ → ℕ
entry_count_of s = number_at s 22 1

abbrev pub state_reserved_of : List ℕ → ℕ
state_reserved_of s = number_at s 23 1

abbrev pub recovery_since_of : List ℕ → ℕ
recovery_since_of s = number_at s 24 8

-- the bytes of the entries follow the header
abbrev pub entry_bytes_of : List ℕ → List ℕ
entry_bytes_of s = drop 32 s

-- 01: "Each entry: entry length, slot, algorithm, capabilities, weight (u16 each), hash type, ABI (one byte each), code hash
-- (32 bytes), key length, aux length (u16 each), key, aux."
abbrev pub entry_length_of : List ℕ → ℕ
entry_length_of e = number_at e 0 2

abbrev pub entry_slot_of : List ℕ → ℕ
entry_slot_of e = number_at e 2 2

abbrev pub algorithm_of : List ℕ → ℕ
algorithm_of e = number_at e 4 2

abbrev pub capabilities_of : List ℕ → ℕ
capabilities_of e = number_at e 6 2

-- the original's CAP_KNOWN_MASK; 01: "capabilities at most 0x000F"
abbrev pub cap_known_mask : ℕ
cap_known_mask = 0x000f

abbrev pub weight_of : List ℕ → ℕ
weight_of e = number_at e 8 2

abbrev pub hash_type_of : List ℕ → ℕ
hash_type_of e = number_at e 10 1

abbrev pub abi_of : List ℕ → ℕ
abi_of e = number_at e 11 1

-- where the code hash begins, and where the key does
abbrev pub code_hash_offset : ℕ
code_hash_offset = 12

abbrev pub key_offset : ℕ
key_offset = 48

abbrev pub code_hash_of : List ℕ → List ℕ
code_hash_of e = take 32 (drop code_hash_offset e)

abbrev pub key_length_of : List ℕ → ℕ
key_length_of e = number_at e 44 2

abbrev pub aux_length_of : List ℕ → ℕ
aux_length_of e = number_at e 46 2

-- 02, change 6: "The longest aux in any of our accounts has 2,593 bytes, a profile byte and an ML-DSA-87 public key. The state
-- reader takes that as its limit"
abbrev pub aux_max_length : ℕ
aux_max_length = 2593

abbrev pub key_of : List ℕ → List ℕ
key_of e = take (key_length_of e) (drop key_offset e)

abbrev pub aux_of : List ℕ → List ℕ
aux_of e = take (aux_length_of e) (drop (key_offset + key_length_of e) e)
