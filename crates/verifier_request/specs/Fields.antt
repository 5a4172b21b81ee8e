-- The fields of a request by their names, in the layout's order.
use Rattle.std.specs.Prelude.{ℕ, ◌+◌, List}
use Rattle.octets.specs.Le.{number_at}

-- 01, Request: "96 bytes then aux and proof: `CKVR`, 1, 0, 96 (u16), algorithm, slot (u16), operation, profile, two zeros, digest,
-- key (32 bytes each), aux and proof lengths (u32), eight zeros."
abbrev pub request_magic_of : List ℕ → ℕ
request_magic_of s = number_at s 0 4

abbrev pub request_abi_of : List ℕ → ℕ
request_abi_of s = number_at s 4 1

abbrev pub request_reserved_of : List ℕ → ℕ
request_reserved_of s = number_at s 5 1

abbrev pub request_header_length_of : List ℕ → ℕ
request_header_length_of s = number_at s 6 2

abbrev pub request_algorithm_of : List ℕ → ℕ
request_algorithm_of s = number_at s 8 2

abbrev pub request_slot_of : List ℕ → ℕ
request_slot_of s = number_at s 10 2

abbrev pub request_operation_of : List ℕ → ℕ
request_operation_of s = number_at s 12 1

abbrev pub request_profile_of : List ℕ → ℕ
request_profile_of s = number_at s 13 1

abbrev pub request_zeros_of : List ℕ → ℕ
request_zeros_of s = number_at s 14 2

-- where the digest and the key begin
abbrev pub request_digest_offset : ℕ
request_digest_offset = 16

abbrev pub request_key_offset : ℕ
request_key_offset = 48

abbrev pub request_aux_length_of : List ℕ → ℕ
request_aux_length_of s = number_at s 80 4

abbrev pub request_proof_length_of : List ℕ → ℕ
request_proof_length_of s = number_at s 84 4

abbrev pub request_last_zeros_of : List ℕ → ℕ
request_last_zeros_of s = number_at s 88 8

-- the length of a request with these lengths of aux and proof
abbrev pub request_size : ℕ → ℕ → ℕ
request_size aux proof = 96 + aux + proof
