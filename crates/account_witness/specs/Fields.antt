-- The fields of a witness lock by their names, in the layout's order.
use Rattle.std.specs.Prelude.{ℕ, ◌+◌, List}
use Rattle.octets.specs.Le.{number_at}

-- 01, Witness lock: "16 to 131,072 bytes; `CKAW`, version 1, operation 1 to 3, proof count, 0, sequence (u64)."
abbrev pub witness_magic_of : List ℕ → ℕ
witness_magic_of s = number_at s 0 4

abbrev pub witness_version_of : List ℕ → ℕ
witness_version_of s = number_at s 4 1

abbrev pub operation_of : List ℕ → ℕ
operation_of s = number_at s 5 1

abbrev pub proof_count_of : List ℕ → ℕ
proof_count_of s = number_at s 6 1

abbrev pub witness_reserved_of : List ℕ → ℕ
witness_reserved_of s = number_at s 7 1

abbrev pub witness_sequence_of : List ℕ → ℕ
witness_sequence_of s = number_at s 8 8

-- the header's length: the proofs follow it
abbrev pub witness_header_length : ℕ
witness_header_length = 16

-- 01, Proof: "slot (u16), two zero bytes, length (u32, not 0), bytes", of the proof at `off`
abbrev pub proof_slot_at : List ℕ → ℕ → ℕ
proof_slot_at s off = number_at s off 2

abbrev pub proof_reserved_at : List ℕ → ℕ → ℕ
proof_reserved_at s off = number_at s (off + 2) 2

abbrev pub proof_length_at : List ℕ → ℕ → ℕ
proof_length_at s off = number_at s (off + 4) 4

-- the length of a proof's slot, zeros and length: its bytes follow them
abbrev pub proof_header_length : ℕ
proof_header_length = 8

-- where the proof at `off` ends, and the next one begins
abbrev pub proof_end_at : List ℕ → ℕ → ℕ
proof_end_at s off = off + proof_header_length + proof_length_at s off
