-- The lent slices of a state's writer, by the names of their parts; each definition is of the first entry in them.
-- `fields` has five numbers for each entry: slot, algorithm, capabilities, weight, length of aux. `bytes` has each entry's hash
-- type, ABI, code hash (32 bytes), key (32 bytes) and aux, end to end.
use Rattle.std.specs.Prelude.{ℕ, ◌+◌, ◌/◌, List, length, take, drop, get_or}
use Rattle.octets.specs.Le.{number_at}

-- how many numbers an entry has
abbrev pub lent_width : ℕ
lent_width = 5

abbrev pub lent_slot : List ℕ → ℕ
lent_slot fields = get_or fields 0 0

abbrev pub lent_algorithm : List ℕ → ℕ
lent_algorithm fields = get_or fields 1 0

abbrev pub lent_capabilities : List ℕ → ℕ
lent_capabilities fields = get_or fields 2 0

abbrev pub lent_weight : List ℕ → ℕ
lent_weight fields = get_or fields 3 0

abbrev pub lent_aux_length : List ℕ → ℕ
lent_aux_length fields = get_or fields 4 0

-- where in an entry's bytes its key begins, and where its aux does
abbrev pub lent_key_offset : ℕ
lent_key_offset = 34

abbrev pub lent_aux_offset : ℕ
lent_aux_offset = 66

abbrev pub lent_hash_type : List ℕ → ℕ
lent_hash_type bytes = number_at bytes 0 1

abbrev pub lent_abi : List ℕ → ℕ
lent_abi bytes = number_at bytes 1 1

abbrev pub lent_code_hash : List ℕ → List ℕ
lent_code_hash bytes = take 32 (drop 2 bytes)

abbrev pub lent_key : List ℕ → List ℕ
lent_key bytes = take 32 (drop lent_key_offset bytes)

abbrev pub lent_aux : List ℕ → List ℕ → List ℕ
lent_aux fields bytes = take (lent_aux_length fields) (drop lent_aux_offset bytes)

-- how many bytes an entry has
abbrev pub lent_bytes : List ℕ → ℕ
lent_bytes fields = lent_aux_offset + lent_aux_length fields

-- how many entries the slices have
unfoldable pub lent_count : List ℕ → ℕ
lent_count fields = length fields / lent_width
