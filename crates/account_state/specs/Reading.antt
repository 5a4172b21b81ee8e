-- The reading of an account state: every field but fixed bytes, lengths and the count; and its written form.
use Rattle.std.specs.Prelude.{◌≡◌, ℕ, zero, suc, ◌+◌, ◌^◌, ◌≤◌, ◌<◌, cond, List, [], ◌∷◌, ◌++◌, length, drop}
use Rattle.octets.specs.Layout.{Field, layout_bytes}
use Rattle.protocol.specs.Policy.{has_capability}
use Rattle.account_state.specs.Fields.{flags_of, sequence_of, spend_threshold_of, rotate_threshold_of, recovery_threshold_of, entry_count_of, recovery_since_of, entry_length_of, entry_slot_of, algorithm_of, capabilities_of, weight_of, hash_type_of, abi_of, aux_max_length, entry_bytes_of, code_hash_of, key_of, aux_of}

pub record EntryReading : Type 0 where
  pub slot : ℕ
  pub algorithm : ℕ
  pub capabilities : ℕ
  pub weight : ℕ
  pub hash_type : ℕ
  pub abi : ℕ
  pub code_hash : List ℕ
  pub key : List ℕ
  pub aux : List ℕ

pub record StateReading : Type 0 where
  pub flags : ℕ
  pub sequence : ℕ
  pub spend : ℕ
  pub rotate : ℕ
  pub recovery : ℕ
  pub since : ℕ
  pub entries : List EntryReading

-- "CKAS"
abbrev pub state_magic : ℕ
state_magic = 0x53414b43

-- 01: "Each entry: entry length, slot, algorithm, capabilities, weight (u16 each), hash type, ABI (one byte each), code hash
-- (32 bytes), key length, aux length (u16 each), key, aux." Entry length is 48 + key + aux.
abbrev pub entry_size : EntryReading → ℕ
entry_size e = 48 + length e.key + length e.aux

unfoldable pub entry_head_fields : EntryReading → List Field
entry_head_fields e =
    record { width = 2; value = entry_size e }
    ∷ record { width = 2; value = e.slot }
    ∷ record { width = 2; value = e.algorithm }
    ∷ record { width = 2; value = e.capabilities }
    ∷ record { width = 2; value = e.weight }
    ∷ record { width = 1; value = e.hash_type }
    ∷ record { width = 1; value = e.abi }
    ∷ []

unfoldable pub entry_length_fields : EntryReading → List Field
entry_length_fields e = record { width = 2; value = length e.key } ∷ record { width = 2; value = length e.aux } ∷ []

unfoldable pub entry_bytes : EntryReading → List ℕ
entry_bytes e = layout_bytes (entry_head_fields e) ++ e.code_hash ++ layout_bytes (entry_length_fields e) ++ e.key ++ e.aux

unfoldable pub entries_bytes : List EntryReading → List ℕ
entries_bytes [] = []
entries_bytes (e ∷ es) = entry_bytes e ++ entries_bytes es

-- 01: "State header, 32 bytes: `CKAS`, version 1, flags, length 32 (u16), sequence (u64), spend, rotate and recovery thresholds
-- (u16 each), count, 0, recovery_since (u64)."
unfoldable pub state_header_fields : ℕ → ℕ → ℕ → ℕ → ℕ → ℕ → ℕ → List Field
state_header_fields flags sequence spend rotate recovery count since =
    record { width = 4; value = state_magic }
    ∷ record { width = 1; value = 1 }
    ∷ record { width = 1; value = flags }
    ∷ record { width = 2; value = 32 }
    ∷ record { width = 8; value = sequence }
    ∷ record { width = 2; value = spend }
    ∷ record { width = 2; value = rotate }
    ∷ record { width = 2; value = recovery }
    ∷ record { width = 1; value = count }
    ∷ record { width = 1; value = 0 }
    ∷ record { width = 8; value = since }
    ∷ []

unfoldable pub state_head : StateReading → List Field
state_head r = state_header_fields r.flags r.sequence r.spend r.rotate r.recovery (length r.entries) r.since

unfoldable pub state_bytes : StateReading → List ℕ
state_bytes r = layout_bytes (state_head r) ++ entries_bytes r.entries

-- the entry at the front of the bytes
unfoldable pub entry_of : List ℕ → EntryReading
entry_of e =
    record {
      slot = entry_slot_of e;
      algorithm = algorithm_of e;
      capabilities = capabilities_of e;
      weight = weight_of e;
      hash_type = hash_type_of e;
      abi = abi_of e;
      code_hash = code_hash_of e;
      key = key_of e;
      aux = aux_of e;
    }

-- n entries one behind another
unfoldable pub entries_of : ℕ → List ℕ → List EntryReading
entries_of zero e = []
entries_of (suc n) e = entry_of e ∷ entries_of n (drop (entry_length_of e) e)

-- the entries of a state
abbrev pub state_entries : List ℕ → List EntryReading
state_entries s = entries_of (entry_count_of s) (entry_bytes_of s)

unfoldable pub state_reading : List ℕ → StateReading
state_reading s =
    record {
      flags = flags_of s;
      sequence = sequence_of s;
      spend = spend_threshold_of s;
      rotate = rotate_threshold_of s;
      recovery = recovery_threshold_of s;
      since = recovery_since_of s;
      entries = state_entries s;
    }

-- the slots of the entries
abbrev pub entry_slots : List EntryReading → List ℕ
entry_slots [] = []
entry_slots (e ∷ es) = e.slot ∷ entry_slots es

-- the weight of the entries that have a capability
unfoldable pub capable_share : ℕ → ℕ → ℕ → ℕ
capable_share bit capabilities weight = cond (has_capability capabilities bit) weight 0

unfoldable pub capable_weight : ℕ → List EntryReading → ℕ
capable_weight bit [] = 0
capable_weight bit (e ∷ es) = capable_share bit e.capabilities e.weight + capable_weight bit es

-- readings whose fields, lengths and count are values of their types
pub record EntryTyped (e : EntryReading) : Type 0 where
  pub slot : e.slot < 2 ^ 16
  pub algorithm : e.algorithm < 2 ^ 16
  pub capabilities : e.capabilities < 2 ^ 16
  pub weight : e.weight < 2 ^ 16
  pub hash_type : e.hash_type < 2 ^ 8
  pub abi : e.abi < 2 ^ 8
  pub code_hash : length e.code_hash ≡ 32
  pub size : entry_size e < 2 ^ 16

abbrev pub EntriesTyped : List EntryReading → Type 0
EntriesTyped [] = Unit {0}
EntriesTyped (e ∷ es) = EntryTyped e × EntriesTyped es

-- the header's numbers
pub record StateNumbersTyped (r : StateReading) : Type 0 where
  pub flags : r.flags < 2 ^ 8
  pub sequence : r.sequence < 2 ^ 64
  pub spend : r.spend < 2 ^ 16
  pub rotate : r.rotate < 2 ^ 16
  pub recovery : r.recovery < 2 ^ 16
  pub since : r.since < 2 ^ 64

pub record StateTyped (r : StateReading) : Type 0 where
  pub numbers : StateNumbersTyped r
  pub count : length r.entries < 2 ^ 8
  pub entries : EntriesTyped r.entries

-- 02, change 6: the reader takes 2,593 bytes "as its limit .. and says so to all above it": no aux is longer
abbrev pub AuxWithin : List EntryReading → Type 0
AuxWithin [] = Unit {0}
AuxWithin (e ∷ es) = (length e.aux ≤ aux_max_length) × AuxWithin es
