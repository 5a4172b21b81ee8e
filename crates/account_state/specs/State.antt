-- The checks of an account state, in document 01's order, and what its readers give.
use Rattle.std.specs.Prelude.{◌≡◌, ℕ, zero, suc, ◌+◌, ◌*◌, ◌≤◌, ◌<◌, cond, List, [], ◌∷◌, ◌++◌, length, take, drop, get_or, leb, eqb, Err, Ok, Result}
use Rattle.protocol.specs.declared.error.ProtocolError.{ProtocolError}
use Rattle.protocol.specs.Policy.{is_supported_algorithm}
use Rattle.protocol.specs.Rows.{Row, row, ◌then◌, decide, Check}
use Rattle.protocol.specs.declared.error.ProtocolError.TheVariants.{InvalidState, InvalidVerifierRef, UnsupportedVersion, UnsupportedAlgorithm, UnsatisfiableThreshold, AuxTooLong}
use Rattle.account_state.specs.Fields.{state_magic_of, state_version_of, flags_of, state_flags_known_mask, recovery_enabled, state_header_length_of, sequence_of, spend_threshold_of, rotate_threshold_of, recovery_threshold_of, entry_count_of, state_reserved_of, recovery_since_of, entry_length_of, entry_slot_of, algorithm_of, capabilities_of, cap_known_mask, weight_of, hash_type_of, abi_of, code_hash_offset, key_offset, key_length_of, aux_length_of, aux_max_length, entry_bytes_of}
use Rattle.account_state.specs.Reading.{EntryReading, state_magic, entries_of, state_entries, state_reading, capable_share, capable_weight, AuxWithin}
use Rattle.account_state.specs.declared.header.StateHeader.{StateHeader}
use Rattle.account_state.specs.declared.entry.AuthenticatorEntry.{AuthenticatorEntry}
use Rattle.account_state.specs.declared.entry.EntryCursor.{EntryCursor}
use Rattle.account_state.specs.declared.entry.EntryFields.{EntryFields}
use Rattle.account_state.specs.declared.walk.StateSummary.{StateSummary}

-- 01, State header: "Checks in order: length 32 to 16,384 (21), magic (21), version (32), flags above 3 (21), header length (21),
-- byte 23 (21), count 1 to 16 (21)."
unfoldable pub state_header_rows : List ℕ → List Row
state_header_rows s =
    row (leb 32 (length s)) InvalidState
    ∷ row (leb (length s) 16384) InvalidState
    ∷ row (eqb (state_magic_of s) state_magic) InvalidState
    ∷ row (eqb (state_version_of s) 1) UnsupportedVersion
    ∷ row (leb (flags_of s) state_flags_known_mask) InvalidState
    ∷ row (eqb (state_header_length_of s) 32) InvalidState
    ∷ row (eqb (state_reserved_of s) 0) InvalidState
    ∷ row (leb 1 (entry_count_of s)) InvalidState
    ∷ row (leb (entry_count_of s) 16) InvalidState
    ∷ []

-- 01, each entry: "Order: 48 bytes present, entry length equal to 48 + key + aux, entry inside the state, slot above its
-- predecessor, weight not 0 and capabilities at most 0x000F (all 21); hash type at most 1 (0 names a dep by data hash, 1 by type
-- hash) and ABI 1 (30); algorithm 0x0001, 0x0101, 0x0102, 0x0103 or 0x0201 (33); key of 32 bytes and aux not empty (21)."
-- e is the state from the entry on, and least is one above the slot of its predecessor.
unfoldable pub entry_layout_rows : List ℕ → ℕ → List Row
entry_layout_rows e least =
    row (leb 48 (length e)) InvalidState
    ∷ row (eqb (entry_length_of e) (48 + key_length_of e + aux_length_of e)) InvalidState
    ∷ row (leb (entry_length_of e) (length e)) InvalidState
    ∷ row (leb least (entry_slot_of e)) InvalidState
    ∷ []

-- Those from weight on are of the numbers of an entry that is read or is to be written.
unfoldable pub entry_field_rows : EntryFields → List Row
entry_field_rows f =
    row (leb 1 f.weight) InvalidState
    ∷ row (leb f.capabilities cap_known_mask) InvalidState
    ∷ row (leb f.verifier_hash_type 1) InvalidVerifierRef
    ∷ row (eqb f.verifier_abi 1) InvalidVerifierRef
    ∷ row (is_supported_algorithm f.algorithm_id) UnsupportedAlgorithm
    ∷ row (eqb f.key_len 32) InvalidState
    ∷ row (leb 1 f.aux_len) InvalidState
    ∷ []

-- the numbers of the entry at the front of the bytes
abbrev pub entry_fields_of : List ℕ → EntryFields
entry_fields_of e =
    record {
      algorithm_id = algorithm_of e;
      capabilities = capabilities_of e;
      weight = weight_of e;
      verifier_hash_type = hash_type_of e;
      verifier_abi = abi_of e;
      key_len = key_length_of e;
      aux_len = aux_length_of e;
    }

-- the rows of an entry that document 01 has, as the original does
unfoldable pub original_entry_rows : List ℕ → ℕ → List Row
original_entry_rows e least = entry_layout_rows e least ++ entry_field_rows (entry_fields_of e)

-- the limit of an aux
abbrev pub aux_limit_row : ℕ → Row
aux_limit_row aux = row (leb aux aux_max_length) AuxTooLong

-- 02, change 6: "44 in each entry, after the empty-aux check"
unfoldable pub entry_rows : List ℕ → ℕ → List Row
entry_rows e least = original_entry_rows e least ++ (aux_limit_row (aux_length_of e) ∷ [])

unfoldable pub entries_rows : ℕ → List ℕ → ℕ → List Row
entries_rows zero e least = []
entries_rows (suc n) e least = entry_rows e least ++ entries_rows n (drop (entry_length_of e) e) (entry_slot_of e + 1)

-- what follows n entries
unfoldable pub behind_entries : ℕ → List ℕ → List ℕ
behind_entries zero e = e
behind_entries (suc n) e = behind_entries n (drop (entry_length_of e) e)

-- 01: "With flag 1 set the same holds for recovery. With flag 1 clear, a recovery threshold or recovery_since other than 0 is 21."
unfoldable pub recovery_threshold_rows : ℕ → ℕ → ℕ → ℕ → List Row
recovery_threshold_rows flags threshold since weight =
    cond (recovery_enabled flags)
    (row (leb 1 threshold) UnsatisfiableThreshold ∷ row (leb threshold weight) UnsatisfiableThreshold ∷ [])
    (row (eqb threshold 0) InvalidState ∷ row (eqb since 0) InvalidState ∷ [])

-- 01: "spend or rotate threshold 0 or above the weight of its holders is 38."
unfoldable pub threshold_rows : ℕ → ℕ → ℕ → ℕ → ℕ → StateSummary → List Row
threshold_rows flags spend rotate recovery since weights =
    row (leb 1 spend) UnsatisfiableThreshold
    ∷ row (leb 1 rotate) UnsatisfiableThreshold
    ∷ row (leb spend weights.spend_weight) UnsatisfiableThreshold
    ∷ row (leb rotate weights.rotate_weight) UnsatisfiableThreshold
    ∷ recovery_threshold_rows flags recovery since weights.recovery_weight

-- 01: "After the last entry no byte follows (21). Then:" the thresholds
unfoldable pub state_end_rows : List ℕ → ℕ → StateSummary → List Row
state_end_rows s tail weights =
    row (eqb tail 0) InvalidState
    ∷ threshold_rows (flags_of s) (spend_threshold_of s) (rotate_threshold_of s) (recovery_threshold_of s) (recovery_since_of s) weights

-- the weights of the holders of each capability; 01: "Capability bits 1, 2, 4, 8: spend, rotate, recovery, session issue."
unfoldable pub summary_of : List EntryReading → StateSummary
summary_of es = record { spend_weight = capable_weight 1 es; rotate_weight = capable_weight 2 es; recovery_weight = capable_weight 4 es }

-- the weights with one entry's added
unfoldable pub with_entry : StateSummary → ℕ → ℕ → StateSummary
with_entry t capabilities weight =
    record {
      spend_weight = t.spend_weight + capable_share 1 capabilities weight;
      rotate_weight = t.rotate_weight + capable_share 2 capabilities weight;
      recovery_weight = t.recovery_weight + capable_share 4 capabilities weight;
    }

-- the weights have room for those of `left` entries more, of sixteen in all
pub record Light (left : ℕ) (t : StateSummary) : Type 0 where
  pub spend : t.spend_weight + 65535 * left ≤ 1048560
  pub rotate : t.rotate_weight + 65535 * left ≤ 1048560
  pub recovery : t.recovery_weight + 65535 * left ≤ 1048560

-- the checks after the last entry
unfoldable pub state_tail_rows : List ℕ → ℕ → List ℕ → List Row
state_tail_rows s n e = state_end_rows s (length (behind_entries n e)) (summary_of (entries_of n e))

-- all checks of a state
unfoldable pub state_rows : List ℕ → List Row
state_rows s = state_header_rows s ++ (entries_rows (entry_count_of s) (entry_bytes_of s) 0 ++ state_tail_rows s (entry_count_of s) (entry_bytes_of s))

unfoldable pub state_fault : List ℕ → Check
state_fault s = decide (Ok tt) (state_rows s)

-- what the header's reader gives
unfoldable pub state_header_of : List ℕ → StateHeader
state_header_of s =
    record {
      flags = flags_of s;
      sequence = sequence_of s;
      spend_threshold = spend_threshold_of s;
      rotate_threshold = rotate_threshold_of s;
      recovery_threshold = recovery_threshold_of s;
      authenticator_count = entry_count_of s;
      recovery_since = recovery_since_of s;
    }

unfoldable pub read_state_header : List ℕ → Result StateHeader ProtocolError
read_state_header s = decide (Ok tt) (state_header_rows s) then Ok (state_header_of s)

-- the header that the reader gives has the reading's fields and the count of its entries
pub record StateHeaderGives (s : List ℕ) (h : StateHeader) : Type 0 where
  pub flags : h.flags ≡ (state_reading s).flags
  pub sequence : h.sequence ≡ (state_reading s).sequence
  pub spend : h.spend_threshold ≡ (state_reading s).spend
  pub rotate : h.rotate_threshold ≡ (state_reading s).rotate
  pub recovery : h.recovery_threshold ≡ (state_reading s).recovery
  pub since : h.recovery_since ≡ (state_reading s).since
  pub count : h.authenticator_count ≡ length (state_reading s).entries

-- what a step gives: the entry at a place of the state, its parts by their places, and the cursor behind it
unfoldable pub entry_at : List ℕ → ℕ → AuthenticatorEntry
entry_at s at =
    record {
      slot = entry_slot_of (drop at s);
      algorithm_id = algorithm_of (drop at s);
      capabilities = capabilities_of (drop at s);
      weight = weight_of (drop at s);
      verifier_hash_type = hash_type_of (drop at s);
      verifier_abi = abi_of (drop at s);
      verifier_code_hash = at + code_hash_offset;
      key_id = at + key_offset;
      key_len = key_length_of (drop at s);
      aux = at + key_offset + key_length_of (drop at s);
      aux_len = aux_length_of (drop at s);
    }

-- the first entry follows the header, and any slot may be its own
abbrev pub first_entry : EntryCursor
first_entry = record { offset = 32; least = 0 }

unfoldable pub entry_cursor_behind : List ℕ → ℕ → EntryCursor
entry_cursor_behind s at = record { offset = at + entry_length_of (drop at s); least = entry_slot_of (drop at s) + 1 }

unfoldable pub entry_step : List ℕ → EntryCursor → Result (AuthenticatorEntry × EntryCursor) ProtocolError
entry_step s c =
    decide (Ok tt) (entry_rows (drop c.offset s) c.least) then Ok (entry_at s c.offset, entry_cursor_behind s c.offset)

-- 02, change 6: what a step hands out keeps the limit
abbrev pub StepWithin : Result (AuthenticatorEntry × EntryCursor) ProtocolError → Type 0
StepWithin (Ok (e, c)) = e.aux_len ≤ aux_max_length
StepWithin (Err x) = Unit {0}

-- the reading of an entry that a step hands out: its numbers, and the bytes at its places; 01: "a place in the input counting as the
-- bytes there"
unfoldable pub entry_reading : List ℕ → AuthenticatorEntry → EntryReading
entry_reading s e =
    record {
      slot = e.slot;
      algorithm = e.algorithm_id;
      capabilities = e.capabilities;
      weight = e.weight;
      hash_type = e.verifier_hash_type;
      abi = e.verifier_abi;
      code_hash = take 32 (drop e.verifier_code_hash s);
      key = take e.key_len (drop e.key_id s);
      aux = take e.aux_len (drop e.aux s);
    }

-- the cursor after i entries
unfoldable pub entry_cursor_at : List ℕ → ℕ → EntryCursor
entry_cursor_at s zero = first_entry
entry_cursor_at s (suc i) = entry_cursor_behind s (entry_cursor_at s i).offset

-- the i-th step of an accepted state hands out the i-th entry of the reading; 01: "Closures of `parse_authenticators` and
-- `parse_proofs`: a step per entry."
pub record EntryStepGives (s : List ℕ) (i : ℕ) : Type 0 where
  pub step : entry_step s (entry_cursor_at s i) ≡ Ok (entry_at s (entry_cursor_at s i).offset, entry_cursor_at s (suc i))
  pub reading : (d : EntryReading) → get_or (state_reading s).entries i d ≡ entry_reading s (entry_at s (entry_cursor_at s i).offset)

-- what the state's reader gives
unfoldable pub read_state : List ℕ → Result (StateHeader × StateSummary) ProtocolError
read_state s = state_fault s then Ok (state_header_of s, summary_of (state_entries s))

-- 02, change 6: the reader takes its limit "and says so to all above it": the reading of an accepted state keeps it
abbrev pub StateWithin : List ℕ → Result (StateHeader × StateSummary) ProtocolError → Type 0
StateWithin s (Ok (h, t)) = AuxWithin (state_reading s).entries
StateWithin s (Err e) = Unit {0}

-- likewise of what the checks of a state find
abbrev pub CheckWithin : List ℕ → Check → Type 0
CheckWithin s (Ok _) = AuxWithin (state_reading s).entries
CheckWithin s (Err e) = Unit {0}

-- what the readers hand out of a state, with the header h and the weights t of its answer, is its reading: the header's fields, the
-- weights of the entries, and at each step the next entry; behind the last no byte follows
pub record StateGives (s : List ℕ) (h : StateHeader) (t : StateSummary) : Type 0 where
  pub header : StateHeaderGives s h
  pub weights : summary_of (state_reading s).entries ≡ t
  pub entries : (i : ℕ) → i < h.authenticator_count → EntryStepGives s i
  pub ended : (entry_cursor_at s h.authenticator_count).offset ≡ length s
