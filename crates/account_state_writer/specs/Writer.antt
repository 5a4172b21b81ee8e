-- The writer of account states: host/src/lib.rs, `encode_state`, over lent slices of numbers and bytes (Slices).
use Rattle.std.specs.Prelude.{ℕ, zero, suc, ◌+◌, ◌*◌, ◌%◌, ◌^◌, ◌<◌, List, [], ◌∷◌, ◌++◌, leb, eqb, length, drop, get_or, Result}
use Rattle.protocol.specs.declared.error.ProtocolError.{ProtocolError}
use Rattle.octets.specs.Le.{Bytes}
use Rattle.protocol.specs.Rows.{Row, row}
use Rattle.protocol.specs.Write.{write_fault, write_answer, after_write}
use Rattle.protocol.specs.declared.error.ProtocolError.TheVariants.{InvalidState, SlicesDisagree}
use Rattle.account_state.specs.Fields.{entry_bytes_of, entry_count_of, entry_length_of, entry_slot_of}
use Rattle.account_state.specs.Reading.{EntryReading, StateReading, StateNumbersTyped, state_bytes}
use Rattle.account_state.specs.State.{state_header_rows, original_entry_rows, aux_limit_row, state_tail_rows}
use Rattle.account_state_writer.specs.Slices.{lent_width, lent_slot, lent_algorithm, lent_capabilities, lent_weight, lent_hash_type, lent_abi, lent_code_hash, lent_key, lent_aux, lent_bytes, lent_count}

-- the entry at the front of the slices
unfoldable pub entry_from : List ℕ → List ℕ → EntryReading
entry_from fields bytes =
    record {
      slot = lent_slot fields;
      algorithm = lent_algorithm fields;
      capabilities = lent_capabilities fields;
      weight = lent_weight fields;
      hash_type = lent_hash_type bytes;
      abi = lent_abi bytes;
      code_hash = lent_code_hash bytes;
      key = lent_key bytes;
      aux = lent_aux fields bytes;
    }

unfoldable pub entries_from : ℕ → List ℕ → List ℕ → List EntryReading
entries_from zero fields bytes = []
entries_from (suc n) fields bytes = entry_from fields bytes ∷ entries_from n (drop lent_width fields) (drop (lent_bytes fields) bytes)

-- how many bytes n entries have
unfoldable pub needed_bytes : ℕ → List ℕ → ℕ
needed_bytes zero fields = 0
needed_bytes (suc n) fields = lent_bytes fields + needed_bytes n (drop lent_width fields)

-- an entry takes 14 bytes more in the state than in `bytes`: its numbers
unfoldable pub state_total : List ℕ → List ℕ → ℕ
state_total fields bytes = 32 + 14 * lent_count fields + length bytes

-- 01: "slices that don't agree with each other are 7, before all else"; then, as in the Rust, a count that fits its byte and a
-- state of at most 16,384 bytes
unfoldable pub slice_rows : List ℕ → List ℕ → List Row
slice_rows fields bytes =
    row (eqb (length fields % lent_width) 0) SlicesDisagree
    ∷ row (eqb (needed_bytes (lent_count fields) fields) (length bytes)) SlicesDisagree
    ∷ row (leb (lent_count fields) 255) InvalidState
    ∷ row (leb (state_total fields bytes) 16384) InvalidState
    ∷ []

-- document 01's checks of a state, which are the original's: n entries, and the whole state
unfoldable pub original_entries_rows : ℕ → List ℕ → ℕ → List Row
original_entries_rows zero e least = []
original_entries_rows (suc n) e least =
    original_entry_rows e least ++ original_entries_rows n (drop (entry_length_of e) e) (entry_slot_of e + 1)

unfoldable pub original_state_rows : List ℕ → List Row
original_state_rows s =
    state_header_rows s
    ++ (original_entries_rows (entry_count_of s) (entry_bytes_of s) 0 ++ state_tail_rows s (entry_count_of s) (entry_bytes_of s))

-- the limit of each aux
unfoldable pub aux_limit_rows : List EntryReading → List Row
aux_limit_rows [] = []
aux_limit_rows (e ∷ es) = aux_limit_row (length e.aux) ∷ aux_limit_rows es

-- the Rust validates the state that it wrote; 02, change 6: 44 "in the state writer after the Rust's refusals and before 5"
unfoldable pub written_rows : StateReading → List Row
written_rows r = original_state_rows (state_bytes r) ++ aux_limit_rows r.entries

unfoldable pub state_writer_rows : StateReading → List ℕ → List ℕ → List Row
state_writer_rows r fields bytes = slice_rows fields bytes ++ written_rows r

unfoldable pub state_from : ℕ → ℕ → ℕ → ℕ → ℕ → ℕ → List ℕ → List ℕ → StateReading
state_from flags sequence spend rotate recovery since fields bytes =
    record {
      flags = flags;
      sequence = sequence;
      spend = spend;
      rotate = rotate;
      recovery = recovery;
      since = since;
      entries = entries_from (lent_count fields) fields bytes;
    }

-- a state that passes its checks is written as it is
unfoldable pub valid_written : StateReading → List ℕ → Result ℕ ProtocolError
valid_written r out = write_answer (write_fault (written_rows r) (length (state_bytes r)) (length out)) (length (state_bytes r))

unfoldable pub valid_stored : StateReading → List ℕ → List ℕ
valid_stored r out = after_write (write_fault (written_rows r) (length (state_bytes r)) (length out)) (state_bytes r) out

-- what the writer answers and leaves
unfoldable pub state_written : StateReading → List ℕ → List ℕ → List ℕ → Result ℕ ProtocolError
state_written r fields bytes out =
    write_answer (write_fault (state_writer_rows r fields bytes) (state_total fields bytes) (length out)) (state_total fields bytes)

unfoldable pub state_stored : StateReading → List ℕ → List ℕ → List ℕ → List ℕ
state_stored r fields bytes out =
    after_write (write_fault (state_writer_rows r fields bytes) (state_total fields bytes) (length out)) (state_bytes r) out

-- the slices that say a list of entries
unfoldable pub entries_fields : List EntryReading → List ℕ
entries_fields [] = []
entries_fields (e ∷ es) = e.slot ∷ e.algorithm ∷ e.capabilities ∷ e.weight ∷ length e.aux ∷ entries_fields es

unfoldable pub entries_payload : List EntryReading → List ℕ
entries_payload [] = []
entries_payload (e ∷ es) = (e.hash_type ∷ e.abi ∷ []) ++ (e.code_hash ++ (e.key ++ (e.aux ++ entries_payload es)))

-- what a reading lends the writer are values of the types of its parameters: u8, u64, u16, and slices of u16 and of bytes whose
-- lengths a usize holds
pub record StateFits (r : StateReading) : Type 0 where
  pub numbers : StateNumbersTyped r
  pub fields : (i : ℕ) → get_or (entries_fields r.entries) i 0 < 2 ^ 16
  pub bytes : Bytes (entries_payload r.entries)
  pub lengths : (length (entries_fields r.entries) < 2 ^ 64) × (length (entries_payload r.entries) < 2 ^ 64)
