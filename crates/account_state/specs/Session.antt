-- 02, change 10: "States with flag 2 or capability 0x0008 are still read, written, archived and spent from." The reading of a state to
-- which they are added.
use Rattle.std.specs.Prelude.{ℕ, ◌+◌, Bool, true, false, cond, List, [], ◌∷◌}
use Rattle.protocol.specs.Policy.{has_capability}
use Rattle.account_state.specs.Fields.{session_enabled}
use Rattle.account_state.specs.Reading.{EntryReading, StateReading}

-- flags with flag 2 set, where it is to be
unfoldable pub with_session_flag : Bool → ℕ → ℕ
with_session_flag true flags = cond (session_enabled flags) flags (flags + 2)
with_session_flag false flags = flags

-- capabilities with 0x0008, where it is to be added
unfoldable pub with_session_issue : Bool → ℕ → ℕ
with_session_issue true capabilities = cond (has_capability capabilities 8) capabilities (capabilities + 8)
with_session_issue false capabilities = capabilities

-- an entry with other capabilities, all else as it was
unfoldable pub with_capabilities : ℕ → EntryReading → EntryReading
with_capabilities capabilities e =
    record {
      slot = e.slot;
      algorithm = e.algorithm;
      capabilities = capabilities;
      weight = e.weight;
      hash_type = e.hash_type;
      abi = e.abi;
      code_hash = e.code_hash;
      key = e.key;
      aux = e.aux;
    }

-- entries, those of some slots with 0x0008
unfoldable pub issuing_entries : (ℕ → Bool) → List EntryReading → List EntryReading
issuing_entries issues [] = []
issuing_entries issues (e ∷ es) = with_capabilities (with_session_issue (issues e.slot) e.capabilities) e ∷ issuing_entries issues es

-- a state with flag 2 set where `flag` says so, and with 0x0008 added to the entries of the slots that `issues` names, all else as it was
unfoldable pub session_added : Bool → (ℕ → Bool) → StateReading → StateReading
session_added flag issues r =
    record {
      flags = with_session_flag flag r.flags;
      sequence = r.sequence;
      spend = r.spend;
      rotate = r.rotate;
      recovery = r.recovery;
      since = r.since;
      entries = issuing_entries issues r.entries;
    }
