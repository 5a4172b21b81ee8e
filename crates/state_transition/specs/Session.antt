-- The session that no account was ever given: 02, change 10, "flag 2 or capability 0x0008".
use Rattle.std.specs.Prelude.{◌≡◌, Bool, false, not, ◌&&◌, List, [], ◌∷◌}
use Rattle.octets.specs.Lists.{every}
use Rattle.protocol.specs.Policy.{has_capability}
use Rattle.account_state.specs.Fields.{session_enabled}
use Rattle.account_state.specs.Reading.{EntryReading, StateReading}

-- 01: "Capability bits 1, 2, 4, 8: spend, rotate, recovery, session issue."
abbrev pub issues_session : EntryReading → Bool
issues_session e = has_capability e.capabilities 8

-- 02, change 10: "A successor may not carry either": flag 2 is clear, and no entry has the capability
unfoldable pub session_free : StateReading → Bool
session_free r = not (session_enabled r.flags) && every (λ e. not (issues_session e)) r.entries

-- what the test says, of the flag and of each entry
abbrev pub NoneIssues : List EntryReading → Type 0
NoneIssues [] = Unit {0}
NoneIssues (e ∷ es) = (issues_session e ≡ false) × NoneIssues es

pub record SessionFree (r : StateReading) : Type 0 where
  pub flag : session_enabled r.flags ≡ false
  pub entries : NoneIssues r.entries
