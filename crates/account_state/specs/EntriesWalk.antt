-- Private: no public contract cites this file.
-- What the walk over the entries gives: their weights and the count of bytes behind them, or the first refusal.
use Rattle.std.specs.Prelude.{ℕ, List, length, Ok, Result}
use Rattle.protocol.specs.declared.error.ProtocolError.{ProtocolError}
use Rattle.protocol.specs.Rows.{◌then◌, decide}
use Rattle.account_state.specs.Reading.{entries_of}
use Rattle.account_state.specs.State.{entries_rows, behind_entries, summary_of}
use Rattle.account_state.specs.declared.walk.EntriesWalk.{EntriesWalk}

unfoldable pub entries_walk_of : ℕ → List ℕ → EntriesWalk
entries_walk_of n e = record { tail = length (behind_entries n e); summary = summary_of (entries_of n e) }

unfoldable pub walk_entries : ℕ → List ℕ → Result EntriesWalk ProtocolError
walk_entries n e = decide (Ok tt) (entries_rows n e 0) then Ok (entries_walk_of n e)
