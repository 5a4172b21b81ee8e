-- Where the reader of a state refuses an aux with 44.
use Rattle.std.specs.Prelude.{ℕ, ◌<◌, List, drop}
use Rattle.protocol.specs.Rows.{AllPass}
use Rattle.account_state.specs.Fields.{entry_count_of, entry_bytes_of, aux_length_of, aux_max_length}
use Rattle.account_state.specs.State.{state_header_rows, original_entry_rows, entries_rows, entry_cursor_at}

-- 02, change 6: "44 in each entry, after the empty-aux check": the header passes, and so do the entries before the one of this index,
-- which passes document 01's checks of an entry and says an aux above the limit
pub record AuxRefused (s : List ℕ) : Type 0 where
  pub header : AllPass (state_header_rows s)
  pub index : ℕ
  pub counted : index < entry_count_of s
  pub earlier : AllPass (entries_rows index (entry_bytes_of s) 0)
  pub own : AllPass (original_entry_rows (drop (entry_cursor_at s index).offset s) (entry_cursor_at s index).least)
  pub above : aux_max_length < aux_length_of (drop (entry_cursor_at s index).offset s)
