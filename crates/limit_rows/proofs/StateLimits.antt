-- `state-limits` (specs/StateLimits): each row computed from the definitions. Assumes nothing.
use Rattle.std.specs.Prelude.{refl}
use Rattle.octets.specs.Le.{to_le, from_le, number_at}
use Rattle.octets.specs.Lists.{tabulate}
use Rattle.protocol.specs.Rows.{◌▷◌, decide}
use Rattle.protocol.specs.Policy.{is_supported_algorithm, has_capability}
use Rattle.account_state.specs.Reading.{entry_of, entries_of, state_reading, capable_share, capable_weight}
use Rattle.account_state.specs.State.{state_header_rows, entry_layout_rows, entry_field_rows, original_entry_rows, entry_rows, entries_rows, behind_entries, recovery_threshold_rows, threshold_rows, state_end_rows, summary_of, state_tail_rows, state_rows, state_fault, state_header_of, read_state_header, read_state}
use Rattle.limit_rows.specs.StateLimits.{StateLimits, state_front, entry_with, head_places, entry_places}

pub state-limits : StateLimits
unfolding to_le from_le number_at tabulate decide is_supported_algorithm has_capability entry_of entries_of state_reading capable_share capable_weight state_header_rows entry_layout_rows entry_field_rows original_entry_rows entry_rows entries_rows behind_entries recovery_threshold_rows threshold_rows state_end_rows summary_of state_tail_rows state_rows state_fault state_header_of read_state_header read_state state_front entry_with head_places entry_places
state-limits =
    record {
      of-32 = refl;
      of-16384 = λ rest h. rw h;
      of-16385 = λ rest h. rw h;
      letters = refl;
      versions = refl;
      flags = refl;
      header-length = refl;
      byte-23 = refl;
      counts = refl;
      flag-2 = refl;
      flags-3 = refl;
      capabilities = refl;
      thresholds-0 = refl;
      thresholds = refl;
      thresholds-above = refl;
      recovery-off = refl;
      recovery-on = refl;
      algorithms = refl;
      no-algorithms = refl;
      weights = refl;
      hash-types = refl;
      abi = refl;
      entry_length = refl;
      key = refl;
      aux = refl;
      slots = refl;
      byte-behind = refl;
      header-places = refl;
      entry-places = refl;
      next_place = refl;
    }
