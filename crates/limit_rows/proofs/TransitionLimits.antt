-- `transition-limits` (specs/TransitionLimits): each row computed from the definitions. Assumes nothing.
use Rattle.std.specs.Prelude.{refl}
use Rattle.octets.specs.Le.{to_le, from_le, number_at}
use Rattle.octets.specs.Lists.{same, every}
use Rattle.protocol.specs.Rows.{◌▷◌, decide}
use Rattle.protocol.specs.Policy.{is_supported_algorithm, has_capability}
use Rattle.account_state.specs.Reading.{entry_of, entries_of, state_reading, capable_share, capable_weight}
use Rattle.account_state.specs.State.{state_header_rows, entry_layout_rows, entry_field_rows, original_entry_rows, entry_rows, entries_rows, behind_entries, recovery_threshold_rows, threshold_rows, state_end_rows, summary_of, state_tail_rows, state_rows}
use Rattle.cell_search.specs.Search.{cells_of, cell_hash, matching, matches, search_of, cell_search, no_cell, cell_at}
use Rattle.since.specs.Epoch.{epoch_of, epoch_well_formed, divisor, parts, epoch_leb}
use Rattle.since.specs.Since.{since_fields, in_epochs, well_formed, value_leb, reached}
use Rattle.state_transition.specs.Resolve.{state_indices, state_index, state_cell, spend_rows, type_rows, change_rows, resolve_rows, state_source, current_state, successor_state, no_input, state_since}
use Rattle.state_transition.specs.Session.{session_free}
use Rattle.state_transition.specs.Transition.{data_rows, current_rows, successor_rows, wait_rows, recovery_rows, succession_rows, transition_rows}
use Rattle.limit_rows.specs.StateLimits.{entry_with}
use Rattle.limit_rows.specs.TransitionLimits.{TransitionLimits, state_at}

pub transition-limits : TransitionLimits
unfolding to_le from_le number_at same every decide is_supported_algorithm has_capability entry_of entries_of state_reading capable_share capable_weight state_header_rows entry_layout_rows entry_field_rows original_entry_rows entry_rows entries_rows behind_entries recovery_threshold_rows threshold_rows state_end_rows summary_of state_tail_rows state_rows cells_of cell_hash matching matches search_of cell_search no_cell cell_at epoch_of epoch_well_formed divisor parts epoch_leb since_fields in_epochs well_formed value_leb reached state_indices state_index state_cell spend_rows type_rows change_rows resolve_rows state_source current_state successor_state no_input state_since session_free data_rows current_rows successor_rows wait_rows recovery_rows succession_rows transition_rows entry_with state_at
transition-limits =
    record {
      spends = refl;
      rotations = refl;
      recoveries = refl;
      current = refl;
      successor = refl;
      input-since = refl;
      type-512 = refl;
      type-513 = λ script h. rw h;
      type-differs = refl;
      data-16384 = λ state h. rw h;
      data-16385 = λ state h. rw h;
      successor-16385 = λ state h. rw h;
      witness-sequence = refl;
      successor-sequence = refl;
      last-sequence = refl;
      sessions = refl;
      recovery = refl;
      waits = refl;
    }
