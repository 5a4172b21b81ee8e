-- `account_state_writer::layout::store_head` meets its contract: the numbers of the header, stored one behind another. Assumes nothing.
use Rattle.octets.proofs.LayoutLaws.{layout_stored, store_numbers}
use Rattle.account_state.specs.Reading.{state_header_fields}
use Rattle.account_state_writer.proofs.layout.store_head.Goals as goal

pub returns : goal.returns
unfolding state_header_fields store_numbers
returns c = rw layout_stored (cc)
