-- `account_state_writer::layout::store_state` meets its contract: the header, and the entries behind it. Assumes nothing.
use native.Mathlib.Omega.{arith}
use lib.ListN.{length}
use Rattle.octets.specs.Layout.{layout_bytes}
use Rattle.octets.proofs.Stores.{sets-append}
use Rattle.account_state.specs.Reading.{state_header_fields, state_head, state_bytes}
use Rattle.account_state_writer.specs.Lent.{entries_lent, state_lent}
use Rattle.account_state_writer.proofs.Lent.{length-head}
use Rattle.account_state_writer.proofs.layout.store_state.Goals as goal

pub returns : goal.returns
unfolding state_bytes state_head state_lent
returns c =
    let h = c.args.header.now in
    rw (c.store_entries.ensures, c.store_head.ensures, c.requires.count)
    (sets-append c.args.out.now 0 (layout_bytes (state_header_fields h.flags h.sequence h.spend_threshold h.rotate_threshold h.recovery_threshold (length (entries_lent c.args.entries)) h.recovery_since)) _ 32 (omega (arith, length-head h.flags h.sequence h.spend_threshold h.rotate_threshold h.recovery_threshold (length (entries_lent c.args.entries)) h.recovery_since)))
