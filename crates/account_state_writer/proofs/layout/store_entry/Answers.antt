-- `account_state_writer::layout::store_entry` meets its contract: its first part, and the key and aux behind. Assumes nothing.
use Prim.Native.Nat.{◌+◌, ◌-◌}
use native.Mathlib.Omega.{arith}
use Rattle.account_state_writer.specs.Lent.{numbers_lent, entry_lent}
use Rattle.account_state_writer.proofs.Lent.{entry-stored}
use Rattle.account_state_writer.proofs.layout.store_entry.Goals as goal

pub returns : goal.returns
unfolding entry_lent
returns c =
    let e = c.args.entry.now in
    rw c.store_bytes.ensures
    (entry-stored (numbers_lent e) e.bytes.now e.whole _ c.args.out.now _ c.args.at (c.args.at + 48 - c.args.at) (omega arith) c.split_at.ensures.back c.requires c.store_front.ensures)
