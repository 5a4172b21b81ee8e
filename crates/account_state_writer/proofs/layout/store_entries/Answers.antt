-- `account_state_writer::layout::store_entries` meets its contract: what is left to store, stored, is the whole.
-- Assumes nothing.
use mathlib.Core.Path.{◌≡◌, ap, ◌∙◌}
use native.Mathlib.Omega.{arith}
use lib.ListN.{length}
use lib.Seq.{length-sets}
use Rattle.account_state_writer.proofs.Lent.{length-first, store-next}
use Rattle.account_state_writer.proofs.Entries.{length-stored}
use Rattle.account_state_writer.proofs.layout.store_entries.Goals as goal

pub store_entry-requires : goal.store_entry-requires
store_entry-requires c =
    omega (arith, length-first _ _ _ c.in-Some.ensures.steps, length-stored c.in-Some.entry)

pub loop-entry-preserved : goal.loop-entry-preserved
loop-entry-preserved c =
    let f = length-first _ _ _ c.in-Some.ensures.steps in
    let n = length-stored c.in-Some.entry in
    let h = c.store_entry.ensures in
    let s : length c.store_entry.new.out ≡ length c.loop-entry.out = ap length h ∙ simp length-sets in (
      omega arith,
      omega arith,
      store-next _ _ _ _ _ _ _ _ c.in-Some.ensures.steps h (omega arith) c.loop-entry.invariant.2,
    )
