-- `account_state_writer::layout::store_front` meets its contract: the numbers, the verifier and the lengths, one behind another.
-- Assumes nothing.
use Rattle.octets.proofs.LayoutLaws.{layout_stored, store_numbers}
use Rattle.account_state_writer.specs.Lent.{numbers_lent, entry_lent}
use Rattle.account_state_writer.proofs.Lent.{field_numbers, front-whole}
use Rattle.account_state_writer.proofs.layout.store_front.Goals as goal

pub returns : goal.returns
unfolding store_numbers field_numbers entry_lent
returns c =
    let e = c.args.entry.now in
    rw (← front-whole (numbers_lent e) e.bytes.now e.whole c.args.verifier.now c.args.front.now c.requires (λ i. (c.type_inv.verifier i).fits), layout_stored)
    (cc)
