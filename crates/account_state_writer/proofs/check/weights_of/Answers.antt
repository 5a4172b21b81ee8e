-- `account_state_writer::check::weights_of` meets its contract: what is left to add gives the whole, of each weight. Assumes
-- nothing.
use Rattle.account_state.proofs.Weighing.{weigh-next, weigh-done}
use Rattle.account_state_writer.specs.Writer.{entry_from}
use Rattle.account_state_writer.specs.Lent.{entry_lent}
use Rattle.account_state_writer.proofs.check.weights_of.Goals as goal

pub loop-entry-preserved : goal.loop-entry-preserved
unfolding entry_lent entry_from
loop-entry-preserved c =
    let w = c.with_entry-weights.ensures in
    weigh-next _ _ _ _ _ _ c.loop-entry.invariant c.in-Some.ensures.steps w.value w.room

pub returns : goal.returns
returns c = weigh-done _ _ _ c.loop-entry.invariant c.in-None.ensures.steps.0
