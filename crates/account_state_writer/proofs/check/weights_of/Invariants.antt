-- `account_state_writer::check::weights_of` meets its contract: what is left to add gives the whole, of each weight. Assumes
-- nothing.
use Rattle.account_state.proofs.Weighing.{Weighing}
use Rattle.account_state_writer.specs.Lent.{entries_lent}
use Rattle.account_state_writer.proofs.check.weights_of.Given as goal

abbrev pub invariant-loop-entry : goal.invariant-loop-entry
invariant-loop-entry l = Weighing (entries_lent l.entries) (entries_lent l.entry-iterator) l.weights
