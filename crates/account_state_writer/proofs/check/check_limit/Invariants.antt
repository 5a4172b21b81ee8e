-- `account_state_writer::check::check_limit` meets its contract: what is left to check gives the whole.
-- Assumes nothing.
use Rattle.std.specs.Prelude.{Ok}
use mathlib.Core.Path.{◌≡◌}
use Rattle.protocol.specs.Rows.{decide}
use Rattle.account_state_writer.specs.Writer.{aux_limit_rows}
use Rattle.account_state_writer.specs.Lent.{entries_lent}
use Rattle.account_state_writer.proofs.check.check_limit.Given as goal

abbrev pub invariant-loop-entry : goal.invariant-loop-entry
invariant-loop-entry l =
    decide (Ok tt) (aux_limit_rows (entries_lent l.entry-iterator)) ≡ decide (Ok tt) (aux_limit_rows (entries_lent l.entries))
