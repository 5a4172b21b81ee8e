-- `account_state_writer::check::check_entries` meets its contract: what is left to check gives the whole.
-- Assumes nothing.
use Rattle.std.specs.Prelude.{Ok}
use mathlib.Core.Path.{◌≡◌}
use Rattle.protocol.specs.Rows.{decide}
use Rattle.account_state_writer.specs.Lent.{entries_lent}
use Rattle.account_state_writer.specs.Checks.{entries_checks}
use Rattle.account_state_writer.proofs.check.check_entries.Given as goal

abbrev pub invariant-loop-entry : goal.invariant-loop-entry
invariant-loop-entry l =
    decide (Ok tt) (entries_checks (entries_lent l.entry-iterator) l.least) ≡ decide (Ok tt) (entries_checks (entries_lent l.entries) 0)
