-- `account_state::validate_state` meets its contract: by what the walk finds, and the row behind it. Assumes nothing.
use native.Mathlib.Omega.{arith}
use Rattle.protocol.specs.Rows.{decide}
use Rattle.protocol.proofs.AllPass.{decide-failed}
use Rattle.account_state.specs.State.{state_end_rows, read_state}
use Rattle.account_state.proofs.StateLaws.{fault-entries, fault-end}
use Rattle.account_state.proofs.validate_state.Goals as goal

pub returns-in_err-walk-clause-value : goal.returns-in_err-walk-clause-value
unfolding read_state
returns-in_err-walk-clause-value c = grind (arith, fault-entries c.args.state.now)

pub returns-in_err-require-clause-value : goal.returns-in_err-require-clause-value
unfolding decide read_state state_end_rows
returns-in_err-require-clause-value c = grind (arith, fault-end c.args.state.now, decide-failed)
