-- `account_state::walk::walk_entries` meets its contract: what is left to walk gives the whole.
-- Assumes nothing.
use Prim.Native.Nat.{◌-◌}
use Rattle.account_state.proofs.EntriesWalkLaws.{Walking}
use Rattle.account_state.proofs.walk.walk_entries.Given as goal

abbrev pub invariant-loop : goal.invariant-loop
invariant-loop l = Walking l.state l.count (l.count - l.counter) l.entry l.least l.summary
