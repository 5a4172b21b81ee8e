-- `state_transition::session::session_free` meets its contract: what is left to look at gives the whole. Assumes nothing.
use Prim.Native.Nat.{◌-◌}
use Rattle.state_transition.proofs.SessionLaws.{Looking}
use Rattle.state_transition.proofs.session.session_free.Given as goal

abbrev pub invariant-loop : goal.invariant-loop
invariant-loop l = Looking l.state (l.end - l.counter) l.entry
