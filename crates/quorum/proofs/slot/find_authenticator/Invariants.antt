-- `quorum::slot::find_authenticator` meets its contract: what is left to look at gives the whole. Assumes nothing.
use Prim.Native.Nat.{◌-◌}
use Rattle.quorum.proofs.PlaceLaws.{Seeking}
use Rattle.quorum.proofs.slot.find_authenticator.Given as goal

abbrev pub invariant-loop : goal.invariant-loop
invariant-loop l = Seeking l.slot l.state (l.end - l.counter) l.at
