-- `account_state::header::header_at` meets its contract: each field as it is read. Assumes nothing.
use native.Mathlib.Omega.{arith}
use Rattle.account_state.specs.State.{state_header_of}
use Rattle.account_state.proofs.StateLaws.{front-number}
use Rattle.account_state.proofs.header.header_at.Goals as goal

pub returns : goal.returns
unfolding state_header_of
returns c =
    let s = c.args.state.now in
    grind (arith, front-number s 32 5 1, front-number s 32 8 8, front-number s 32 16 2, front-number s 32 18 2, front-number s 32 20 2, front-number s 32 22 1, front-number s 32 24 8)
