-- The args' reader hands out the account: the 32 bytes at the place that it gives are the account id.
-- Assumes nothing.
use Rattle.std.specs.Prelude.{Ok}
use mathlib.Core.Path.{◌≡◌, sym, ap}
use mathlib.Core.List.{List}
use Prim.Native.Nat.{ℕ}
use lib.ListN.{take, drop}
use Rattle.protocol.specs.Args.{args_rows, read_args, account_of}
use Rattle.protocol.specs.Rows.{decide}
use Rattle.protocol.specs.declared.args.AccountLockArgs.{AccountLockArgs}
use Rattle.protocol.proofs.Answers.{then-given}

-- the account at the place that the reader gives
pub args-given : (s : List ℕ) (a : AccountLockArgs) → read_args s ≡ Ok a → take 32 (drop a.account_id s) ≡ account_of s
unfolding read_args account_of
args-given s a e =
    let same = (then-given (record { version = 1; account_id = 1 }) (decide (Ok tt) (args_rows s)) a e).1 in
    rw (ap (λ (b : AccountLockArgs). b.account_id) (sym same))
