-- `protocol::args::account_lock_args` meets its contract: the version, and the account stored behind it.
-- Assumes nothing.
use mathlib.Core.Path.{◌≡◌, ap}
use mathlib.Core.List.{List, ◌∷◌, append-nil}
use Prim.Native.Nat.{ℕ, ◌+◌, ◌≤◌}
use native.Mathlib.Omega.{arith}
use lib.ListN.{length, replicate}
use lib.Seq.{sets-eq}
use Rattle.protocol.specs.Args.{args_bytes}
use borrow.Author.Rules.{rules}
use Rattle.protocol.proofs.args.account_lock_args.Goals as goal

pub returns : goal.returns
unfolding args_bytes
returns c =
    let a : List ℕ = c.args.account in
    let l : List ℕ = replicate 33 1 in
    let n : length a ≡ 32 = search rules in
    let h : 1 + length a ≤ length l = omega arith in
    rw (c.store_bytes.ensures, sets-eq a l 1 h, n) (ap (λ (t : List ℕ). 1 ∷ t) (append-nil a))
