-- `test_lock::bytes` meets its contract. Assumes nothing.
use Prim.Native.Nat.{ℕ}
use mathlib.Core.Path.{sym}
use lib.ListN.{length-replicate}
use Rattle.test_lock.proofs.bytes.Goals as goal

pub returns : goal.returns
returns c = sym (length-replicate {0} {A = ℕ} 148992 0)
