-- `test_lock::records` meets its contract. Assumes nothing.
use Prim.Native.Nat.{ℕ}
use mathlib.Core.Path.{sym}
use lib.ListN.{length-replicate}
use Rattle.test_lock.proofs.records.Goals as goal

pub returns : goal.returns
returns c = sym (length-replicate {0} {A = ℕ} 3407872 0)
