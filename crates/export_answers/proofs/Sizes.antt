-- Slices that pass for 32 bytes are their own arrays.
-- Assumes nothing.
use Rattle.std.specs.Prelude.{Ok}
use mathlib.Core.Path.{◌≡◌}
use mathlib.Core.List.{List}
use Prim.Native.Nat.{ℕ}
use borrow.Author.Tests.{eqb-true}
use Rattle.octets.specs.Lists.{array_of}
use Rattle.octets.proofs.Arrays.{array_whole}
use Rattle.protocol.proofs.AllPass.{passed-all-pass}
use Rattle.export_answers.specs.Lent.{sizes_fault}

-- the first of two
pub first-whole : (a b : List ℕ) → sizes_fault a b ≡ Ok tt → array_of 32 a ≡ a
unfolding sizes_fault
first-whole a b e = array_whole 32 a (eqb-true _ _ (passed-all-pass _ e).0)

-- the second
pub second-whole : (a b : List ℕ) → sizes_fault a b ≡ Ok tt → array_of 32 b ≡ b
unfolding sizes_fault
second-whole a b e = array_whole 32 b (eqb-true _ _ (passed-all-pass _ e).1.0)
