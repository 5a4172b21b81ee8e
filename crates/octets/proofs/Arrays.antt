-- A list's bytes in an array: it is as long as it was made, and bytes that fill it stand there as they are.
-- Assumes nothing.
use mathlib.Core.Path.{◌≡◌, ◌∙◌}
use mathlib.Core.List.{List}
use Prim.Native.Nat.{ℕ}
use native.Mathlib.Omega.{arith}
use lib.ListN.{length, replicate, length-replicate}
use lib.Seq.{length-sets, take_all}
use Rattle.octets.specs.Lists.{array_of}
use Rattle.octets.proofs.Stores.{sets_over}

-- an array of n bytes has n
pub length-array : (n : ℕ) (s : List ℕ) → length (array_of n s) ≡ n
unfolding array_of
length-array n s = simp (length-sets, length-replicate)

-- n bytes fill it
pub array_whole : (n : ℕ) (s : List ℕ) → length s ≡ n → array_of n s ≡ s
unfolding array_of
array_whole n s e =
    let zeros : List ℕ = replicate n 0 in
    let m : length zeros ≡ n = length-replicate n 0 in
    sets_over zeros s (omega arith) ∙ take_all (length zeros) s (omega arith)
