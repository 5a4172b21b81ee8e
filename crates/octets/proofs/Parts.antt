-- Parts of a list: read back, joined, and their lengths.
-- Assumes nothing.
use mathlib.Core.Path.{◌≡◌, sym}
use mathlib.Core.List.{List, ◌++◌}
use Prim.Native.Nat.{ℕ, ◌+◌, ◌-◌, ◌≤◌}
use native.Mathlib.Omega.{arith}
use lib.ListN.{length, take, drop, length-drop}
use lib.Seq.{take-add, take_at, drop_at, drop-drop, length-take-le, take_all}

-- a part is read back
pub part-back : (s p q t : List ℕ) (at n : ℕ) → s ≡ p ++ (q ++ t) → length p ≡ at → length q ≡ n → take n (drop at s) ≡ q
part-back s p q t at n e hp hq = rw (e, drop_at p (q ++ t) at hp, take_at q t n hq)

-- two neighbouring parts are one
pub join : (s : List ℕ) (at n m next : ℕ) → next ≡ at + n → take n (drop at s) ++ take m (drop next s) ≡ take (n + m) (drop at s)
join s at n m next e = rw (e, ← drop-drop n at s) (sym (take-add n m (drop at s)))

-- the length of a part that is present
pub part_length : (s : List ℕ) (at n : ℕ) → at + n ≤ length s → length (take n (drop at s)) ≡ n
part_length s at n h = length-take-le n (drop at s) (rw (length-drop at s) (omega arith))

-- a part that runs past the end is the rest
pub part-clip : (s : List ℕ) (at n : ℕ) → length s ≤ at + n → take n (drop at s) ≡ drop at s
part-clip s at n h = let l : length (drop at s) ≡ length s - at = length-drop at s in take_all n (drop at s) (omega arith)
