-- Lists by their places.
-- Assumes nothing.
use mathlib.Core.Path.{◌≡◌, refl, sym, ◌∙◌}
use mathlib.Core.List.{List, [], ◌∷◌}
use Prim.Native.Nat.{ℕ, zero, suc, ◌<◌}
use native.Mathlib.Numerals.{add-one}
use native.Mathlib.Omega.{arith}
use lib.ListN.{length, take, get_or, length-append, length-take}
use lib.Seq.{take-suc, take_all, get_or-take}
use Rattle.octets.specs.Lists.{tabulate}

-- a list with f k at each place k
pub tabulated : (f : ℕ → ℕ) (n : ℕ) (l : List ℕ) → length l ≡ n → ((k : ℕ) → k < n → get_or l k 0 ≡ f k) → l ≡ tabulate f n
unfolding tabulate
tabulated f zero [] e h = refl
tabulated f zero (x ∷ l) e h = absurd (omega arith)
tabulated f (suc n) l e h =
    let m : length (take n l) ≡ n = omega (arith, length-take n l) in
    let front : take n l ≡ tabulate f n = tabulated f n (take n l) m (λ k q. get_or-take n l k 0 q ∙ h k (omega arith)) in
    sym (take_all (suc n) l (omega arith)) ∙ (take-suc l n 0 (omega arith) ∙ rw (front, h n (omega arith)))

pub length-tabulate : (f : ℕ → ℕ) (n : ℕ) → length (tabulate f n) ≡ n
unfolding tabulate
length-tabulate f zero = refl
length-tabulate f (suc n) = rw (length-append, length-tabulate f n, add-one)
