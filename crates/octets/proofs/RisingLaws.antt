-- Strictly rising lists: what their test decides, its loop, and their members.
-- Assumes nothing.
use mathlib.Core.Path.{◌≡◌, refl}
use mathlib.Core.Logic.{◌↔◌, ⊎_elim}
use mathlib.Core.Bool.{true, ◌&&◌}
use mathlib.Core.List.Memᴰ
use mathlib.Core.List.{List, [], ◌∷◌, Memᴰ}
use Prim.Native.Nat.{ℕ, ◌+◌, ◌≤◌, ◌<◌}
use native.Mathlib.Numerals.{add-one}
use native.Mathlib.Omega.{arith}
use borrow.Author.Tests.{le-leb, leb-true}
use lib.Dec.{leb}
use lib.ListN.{length, drop, get_or, drop_of_length-le}
use lib.Seq.{drop-cons}
use Rattle.octets.specs.Lists.{Rising, is_rising}
use Rattle.octets.proofs.Truth.{and_both, both-and}

-- the test passes exactly where the list rises strictly
pub rising-decides : (least : ℕ) (ns : List ℕ) → (is_rising least ns ≡ true) ↔ Rising least ns
unfolding is_rising
rising-decides least [] = (λ _. tt, λ _. refl)
rising-decides least (n ∷ ns) =
    let rest = rising-decides (n + 1) ns in (
      λ h. let b = and_both (leb least n) (is_rising (n + 1) ns) h in (leb-true least n b.0, rest.0 b.1),
      λ r. both-and (leb least n) (is_rising (n + 1) ns) (le-leb least n r.0) (rest.1 r.1),
    )

-- a turn of the loop: the number at i, and the rest above it
pub rising-turn : (ns : List ℕ) (least i : ℕ) → i < length ns
    → is_rising least (drop i ns) ≡ (leb least (get_or ns i 0) && is_rising (get_or ns i 0 + 1) (drop (i + 1) ns))
unfolding is_rising
rising-turn ns least i h = rw (add-one i, drop-cons ns i 0)

-- nothing is left
pub rising-end : (ns : List ℕ) (least i : ℕ) → length ns ≤ i → is_rising least (drop i ns) ≡ true
unfolding is_rising
rising-end ns least i h = rw (drop_of_length-le ns h)

-- no member is below the least
pub rising-member : {least n : ℕ} (ns : List ℕ) → Rising least ns → Memᴰ n ns → least ≤ n
rising-member [] r m = absurd (Memᴰ.not-nil m)
rising-member {least = least} {n = n} (x ∷ xs) r m =
    ⊎_elim (λ e. omega arith) (λ t. let h = rising-member {least = x + 1} {n = n} xs r.1 t in omega arith) (Memᴰ.cases_cons m)

-- what rises from a number on rises from a lower one on
pub rising-less : {k l : ℕ} (ns : List ℕ) → k ≤ l → Rising l ns → Rising k ns
rising-less [] h r = tt
rising-less (x ∷ xs) h r = (omega (arith, r.0), r.1)

pub ruleset rising_turns = (rising-turn, rising-end)
