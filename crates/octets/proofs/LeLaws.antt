-- The laws of little-endian numbers, each for every width: a number's bytes and back, its bound, and the bytes one by one.
-- Assumes nothing.
use mathlib.Core.Path.{◌≡◌, refl, sym, ap, ◌∙◌}
use mathlib.Core.List.{List, [], ◌∷◌, ◌++◌}
use Prim.Native.Nat.{ℕ, zero, suc, ◌+◌, ◌-◌, ◌*◌, ◌/◌, ◌%◌, ◌^◌, ◌≤◌, ◌<◌}
use native.Mathlib.Nat.{pow-suc, one-le-pow, pow-le-pow_right, lt_of_lt_of_le, zero-lt-suc, mod-eq_of_lt, mod-lt, mod-add-div, div-one, div-div-eq-div-mul, mul_comm, mul_assoc, add-mul-mod_self_left, le_of_suc-le-suc, not-suc-le-zero}
use native.Mathlib.Omega.{arith}
use lib.Dec.{lit<}
use lib.ListN.{length, take, drop, get_or, length-drop}
use lib.Seq.{drop-cons, get_or-drop, take_all, sets}
use Rattle.std.specs.Int.{w64, byte_at, bytes_low_first, to_le_bytes}
use Rattle.octets.specs.Le.{to_le, from_le, number_at, Bytes}
use Rattle.octets.proofs.Parts.{part_length}
use Rattle.octets.proofs.Stores.{sets-clip, sets-cons, sets-lent}

pub length_to : (k n : ℕ) → length (to_le k n) ≡ k
unfolding to_le
length_to zero n = refl
length_to (suc k) n = ap suc (length_to k (n / 256))

-- the library's bytes of a number, from byte i up
byte-low : (i n : ℕ) → byte_at i n ≡ n / 256 ^ i % 256
byte-low zero n = rw div-one
byte-low (suc i) n = refl

bytes-low : (k i n : ℕ) → bytes_low_first i k n ≡ to_le k (n / 256 ^ i)
unfolding to_le
bytes-low zero i n = refl
bytes-low (suc k) i n =
    let e : n / 256 ^ suc i ≡ n / 256 ^ i / 256 = rw pow-suc (sym (div-div-eq-div-mul n (256 ^ i) 256)) in
    rw (byte-low i n, bytes-low k (suc i) n, e)

pub le_bytes_of_u64 : (n : ℕ) → to_le 8 n ≡ to_le_bytes w64 n
le_bytes_of_u64 n = sym (bytes-low 8 0 n ∙ ap (to_le 8) (div-one n))

-- the lowest byte, and the remainder of the rest
mod-digit : (n m : ℕ) → 0 < m → n % 256 + 256 * (n / 256 % m) ≡ n % (m * 256)
mod-digit n m pos =
    let q : ℕ = n / 256 in
    let low : q % m < m = mod-lt q pos in
    let p : q % m + m * (q / m) ≡ q = mod-add-div q m in
    let a : m * 256 * (q / m) ≡ 256 * (m * (q / m)) = rw (mul_comm m 256, mul_assoc) in
    let e : n % 256 + 256 * (q % m) + m * 256 * (q / m) ≡ n = omega arith in
    let s : n % 256 + 256 * (q % m) < m * 256 = omega arith in
    sym (mod-eq_of_lt s) ∙ (sym (add-mul-mod_self_left (n % 256 + 256 * (q % m)) (m * 256) (q / m)) ∙ ap (λ (x : ℕ). x % (m * 256)) e)

-- written and read back: the k lowest bytes
pub from-to : (k n : ℕ) → from_le (to_le k n) ≡ n % 256 ^ k
unfolding to_le from_le
from-to zero n = omega arith
from-to (suc k) n = rw (from-to k (n / 256), pow-suc) (mod-digit n (256 ^ k) (one-le-pow k 256 (zero-lt-suc 255)))

-- a number that fits is read back
pub from-to-fit : (k n : ℕ) → n < 256 ^ k → from_le (to_le k n) ≡ n
from-to-fit k n h = from-to k n ∙ mod-eq_of_lt h

-- read and written back
pub to-from : (bs : List ℕ) → Bytes bs → to_le (length bs) (from_le bs) ≡ bs
unfolding to_le from_le
to-from [] h = refl
to-from (b ∷ bs) h =
    let low : b < 256 = h 0 in
    let head : (b + 256 * from_le bs) % 256 ≡ b = omega arith in
    let rest : (b + 256 * from_le bs) / 256 ≡ from_le bs = omega arith in
    rw (head, rest, to-from bs (λ i. h (suc i)))

pub bytes_drop : (n : ℕ) (s : List ℕ) → Bytes s → Bytes (drop n s)
bytes_drop n s h i = rw get_or-drop (h (n + i))

pub bytes_take : (n : ℕ) (s : List ℕ) → Bytes s → Bytes (take n s)
bytes_take zero s h i = lit< tt
bytes_take (suc n) [] h i = lit< tt
bytes_take (suc n) (b ∷ s) h zero = h 0
bytes_take (suc n) (b ∷ s) h (suc i) = bytes_take n s (λ j. h (suc j)) i

pub bytes-append : (s t : List ℕ) → Bytes s → Bytes t → Bytes (s ++ t)
bytes-append [] t h k i = k i
bytes-append (b ∷ s) t h k zero = h 0
bytes-append (b ∷ s) t h k (suc i) = bytes-append s t (λ j. h (suc j)) k i

pub bytes-to : (k n : ℕ) → Bytes (to_le k n)
unfolding to_le
bytes-to zero n i = lit< tt
bytes-to (suc k) n zero = omega arith
bytes-to (suc k) n (suc i) = bytes-to k (n / 256) i

from-take-lt : (k : ℕ) (s : List ℕ) → Bytes s → from_le (take k s) < 256 ^ k
unfolding from_le
from-take-lt zero s h = lit< tt
from-take-lt (suc k) [] h = one-le-pow (suc k) 256 (zero-lt-suc 255)
from-take-lt (suc k) (b ∷ s) h =
    let low : b < 256 = h 0 in
    let rest : from_le (take k s) < 256 ^ k = from-take-lt k s (λ i. h (suc i)) in
    rw pow-suc (omega arith)

-- a number of k bytes is below 256 ^ k
pub number_lt : (s : List ℕ) (at k : ℕ) → Bytes s → number_at s at k < 256 ^ k
unfolding number_at
number_lt s at k h = from-take-lt k (drop at s) (bytes_drop at s h)

-- and below any larger power, which at a numeral m computes
pub number-under : (s : List ℕ) (at k m : ℕ) → Bytes s → k ≤ m → number_at s at k < 256 ^ m
number-under s at k m h l = lt_of_lt_of_le (number_lt s at k h) (pow-le-pow_right (zero-lt-suc 255) l)

-- one byte more, in front
pub number-cons : (s : List ℕ) (at k : ℕ) → at < length s → number_at s at (suc k) ≡ get_or s at 0 + 256 * number_at s (suc at) k
unfolding number_at from_le
number-cons s at k h = rw (drop-cons s at 0)

-- a number of one byte is that byte
pub number-one : (s : List ℕ) (at : ℕ) → number_at s at 1 ≡ get_or s at 0
unfolding number_at from_le
number-one [] zero = refl
number-one [] (suc at) = refl
number-one (b ∷ s) zero = omega arith
number-one (b ∷ s) (suc at) = number-one s at

-- a number of no bytes
pub number-none : (s : List ℕ) (at k : ℕ) → k ≡ 0 → 0 ≡ number_at s at k
unfolding number_at from_le
number-none s at k e = rw e

-- the bytes past the end add nothing
pub number-clip : (s : List ℕ) (at k : ℕ) → length s ≤ at + k → number_at s at (length s - at) ≡ number_at s at k
unfolding number_at
number-clip s at k h =
    let l : length (drop at s) ≡ length s - at = length-drop at s in
    rw (take_all (length s - at) (drop at s) (omega arith), take_all k (drop at s) (omega arith))

-- a number that begins past the end is 0
pub number-out : (s : List ℕ) (at k : ℕ) → length s ≤ at → 0 ≡ number_at s at k
number-out s at k h = number-none s at (length s - at) (omega arith) ∙ number-clip s at k (omega arith)

-- the first k of a number's bytes
pub take-to : (k w n : ℕ) → k ≤ w → take k (to_le w n) ≡ to_le k n
unfolding to_le
take-to zero w n h = refl
take-to (suc k) zero n h = absurd (not-suc-le-zero h)
take-to (suc k) (suc w) n h = rw (take-to k w (n / 256) (le_of_suc-le-suc h))

-- a turn of the loop that reads from the last byte down
pub number-turn : (s : List ℕ) (at width left : ℕ) → 0 < left → left ≤ width → width ≤ length s - at
    → get_or s (at + (left - 1)) 0 + 256 * number_at s (at + left) (width - left) ≡ number_at s (at + (left - 1)) (width - (left - 1))
number-turn s at width left p l h =
    let a : at + left ≡ suc (at + (left - 1)) = omega arith in
    let k : width - (left - 1) ≡ suc (width - left) = omega arith in
    rw (a, k) (sym (number-cons s (at + (left - 1)) (width - left) (omega arith)))

-- a turn of the loop that writes from the first byte up: what is left to write
pub to-turn : (width i n : ℕ) → i < width → to_le (width - i) n ≡ n % 256 ∷ to_le (width - (i + 1)) (n / 256)
unfolding to_le
to-turn width i n h =
    let e : width - i ≡ suc (width - (i + 1)) = omega arith in
    rw e

-- after the last turn nothing is left
pub to_none : (k n : ℕ) → k ≡ 0 → to_le k n ≡ []
unfolding to_le
to_none k n e = rw e

-- a number whose bytes run past the end, stored as far as there is room
pub sets-to-clip : (l : List ℕ) (at k w n : ℕ) → length l ≤ at + k → k ≤ w → sets l at (to_le k n) ≡ sets l at (to_le w n)
sets-to-clip l at k w n h le = rw (← take-to k w n le) (sets-clip (to_le w n) l at k h)

pub ruleset number_stores = (sets-to-clip)

pub ruleset read_turns = (number-turn, number-under, number-none)

pub ruleset write_turns = (to-turn, to_none, length_to, part_length, sets-cons, sets-lent)
