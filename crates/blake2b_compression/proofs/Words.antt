-- Words by the library's methods: sums and rotations.
-- Assumes nothing.
use Rattle.std.proofs.Common.{◌≡◌, ℕ, ◌+◌, ◌-◌, ◌*◌, ◌/◌, ◌%◌, ◌^◌, ◌<◌, ◌∙◌, mod-eq_of_lt, List, ◌++◌, length, get_or, set, replicate, append-nil, arith}
use native.Mathlib.Nat.{mod-add-mod, mul-mod_left, mul-div_left, mul_comm, div-lt_iff_lt-mul, add-zero}
use lib.Bits.{bit_xor, or_shifted_r, xor_shifted, xor_comm, xor_zero_r}
use lib.Seq.{take_at, drop_at, set-get_or}
use borrow.Rule.Slice.PartMut.{put_mid}
use lib.Pow.{pow_pos, pow-add, mod-pow-add}
use Rattle.std.specs.Int.{w64, rotate_right}
use Rattle.blake2b_compression.specs.Compression.{rotr, IV, ◌▸◌, xor_at}

-- a sum taken modulo 2 ^ 64 in two steps
pub sum_modulo : (x y : ℕ) → (x % 2 ^ 64 + y) % 2 ^ 64 ≡ (x + y) % 2 ^ 64
sum_modulo x y = rw mod-add-mod

-- what a shift to the left leaves of j and k bits
shifted : (x j k : ℕ) → x * 2 ^ k % 2 ^ (j + k) ≡ (x % 2 ^ j) * 2 ^ k
shifted x j k = mod-pow-add (x * 2 ^ k) j k ∙ rw (mul-div_left x (pow_pos k), mul-mod_left, add-zero)

-- a rotation: its two parts have no bit in common
pub rotated : (x n : ℕ) → x < 2 ^ 64 → 0 < n → n < 64 → rotr x n ≡ rotate_right w64 x n
unfolding rotr
rotated x n small pos less =
    let k : ℕ = 64 - n in
    let e : n + k ≡ 64 = omega arith in
    let n₁ : n % 64 ≡ n = mod-eq_of_lt less in
    let n₂ : (64 - n) % 64 ≡ k = omega arith in
    let up : x * 2 ^ k % 2 ^ 64 ≡ (x % 2 ^ n) * 2 ^ k = rw e at (shifted x n k) in
    let room : x < 2 ^ k * 2 ^ n = rw (mul_comm (2 ^ k) (2 ^ n), ← pow-add 2 n k, e) small in
    let low : x / 2 ^ n < 2 ^ k = (div-lt_iff_lt-mul (pow_pos n)).1 room in
    rw (n₁, n₂, up, or_shifted_r (x % 2 ^ n) k (x / 2 ^ n) low, xor_comm (x / 2 ^ n) (x % 2 ^ n * 2 ^ k), xor_shifted (x % 2 ^ n) k (x / 2 ^ n) low)

-- the work vector before its words are changed: the state, and the words w behind it
pub two_halves : (h w : List ℕ) → length h ≡ 8 → length w ≡ 8 → put_mid 8 8 (h ++ replicate 8 0) w ≡ h ++ w
two_halves h w e f =
    rw (take_at h (replicate 8 0) 8 e, drop_at h (replicate 8 0) 8 e, append-nil)

-- and with the offset, which is below 2 ^ 64
pub offset_words : (h : List ℕ) (t : ℕ) → length h ≡ 8 → t < 2 ^ 64
    → set (h ++ IV) 12 (bit_xor (get_or (h ++ IV) 12 0) t) ≡ ((h ++ IV) ▸ xor_at 12 (t % 2 ^ 64) ▸ xor_at 13 (t / 2 ^ 64))
unfolding xor_at
offset_words h t e small =
    let q : t / 2 ^ 64 ≡ 0 = omega arith in
    rw (mod-eq_of_lt small, q, xor_zero_r, set-get_or)
