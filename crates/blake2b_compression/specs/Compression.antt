-- The compression function F of BLAKE2b, as RFC 7693 defines it in sections 2.1 to 3.2, in the RFC's order and with its names. A word is
-- a number below 2 ^ 64 (w = 64), there are twelve rounds (r), and a vector of words or bytes is a list.
use Rattle.std.specs.Prelude.{ℕ, zero, suc, ◌+◌, ◌-◌, ◌*◌, ◌/◌, ◌%◌, ◌^◌, Bool, true, false, List, [], ◌∷◌, ◌++◌, bit_xor, slice_index, slice_index_or, slice_set}
use Rattle.octets.specs.Le.{number_at}
use Rattle.octets.specs.Lists.{tabulate}

-- 2.1  the rotation constants of G
abbrev pub R1 : ℕ
R1 = 32

abbrev pub R2 : ℕ
R2 = 24

abbrev pub R3 : ℕ
R3 = 16

abbrev pub R4 : ℕ
R4 = 63

-- 2.3  x >>> n: (x >> n) ^ (x << (w - n))
unfoldable pub rotr : ℕ → ℕ → ℕ
rotr x n = bit_xor (x / 2 ^ n) (x * 2 ^ (64 - n) % 2 ^ 64)

-- 2.4  the first n words of a byte array, each little-endian
unfoldable pub words_of : ℕ → List ℕ → List ℕ
words_of n bytes = tabulate (λ (i : ℕ). number_at bytes (8 * i) 8) n

-- 2.6  the initialization vector
unfoldable pub IV : List ℕ
IV =
    0x6a09e667f3bcc908 ∷ 0xbb67ae8584caa73b ∷ 0x3c6ef372fe94f82b ∷ 0xa54ff53a5f1d36f1
    ∷ 0x510e527fade682d1 ∷ 0x9b05688c2b3e6c1f ∷ 0x1f83d9abfb41bd6b ∷ 0x5be0cd19137e2179 ∷ []

-- 2.7  the message schedule
unfoldable pub SIGMA : List (List ℕ)
SIGMA =
    (0 ∷ 1 ∷ 2 ∷ 3 ∷ 4 ∷ 5 ∷ 6 ∷ 7 ∷ 8 ∷ 9 ∷ 10 ∷ 11 ∷ 12 ∷ 13 ∷ 14 ∷ 15 ∷ [])
    ∷ (14 ∷ 10 ∷ 4 ∷ 8 ∷ 9 ∷ 15 ∷ 13 ∷ 6 ∷ 1 ∷ 12 ∷ 0 ∷ 2 ∷ 11 ∷ 7 ∷ 5 ∷ 3 ∷ [])
    ∷ (11 ∷ 8 ∷ 12 ∷ 0 ∷ 5 ∷ 2 ∷ 15 ∷ 13 ∷ 10 ∷ 14 ∷ 3 ∷ 6 ∷ 7 ∷ 1 ∷ 9 ∷ 4 ∷ [])
    ∷ (7 ∷ 9 ∷ 3 ∷ 1 ∷ 13 ∷ 12 ∷ 11 ∷ 14 ∷ 2 ∷ 6 ∷ 5 ∷ 10 ∷ 4 ∷ 0 ∷ 15 ∷ 8 ∷ [])
    ∷ (9 ∷ 0 ∷ 5 ∷ 7 ∷ 2 ∷ 4 ∷ 10 ∷ 15 ∷ 14 ∷ 1 ∷ 11 ∷ 12 ∷ 6 ∷ 8 ∷ 3 ∷ 13 ∷ [])
    ∷ (2 ∷ 12 ∷ 6 ∷ 10 ∷ 0 ∷ 11 ∷ 8 ∷ 3 ∷ 4 ∷ 13 ∷ 7 ∷ 5 ∷ 15 ∷ 14 ∷ 1 ∷ 9 ∷ [])
    ∷ (12 ∷ 5 ∷ 1 ∷ 15 ∷ 14 ∷ 13 ∷ 4 ∷ 10 ∷ 0 ∷ 7 ∷ 6 ∷ 3 ∷ 9 ∷ 2 ∷ 8 ∷ 11 ∷ [])
    ∷ (13 ∷ 11 ∷ 7 ∷ 14 ∷ 12 ∷ 1 ∷ 3 ∷ 9 ∷ 5 ∷ 0 ∷ 15 ∷ 4 ∷ 8 ∷ 6 ∷ 2 ∷ 10 ∷ [])
    ∷ (6 ∷ 15 ∷ 14 ∷ 9 ∷ 11 ∷ 3 ∷ 0 ∷ 8 ∷ 12 ∷ 2 ∷ 13 ∷ 7 ∷ 1 ∷ 4 ∷ 10 ∷ 5 ∷ [])
    ∷ (10 ∷ 2 ∷ 8 ∷ 4 ∷ 7 ∷ 6 ∷ 1 ∷ 5 ∷ 15 ∷ 11 ∷ 9 ∷ 14 ∷ 3 ∷ 12 ∷ 13 ∷ 0 ∷ []) ∷ []

-- v, and then f: each line of a function of the RFC is a line here
infixl 1 ◌▸◌
abbrev pub ◌▸◌ : List ℕ → (List ℕ → List ℕ) → List ℕ
v ▸ f = f v

-- 3.1  v[a] := (v[a] + v[b] + x) mod 2**w
unfoldable pub add : ℕ → ℕ → ℕ → List ℕ → List ℕ
add a b x v = slice_set v a ((slice_index v a + slice_index v b + x) % 2 ^ 64)

-- 3.1  v[d] := (v[d] ^ v[a]) >>> n
unfoldable pub turn : ℕ → ℕ → ℕ → List ℕ → List ℕ
turn d a n v = slice_set v d (rotr (bit_xor (slice_index v d) (slice_index v a)) n)

-- 3.1  the mixing function G
unfoldable pub G : List ℕ → ℕ → ℕ → ℕ → ℕ → ℕ → ℕ → List ℕ
G v a b c d x y =
    v
    ▸ add a b x
    ▸ turn d a R1
    ▸ add c d 0
    ▸ turn b c R2
    ▸ add a b y
    ▸ turn d a R3
    ▸ add c d 0
    ▸ turn b c R4

-- 3.2  v := G( v, a, b, c, d, m[s[k]], m[s[k + 1]] )
unfoldable pub mixed : List ℕ → List ℕ → ℕ → ℕ → ℕ → ℕ → ℕ → List ℕ → List ℕ
mixed m s k a b c d v = G v a b c d (slice_index m (slice_index s k)) (slice_index m (slice_index s (k + 1)))

-- 3.2  a round, by the row s of SIGMA
unfoldable pub round : List ℕ → List ℕ → List ℕ → List ℕ
round m s v =
    v
    ▸ mixed m s 0 0 4 8 12
    ▸ mixed m s 2 1 5 9 13
    ▸ mixed m s 4 2 6 10 14
    ▸ mixed m s 6 3 7 11 15
    ▸ mixed m s 8 0 5 10 15
    ▸ mixed m s 10 1 6 11 12
    ▸ mixed m s 12 2 7 8 13
    ▸ mixed m s 14 3 4 9 14

-- 3.2  s[0..15] := SIGMA[i mod 10][0..15]
unfoldable pub row_of : ℕ → List ℕ
row_of i = slice_index_or SIGMA (i % 10) []

-- 3.2  the first n rounds
unfoldable pub rounds : ℕ → List ℕ → List ℕ → List ℕ
rounds zero m v = v
rounds (suc i) m v = rounds i m v ▸ round m (row_of i)

-- 3.2  v[i] := v[i] ^ x
unfoldable pub xor_at : ℕ → ℕ → List ℕ → List ℕ
xor_at i x v = slice_set v i (bit_xor (slice_index v i) x)

-- 3.2  IF f = TRUE THEN v[14] := v[14] ^ 0xFF..FF
unfoldable pub flagged : Bool → List ℕ → List ℕ
flagged true v = xor_at 14 0xffffffffffffffff v
flagged false v = v

-- 3.2  the local work vector: the state, IV, the two words of the offset t, and the last block flag f
unfoldable pub work_vector : List ℕ → ℕ → Bool → List ℕ
work_vector h t f =
    (h ++ IV)
    ▸ xor_at 12 (t % 2 ^ 64)
    ▸ xor_at 13 (t / 2 ^ 64)
    ▸ flagged f

-- 3.2  h[i] := h[i] ^ v[i] ^ v[i + 8] for i from 0 to 7
unfoldable pub halves : List ℕ → List ℕ → List ℕ
halves h v = tabulate (λ (i : ℕ). bit_xor (bit_xor (slice_index h i) (slice_index v i)) (slice_index v (i + 8))) 8

-- 3.2  the compression function F, of twelve rounds
unfoldable pub F : List ℕ → List ℕ → ℕ → Bool → List ℕ
F h m t f = work_vector h t f ▸ rounds 12 m ▸ halves h
