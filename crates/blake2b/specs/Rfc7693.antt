-- BLAKE2b without a key, as RFC 7693 defines it in sections 2.4, 2.5 and 3.3, in the RFC's order and with its names, over the
-- compression function F. A word is a number below 2 ^ 64, a block has 128 bytes (bb), and a vector of words or bytes is a list.
use Rattle.std.specs.Prelude.{ℕ, zero, suc, ◌+◌, ◌-◌, ◌*◌, ◌/◌, true, false, List, [], ◌∷◌, ◌++◌, length, take, drop, replicate, bit_xor, slice_index}
use Rattle.octets.specs.Le.{to_le, number_at}
use Rattle.octets.specs.Lists.{tabulate}
use Rattle.blake2b_compression.specs.Compression.{words_of, IV, F}

-- 2.4  the bytes of an array of words
unfoldable pub bytes_of : List ℕ → List ℕ
bytes_of [] = []
bytes_of (word ∷ words) = to_le 8 word ++ bytes_of words

-- 2.5, 3.3  h[0..7] := IV[0..7] xor the words of the parameter block p
unfoldable pub start_words : List ℕ → List ℕ
start_words p = tabulate (λ (i : ℕ). bit_xor (slice_index IV i) (number_at p (8 * i) 8)) 8

-- 3.3  a block: these bytes, and zeros to 128
unfoldable pub zero_padded : List ℕ → List ℕ
zero_padded bytes = bytes ++ replicate (128 - length bytes) 0

-- 3.3  d[i]: block i of the data
unfoldable pub block_of : List ℕ → ℕ → List ℕ
block_of bytes i = zero_padded (take 128 (drop (128 * i) bytes))

-- 3.3  dd - 1: which block is the last. No data are one block of zeros
unfoldable pub last_of : List ℕ → ℕ
last_of bytes = (length bytes - 1) / 128

-- 3.3  FOR i = 0 TO n - 1 DO h := F( h, d[i], (i + 1) * bb, FALSE )
unfoldable pub chained : List ℕ → List ℕ → ℕ → List ℕ
chained h bytes zero = h
chained h bytes (suc i) = F (chained h bytes i) (words_of 16 (block_of bytes i)) ((i + 1) * 128) false

-- 3.3  h := F( h, d[dd - 1], ll, TRUE )
unfoldable pub hash_words : List ℕ → List ℕ → List ℕ
hash_words p bytes =
    F (chained (start_words p) bytes (last_of bytes)) (words_of 16 (block_of bytes (last_of bytes))) (length bytes) true

-- 3.3  the first n bytes of the hash, begun with the parameter block p
unfoldable pub hash_of : List ℕ → List ℕ → ℕ → List ℕ
hash_of p bytes n = take n (bytes_of (hash_words p bytes))
