-- RFC 7693, Appendix A: the 64 bytes of the hash of "abc", computed from the definitions.
use Rattle.std.specs.Prelude.{◌≡◌, ℕ, List, [], ◌∷◌, ◌++◌, replicate, refl}
use Rattle.octets.specs.Le.{to_le, from_le, number_at}
use Rattle.octets.specs.Lists.{tabulate}
use Rattle.blake2b_compression.specs.Compression.{rotr, words_of, IV, SIGMA, add, turn, G, mixed, round, row_of, rounds, xor_at, flagged, work_vector, halves, F}
use Rattle.blake2b.specs.Rfc7693.{bytes_of, start_words, zero_padded, block_of, chained, last_of, hash_words, hash_of}

-- 64 bytes of digest, no key, fanout and depth 1
abbrev pub appendix_parameters : List ℕ
appendix_parameters = (64 ∷ 0 ∷ 1 ∷ 1 ∷ []) ++ replicate 60 0

pub appendix-a : hash_of appendix_parameters (97 ∷ 98 ∷ 99 ∷ []) 64 ≡
    0xba ∷ 0x80 ∷ 0xa5 ∷ 0x3f ∷ 0x98 ∷ 0x1c ∷ 0x4d ∷ 0x0d ∷ 0x6a ∷ 0x27 ∷ 0x97 ∷ 0xb6 ∷ 0x9f ∷ 0x12 ∷ 0xf6 ∷ 0xe9
    ∷ 0x4c ∷ 0x21 ∷ 0x2f ∷ 0x14 ∷ 0x68 ∷ 0x5a ∷ 0xc4 ∷ 0xb7 ∷ 0x4b ∷ 0x12 ∷ 0xbb ∷ 0x6f ∷ 0xdb ∷ 0xff ∷ 0xa2 ∷ 0xd1
    ∷ 0x7d ∷ 0x87 ∷ 0xc5 ∷ 0x39 ∷ 0x2a ∷ 0xab ∷ 0x79 ∷ 0x2d ∷ 0xc2 ∷ 0x52 ∷ 0xd5 ∷ 0xde ∷ 0x45 ∷ 0x33 ∷ 0xcc ∷ 0x95
    ∷ 0x18 ∷ 0xd3 ∷ 0x8a ∷ 0xa8 ∷ 0xdb ∷ 0xf1 ∷ 0x92 ∷ 0x5a ∷ 0xb9 ∷ 0x23 ∷ 0x86 ∷ 0xed ∷ 0xd4 ∷ 0x00 ∷ 0x99 ∷ 0x23 ∷ []
unfolding to_le from_le number_at tabulate rotr words_of bytes_of IV SIGMA add turn G mixed round row_of rounds xor_at flagged work_vector halves F start_words zero_padded block_of chained last_of hash_words hash_of
appendix-a = refl
