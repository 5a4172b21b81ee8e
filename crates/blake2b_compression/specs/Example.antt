-- RFC 7693, Appendix A: the words of the hash of "abc", which is one block, computed from the definitions.
use Rattle.std.specs.Prelude.{◌≡◌, ℕ, true, List, [], ◌∷◌, replicate, refl}
use Rattle.octets.specs.Lists.{tabulate}
use Rattle.blake2b_compression.specs.Compression.{rotr, IV, SIGMA, add, turn, G, mixed, round, row_of, rounds, xor_at, flagged, work_vector, halves, F}

-- the words that the hash begins with: the initialization vector, its first word xor 0x01010040 (64 bytes out, no key)
abbrev pub appendix_start : List ℕ
appendix_start =
    0x6a09e667f2bdc948 ∷ 0xbb67ae8584caa73b ∷ 0x3c6ef372fe94f82b ∷ 0xa54ff53a5f1d36f1
    ∷ 0x510e527fade682d1 ∷ 0x9b05688c2b3e6c1f ∷ 0x1f83d9abfb41bd6b ∷ 0x5be0cd19137e2179 ∷ []

-- the message words of "abc"
abbrev pub appendix_message : List ℕ
appendix_message = 0x636261 ∷ replicate 15 0

pub appendix-words : F appendix_start appendix_message 3 true ≡
    0x0d4d1c983fa580ba ∷ 0xe9f6129fb697276a ∷ 0xb7c45a68142f214c ∷ 0xd1a2ffdb6fbb124b
    ∷ 0x2d79ab2a39c5877d ∷ 0x95cc3345ded552c2 ∷ 0x5a92f1dba88ad318 ∷ 0x239900d4ed8623b9 ∷ []
unfolding tabulate rotr IV SIGMA add turn G mixed round row_of rounds xor_at flagged work_vector halves F
appendix-words = refl
