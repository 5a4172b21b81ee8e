-- The hash state: the chained words, the block that is being filled, and the number of bytes fed, modulo 2 ^ 64.
-- The next byte goes to place `fed % 128` of the block. A block is begun with zeros, so that the last one is padded as it stands. A
-- full block is compressed when a further byte comes, since the last block is compressed with a flag (RFC 7693, section 3.3). Every
-- value of the type is a state.
use Rattle.std.specs.Prelude.{ℕ, ◌+◌, ◌-◌, ◌*◌, ◌/◌, ◌%◌, ◌^◌, true, false, cond, List, [], ◌∷◌, ◌++◌, replicate, ◌==◌, slice_set}
use Rattle.blake2b_compression.specs.Compression.{words_of, F}
use Rattle.blake2b.specs.Rfc7693.{start_words, hash_of}
use Rattle.blake2b.specs.declared.Blake2b.{Blake2b}

-- nothing fed yet
unfoldable pub begun : List ℕ → Blake2b
begun p = record { h = start_words p; block = replicate 128 0; fed = 0 }

-- how many bytes of the block wait to be compressed: 0 at the start, and then 1 to 128
unfoldable pub waiting : ℕ → ℕ
waiting fed = fed - 128 * ((fed - 1) / 128)

-- the words once a full block is compressed
unfoldable pub flushed_words : List ℕ → List ℕ → ℕ → List ℕ
flushed_words h block fed = cond (waiting fed == 128) (F h (words_of 16 block) fed false) h

-- a full block is compressed
unfoldable pub flushed : Blake2b → Blake2b
flushed s = record { h = flushed_words s.h s.block s.fed; block = s.block; fed = s.fed }

-- the block that the next byte goes to: one of zeros for a block's first byte, else the one that is being filled. RFC 7693, section
-- 3.3, pads the last block with zeros
unfoldable pub next_block : Blake2b → List ℕ
next_block s = cond (s.fed % 128 == 0) (replicate 128 0) s.block

-- a byte is stored at the next place
unfoldable pub stored : Blake2b → ℕ → Blake2b
stored s b = record { h = s.h; block = slice_set (next_block s) (s.fed % 128) b; fed = (s.fed + 1) % 2 ^ 64 }

-- bytes are fed
unfoldable pub fed_all : Blake2b → List ℕ → Blake2b
fed_all s [] = s
fed_all s (b ∷ bs) = fed_all (stored (flushed s) b) bs

-- lists of bytes are fed one after another
unfoldable pub fed_parts : Blake2b → List (List ℕ) → Blake2b
fed_parts s [] = s
fed_parts s (part ∷ parts) = fed_parts (fed_all s part) parts

-- RFC 7693, section 3.3, of the last block: h := F( h, d[dd - 1], ll, TRUE )
unfoldable pub finished : Blake2b → Blake2b
finished s = record { h = F s.h (words_of 16 s.block) s.fed true; block = s.block; fed = s.fed }

-- document 01: the parameter block of CKB's hash, with 32 bytes out, no key, fanout and depth 1, and the 16 personal bytes
-- `ckb-default-hash` at its bytes 48 to 63
unfoldable pub ckb_parameters : List ℕ
ckb_parameters =
    (32 ∷ 0 ∷ 1 ∷ 1 ∷ []) ++ replicate 44 0
    ++ (99 ∷ 107 ∷ 98 ∷ 45 ∷ 100 ∷ 101 ∷ 102 ∷ 97 ∷ 117 ∷ 108 ∷ 116 ∷ 45 ∷ 104 ∷ 97 ∷ 115 ∷ 104 ∷ [])

-- CKB's hash, of 32 bytes
unfoldable pub ckb_hash : List ℕ → List ℕ
ckb_hash bytes = hash_of ckb_parameters bytes 32
