-- `hash-limits` (specs/HashLimits): each row computed from the definitions. Assumes nothing.
use Rattle.std.specs.Prelude.{refl}
use Rattle.octets.specs.Le.{to_le, from_le, number_at}
use Rattle.octets.specs.Lists.{same, tabulate, joined}
use Rattle.protocol.specs.Rows.{◌▷◌, decide}
use Rattle.blake2b_compression.specs.Compression.{rotr, words_of, IV, SIGMA, add, turn, G, mixed, round, row_of, rounds, xor_at, flagged, work_vector, halves, F}
use Rattle.blake2b.specs.Rfc7693.{bytes_of, start_words, zero_padded, block_of, chained, last_of, hash_words, hash_of}
use Rattle.blake2b.specs.State.{ckb_parameters, ckb_hash}
use Rattle.authorization.specs.Digest.{auth_domain, digest_head, digest_input}
use Rattle.authorization.specs.Hashed.{hashed_witness}
use Rattle.authorization.specs.Sighash.{hashed_witnesses, sighash_input}
use Rattle.cell_hashes.specs.Hashes.{hash_agrees, cell_hash_rows}
use Rattle.limit_rows.specs.HashLimits.{HashLimits, empty_hash}

pub hash-limits : HashLimits
unfolding to_le from_le number_at same tabulate joined decide rotr words_of bytes_of IV SIGMA add turn G mixed round row_of rounds xor_at flagged work_vector halves F start_words zero_padded block_of chained last_of hash_words hash_of ckb_parameters ckb_hash auth_domain digest_head digest_input hashed_witness hashed_witnesses sighash_input hash_agrees cell_hash_rows empty_hash
hash-limits =
    record {
      ckb-empty = refl;
      ckb-129 = refl;
      no-data = refl;
      type-differs = refl;
      data-differs = refl;
      digest-input = refl;
      sighash-input = refl;
    }
