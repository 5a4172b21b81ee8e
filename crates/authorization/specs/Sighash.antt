-- 01, main.rs: "Sighash input: transaction hash; canonical first group witness; other group witnesses; witnesses whose index
-- is at least the number of inputs. Each witness is preceded by its length as u64."
use Rattle.std.specs.Prelude.{ℕ, List, ◌++◌, map, take}
use Rattle.octets.specs.Lists.{joined}
use Rattle.blake2b.specs.Rfc7693.{bytes_of}
use Rattle.blake2b.specs.State.{begun, fed_all, finished, ckb_parameters}
use Rattle.molecule.specs.Canonical.{canonical_of}
use Rattle.authorization.specs.Hashed.{hashed_witness}

-- "Each witness is preceded by its length as u64."
unfoldable pub hashed_witnesses : List (List ℕ) → List ℕ
hashed_witnesses witnesses = joined (map hashed_witness witnesses)

-- the input, from the canonical first witness and the others
unfoldable pub sighash_input : List ℕ → List ℕ → List (List ℕ) → List ℕ
sighash_input transaction canonical others = transaction ++ hashed_witness canonical ++ hashed_witnesses others

-- its hash: the input fed to a state that is then finished. Below 2 ^ 64 bytes that is `ckb_hash` of the input
-- (`sighash-theorem`); the state's count of bytes wraps there
unfoldable pub sighash_of : List ℕ → List ℕ → List (List ℕ) → List ℕ
sighash_of transaction first others =
    take 32 (bytes_of (finished (fed_all (begun ckb_parameters) (sighash_input transaction (canonical_of first) others))).h)
