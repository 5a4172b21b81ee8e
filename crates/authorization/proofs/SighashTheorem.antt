-- The sighash is CKB's hash of document 01's input, and the parts of the input fed one after another.
-- Assumes nothing.
use mathlib.Core.Path.{◌≡◌, ap, ◌∙◌}
use mathlib.Core.List.{List, ◌++◌}
use Prim.Native.Nat.{ℕ, ◌+◌, ◌^◌, ◌<◌}
use lib.ListN.{length, take, length-append}
use Rattle.octets.specs.Le.{to_le}
use Rattle.octets.proofs.LeLaws.{length_to}
use Rattle.blake2b.specs.Rfc7693.{bytes_of}
use Rattle.blake2b.specs.State.{begun, fed_all, finished, ckb_parameters, ckb_hash}
use Rattle.blake2b.specs.declared.Blake2b.{Blake2b}
use Rattle.blake2b.proofs.Feed.{fed-append}
use Rattle.blake2b.proofs.Whole.{hash-fed}
use Rattle.molecule.specs.Canonical.{canonical_of}
use Rattle.authorization.specs.Hashed.{hashed_witness}
use Rattle.authorization.specs.Sighash.{hashed_witnesses, sighash_input, sighash_of}

-- a witness adds its length's 8 bytes and its own
pub hashed_length : (w : List ℕ) → length (hashed_witness w) ≡ 8 + length w
unfolding hashed_witness
hashed_length w = length-append (to_le 8 (length w)) w ∙ ap (λ (n : ℕ). n + length w) (length_to 8 (length w))

-- the input fed in its three parts
input-fed : (hash : Blake2b) (transaction canonical : List ℕ) (others : List (List ℕ))
    → fed_all (fed_all (fed_all hash transaction) (hashed_witness canonical)) (hashed_witnesses others) ≡ fed_all hash (sighash_input transaction canonical others)
unfolding sighash_input
input-fed hash transaction canonical others =
    rw (fed-append hash transaction (hashed_witness canonical)) (fed-append hash (transaction ++ hashed_witness canonical) (hashed_witnesses others))

-- the first witness fed behind the transaction hash, and then the others, is the sighash
pub sighash-fed : (transaction first : List ℕ) (others : List (List ℕ))
    → take 32 (bytes_of (finished (fed_all (fed_all (fed_all (begun ckb_parameters) transaction) (hashed_witness (canonical_of first))) (hashed_witnesses others))).h)
    ≡ sighash_of transaction first others
unfolding sighash_of
sighash-fed transaction first others = rw (input-fed (begun ckb_parameters) transaction (canonical_of first) others)

-- 01: the sighash is CKB's hash of the sighash input
pub sighash-theorem : (transaction first : List ℕ) (others : List (List ℕ)) → length (sighash_input transaction (canonical_of first) others) < 2 ^ 64
    → sighash_of transaction first others ≡ ckb_hash (sighash_input transaction (canonical_of first) others)
unfolding sighash_of ckb_hash
sighash-theorem transaction first others h = hash-fed ckb_parameters (sighash_input transaction (canonical_of first) others) 32 h
