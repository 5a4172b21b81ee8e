-- What is hashed, fed in parts: the head of a digest's input, a digest's input, and a witness behind its length.
-- Assumes nothing.
use Rattle.std.specs.Int.{w64, to_le_bytes}
use mathlib.Core.Path.{◌≡◌, sym, ap, ◌∙◌}
use mathlib.Core.List.{List, [], ◌∷◌, ◌++◌}
use Prim.Native.Nat.{ℕ, ◌+◌, ◌^◌, ◌<◌}
use native.Mathlib.Omega.{arith}
use lib.ListN.{length, take, length-append}
use Rattle.octets.specs.Le.{to_le}
use Rattle.octets.proofs.LeLaws.{length_to, le_bytes_of_u64}
use Rattle.blake2b.specs.Rfc7693.{bytes_of}
use Rattle.blake2b.specs.State.{begun, fed_all, finished, ckb_parameters, ckb_hash}
use Rattle.blake2b.specs.declared.Blake2b.{Blake2b}
use Rattle.blake2b.proofs.Feed.{fed-append}
use Rattle.blake2b.proofs.Whole.{hash-fed}
use Rattle.molecule.specs.Table3.{field2, field3}
use Rattle.molecule.specs.Canonical.{canonical_of}
use Rattle.molecule.proofs.CanonicalForm.{canonical-whole, length-canonical}
use Rattle.authorization.specs.Digest.{auth_domain, digest_head, digest_input, digest_of}
use Rattle.authorization.specs.Hashed.{hashed_witness}

-- domain, operation, account and sequence
pub head_fed : (hash : Blake2b) (operation : ℕ) (account : List ℕ) (sequence : ℕ)
    → fed_all hash (digest_head operation account sequence)
    ≡ fed_all (fed_all (fed_all (fed_all hash auth_domain) (operation ∷ [])) account) (to_le_bytes w64 sequence)
unfolding digest_head
head_fed hash operation account sequence =
    simp (fed-append, ← le_bytes_of_u64 sequence)

-- then the hash of the state, and the sighash
pub digest_fed : (operation : ℕ) (account : List ℕ) (sequence : ℕ) (state sighash : List ℕ) → length account ≡ 32 → length sighash ≡ 32 → length (ckb_hash state) ≡ 32
    → digest_of operation account sequence state sighash
    ≡ take 32 (bytes_of (finished (fed_all (fed_all (fed_all (begun ckb_parameters) (digest_head operation account sequence)) (ckb_hash state)) sighash)).h)
unfolding digest_of digest_input digest_head auth_domain ckb_hash
digest_fed operation account sequence state sighash a g s =
    let small : length (digest_input operation account sequence state sighash) < 2 ^ 64 = simp (length-append, length_to, a, g, s) (omega arith) in
    let head : List ℕ = digest_head operation account sequence in
    rw (fed-append (begun ckb_parameters) head (ckb_hash state), fed-append (begun ckb_parameters) (head ++ ckb_hash state) sighash)
    (sym (hash-fed ckb_parameters (digest_input operation account sequence state sighash) 32 small))

-- a witness
pub witness_fed : (hash : Blake2b) (witness : List ℕ)
    → fed_all hash (hashed_witness witness) ≡ fed_all (fed_all hash (to_le_bytes w64 (length witness))) witness
unfolding hashed_witness
witness_fed hash witness = rw (← le_bytes_of_u64 (length witness)) (sym (fed-append hash (to_le 8 (length witness)) witness))

-- the canonical witness: its length, its first 20 bytes, and fields 2 and 3 of the witness
pub canonical_fed : (hash : Blake2b) (s : List ℕ)
    → fed_all hash (hashed_witness (canonical_of s))
    ≡ fed_all (fed_all (fed_all (fed_all hash (to_le_bytes w64 (20 + length (field2 s) + length (field3 s)))) (take 20 (canonical_of s))) (field2 s)) (field3 s)
canonical_fed hash s =
    let begun : Blake2b = fed_all hash (to_le_bytes w64 (length (canonical_of s))) in
    let fields = fed-append (fed_all begun (take 20 (canonical_of s))) (field2 s) (field3 s) in
    let whole = fed-append begun (take 20 (canonical_of s)) (field2 s ++ field3 s) ∙ ap (fed_all begun) (canonical-whole s) in
    witness_fed hash (canonical_of s) ∙ (rw (← length-canonical s) (sym (fields ∙ whole)))

-- the same, with the bytes of the length as the digest's definition has them
pub parts-fed : (hash : Blake2b) (s : List ℕ)
    → fed_all (fed_all (fed_all (fed_all hash (to_le 8 (20 + length (field2 s) + length (field3 s)))) (take 20 (canonical_of s))) (field2 s)) (field3 s)
    ≡ fed_all hash (hashed_witness (canonical_of s))
parts-fed hash s = rw (le_bytes_of_u64 (20 + length (field2 s) + length (field3 s))) (sym (canonical_fed hash s))
