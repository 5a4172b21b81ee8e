-- The bytes of words: how many, and a word's among them; and so of CKB's hash.
-- Assumes nothing.
use Rattle.std.proofs.Common.{◌≡◌, ℕ, ◌+◌, ◌*◌, ◌<◌, ◌≤◌, List, [], ◌∷◌, ◌++◌, length, get_or, take, drop, refl, add-one, arith, length-append, length-take-le, take_all, drop-cons, drop_of_length-le, replicate, sym, ap, ◌∙◌}
use lib.ListN.{length-replicate}
use lib.Seq.{sets}
use Rattle.octets.proofs.Stores.{sets-append, sets_over}
use Rattle.octets.specs.Le.{to_le}
use Rattle.octets.proofs.LeLaws.{length_to}
use Rattle.octets.proofs.Filled.{length-tabulate}
use Rattle.blake2b_compression.specs.Compression.{halves, F}
use Rattle.blake2b.specs.Rfc7693.{bytes_of, hash_words, hash_of}
use Rattle.blake2b.specs.State.{ckb_parameters, ckb_hash}

pub length-bytes : (h : List ℕ) → length (bytes_of h) ≡ 8 * length h
unfolding bytes_of
length-bytes [] = refl
length-bytes (w ∷ h) = rw (length-append, length_to, length-bytes h) (omega arith)

-- the bytes from word i on: those of word i, and the rest
pub bytes_next : (h : List ℕ) (i : ℕ) → i < length h → bytes_of (drop i h) ≡ to_le 8 (get_or h i 0) ++ bytes_of (drop (i + 1) h)
unfolding bytes_of
bytes_next h i k = rw (add-one, drop-cons h i 0 k)

-- as many bytes as there are, or more, are all of them
pub bytes-all : (h : List ℕ) (n : ℕ) → 8 * length h ≤ n → take n (bytes_of h) ≡ bytes_of h
bytes-all h n k =
    let e : length (bytes_of h) ≤ n = rw (length-bytes h) k in
    take_all n (bytes_of h) e

-- stored from word i on: word i, and then the rest; and nothing behind the last
pub word_stored : (out h : List ℕ) (i : ℕ) → i < length h
    → sets out (8 * i) (bytes_of (drop i h)) ≡ sets (sets out (8 * i) (to_le 8 (get_or h i 0))) (8 * (i + 1)) (bytes_of (drop (i + 1) h))
word_stored out h i k =
    let n : 8 * (i + 1) ≡ 8 * i + length (to_le 8 (get_or h i 0)) = rw (length_to 8 (get_or h i 0)) (omega arith) in
    rw (bytes_next h i k) (sym (sets-append out (8 * i) (to_le 8 (get_or h i 0)) (bytes_of (drop (i + 1) h)) (8 * (i + 1)) n))

pub none_stored : (out h : List ℕ) (at i : ℕ) → length h ≤ i → sets out at (bytes_of (drop i h)) ≡ out
unfolding bytes_of
none_stored out h at i e = rw (drop_of_length-le h e)

-- an array that takes the first of them, and one that they fill
front-bytes : (h : List ℕ) (n : ℕ) → n ≤ 8 * length h → take n (bytes_of h) ≡ sets (replicate n 0) 0 (bytes_of h)
front-bytes h n k =
    let l : List ℕ = replicate n 0 in
    let m : length l ≡ n = length-replicate n 0 in
    let e : length l ≤ length (bytes_of h) = rw (m, length-bytes h) k in
    sym (sets_over l (bytes_of h) e ∙ ap (λ (k : ℕ). take k (bytes_of h)) m)

pub first_bytes : (h : List ℕ) → length h ≡ 8 → take 32 (bytes_of h) ≡ sets (replicate 32 0) 0 (bytes_of h)
first_bytes h e = front-bytes h 32 (omega arith)

pub all_bytes : (h : List ℕ) → length h ≡ 8 → bytes_of h ≡ sets (replicate 64 0) 0 (bytes_of h)
all_bytes h e = sym (bytes-all h 64 (omega arith)) ∙ front-bytes h 64 (omega arith)

-- CKB's hash has 32 bytes
pub length-hash : (xs : List ℕ) → length (ckb_hash xs) ≡ 32
unfolding ckb_hash hash_of hash_words F halves
length-hash xs =
    let n = length-bytes (hash_words ckb_parameters xs) in
    let m : length (hash_words ckb_parameters xs) ≡ 8 = length-tabulate _ 8 in
    length-take-le 32 (bytes_of (hash_words ckb_parameters xs)) (omega arith)
