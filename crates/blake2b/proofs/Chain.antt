-- What a caller cites of a chain begin, update, .., finish, digest: each law takes what one call ensures.
-- Assumes nothing.
use Rattle.std.proofs.Common.{◌≡◌, ℕ, ◌+◌, ◌-◌, ◌^◌, ◌<◌, ◌≤◌, List, [], ◌++◌, length, take, drop, sym, ◌∙◌, arith, take-add}
use Rattle.blake2b.specs.declared.Blake2b.{Blake2b}
use Rattle.blake2b.specs.Rfc7693.{bytes_of, hash_of}
use Rattle.blake2b.specs.State.{begun, fed_all, finished, ckb_parameters, ckb_hash}
use Rattle.blake2b.proofs.Feed.{fed-append}
use Rattle.blake2b.proofs.Whole.{hash-fed}

-- the state was begun with the parameter block p, and then the bytes xs were fed to it
pub record Fed (p xs : List ℕ) (s : Blake2b) : Type 0 where
  pub state : s ≡ fed_all (begun p) xs

-- after `with_parameters` or `new`
pub fed-none : {p : List ℕ} {s : Blake2b} → s ≡ begun p → Fed p [] s
unfolding fed_all
fed-none e = record { state = e }

-- after `update`
pub fed-more : {p xs : List ℕ} {s t : Blake2b} (ys : List ℕ) → Fed p xs s → t ≡ fed_all s ys → Fed p (xs ++ ys) t
fed-more {p} {xs} ys w e = record { state = e ∙ rw (w.state, fed-append) }

-- after `update` with the bytes of xs from `at` to `end`, behind those before `at`
pub fed-part : {p : List ℕ} {s t : Blake2b} (xs : List ℕ) (at end : ℕ) → at ≤ end → Fed p (take at xs) s
    → t ≡ fed_all s (take (end - at) (drop at xs)) → Fed p (take end xs) t
fed-part xs at end h w e =
    let n : at + (end - at) ≡ end = omega arith in
    rw (← take-add, n) at (fed-more (take (end - at) (drop at xs)) w e)

-- after `finish` and `digest`, where n is 32
pub fed-hash : {p xs r : List ℕ} {s t : Blake2b} (n : ℕ) → Fed p xs s → length xs < 2 ^ 64 → t ≡ finished s
    → r ≡ take n (bytes_of t.h) → r ≡ hash_of p xs n
fed-hash {p} {xs} n w small e k = k ∙ rw (e, w.state) (hash-fed p xs n small)

-- CKB's hash of bytes fed at once
pub hash_fed : (xs : List ℕ) → length xs < 2 ^ 64 → ckb_hash xs ≡ take 32 (bytes_of (finished (fed_all (begun ckb_parameters) xs)).h)
unfolding ckb_hash
hash_fed xs small = sym (hash-fed ckb_parameters xs 32 small)
