-- Feeding a byte list in any parts and finishing gives the hash of the whole list.
-- Assumes nothing.
use Rattle.std.proofs.Common.{◌≡◌, ℕ, zero, suc, ◌+◌, ◌-◌, ◌*◌, ◌%◌, ◌^◌, ◌<◌, ◌≤◌, false, List, [], ◌∷◌, ◌++◌, length, take, drop, set, sym, refl, ap, ◌∙◌, ⊎_elim, append_assoc, append-nil, zero-le, mod-eq_of_lt, eq-or-lt_of_le, arith, length-append, length-drop, drop_of_length-le, take_all, eq-eqb}
use lib.Seq.{take-append-le, drop-append-le, drop-append_seam, set-append_seam}
use Rattle.octets.specs.Lists.{joined}
use Rattle.blake2b.specs.declared.Blake2b.{Blake2b}
use Rattle.blake2b_compression.specs.Compression.{words_of, F}
use Rattle.blake2b.specs.Rfc7693.{bytes_of, start_words, zero_padded, block_of, last_of, chained, hash_words, hash_of}
use Rattle.blake2b.specs.State.{begun, waiting, flushed_words, flushed, next_block, stored, fed_all, fed_parts, finished}
use Rattle.blake2b.proofs.Feed.{flushed-room, next-within, next-zeros, fed-parts}

-- bytes that come later change no whole block
block_more : (xs ys : List ℕ) (i : ℕ) → (i + 1) * 128 ≤ length xs → block_of (xs ++ ys) i ≡ block_of xs i
unfolding block_of
block_more xs ys i h =
    let k : 128 ≤ length (drop (128 * i) xs) = simp length-drop (omega arith) in
    let a : 128 * i ≤ length xs = omega arith in
    rw (drop-append-le (128 * i) xs ys a, take-append-le 128 (drop (128 * i) xs) ys k)

chained_more : (h xs ys : List ℕ) (i : ℕ) → 128 * i ≤ length xs → chained h (xs ++ ys) i ≡ chained h xs i
unfolding chained
chained_more h xs ys zero k = refl
chained_more h xs ys (suc i) k = rw (chained_more h xs ys i (omega arith), block_more xs ys i (omega arith))

-- the state after the bytes xs
record After (p xs : List ℕ) (s : Blake2b) : Type 0 where
  count : s.fed ≡ length xs
  words : s.h ≡ chained (start_words p) xs (last_of xs)
  last : s.block ≡ block_of xs (last_of xs)

flushed-full : (s : Blake2b) → waiting s.fed ≡ 128
    → flushed s ≡ record { h = F s.h (words_of 16 s.block) s.fed false; block = s.block; fed = s.fed }
unfolding flushed flushed_words
flushed-full s e = rw (eq-eqb (waiting s.fed) 128 e)

-- a byte behind those of a block takes the place of a zero
padded-more : (d : List ℕ) (b : ℕ) → length d < 128 → set (zero_padded d) (length d) b ≡ zero_padded (d ++ (b ∷ []))
unfolding zero_padded
padded-more d b h =
    let n : length (d ++ (b ∷ [])) ≡ length d + 1 = length-append d (b ∷ []) in
    let e : 128 - length d ≡ suc (128 - length (d ++ (b ∷ []))) = omega arith in
    rw (e, set-append_seam, append_assoc)

waits : (xs : List ℕ) → length (drop (128 * last_of xs) xs) ≡ waiting (length xs)
unfolding last_of waiting
waits xs = length-drop (128 * last_of xs) xs

waits-le : (n : ℕ) → waiting n ≤ 128
unfolding waiting
waits-le n = omega arith

-- the last block: the bytes that wait, and zeros
last-padded : (xs : List ℕ) → block_of xs (last_of xs) ≡ zero_padded (drop (128 * last_of xs) xs)
unfolding block_of
last-padded xs =
    let d = drop (128 * last_of xs) xs in
    let k : length d ≤ 128 = omega (arith, waits xs, waits-le (length xs)) in
    rw (take_all 128 d k)

module _ (p xs : List ℕ) (b : ℕ) (s : Blake2b) (w : After p xs s) (small : length xs + 1 < 2 ^ 64) where
  abbrev ys : List ℕ
  ys = xs ++ (b ∷ [])

  long-ys : length ys ≡ length xs + 1
  long-ys = length-append xs (b ∷ [])

  count-ys : (s.fed + 1) % 2 ^ 64 ≡ length ys
  count-ys = rw (w.count, mod-eq_of_lt small, long-ys)

  -- the block is full: it is compressed, and the byte begins the next one
  module _ (e : waiting (length xs) ≡ 128) where
    times : (last_of xs + 1) * 128 ≡ length xs
    unfolding last_of waiting
    times = omega arith

    last-full : last_of ys ≡ suc (last_of xs)
    unfolding last_of waiting
    last-full = let h = long-ys in omega arith

    words-full : F s.h (words_of 16 s.block) s.fed false ≡ chained (start_words p) ys (last_of ys)
    unfolding chained
    words-full =
        let h = times in
        rw (last-full, chained_more (start_words p) xs (b ∷ []) (last_of xs) (omega arith), block_more xs (b ∷ []) (last_of xs) (omega arith), times, ← w.words, ← w.last, w.count)

    block-full : set (next_block s) (s.fed % 128) b ≡ block_of ys (last_of ys)
    unfolding zero_padded
    block-full =
        let h = times in let l = long-ys in let f = last-full in let n = w.count in
        let at : s.fed % 128 ≡ 0 = omega arith in
        let end : 128 * last_of ys ≡ length xs = omega arith in
        rw (next-zeros s at, at, last-padded ys, end, drop-append_seam) (padded-more [] b (omega arith))

    full : After p ys (stored (flushed s) b)
    unfolding next_block stored
    full =
        rw (flushed-full s (ap waiting w.count ∙ e))
        (record { count = count-ys; words = words-full; last = block-full })

  -- the block has room
  module _ (r : waiting (length xs) < 128) where
    last-room : last_of ys ≡ last_of xs
    unfolding last_of waiting
    last-room = let h = long-ys in omega arith

    start-room : 128 * last_of xs ≤ length xs
    unfolding last_of
    start-room = omega arith

    place-room : length xs % 128 ≡ waiting (length xs)
    unfolding waiting
    place-room = omega arith

    -- where nothing waits, the block is of zeros
    next-none : waiting (length xs) ≡ 0 → next_block s ≡ s.block
    unfolding zero_padded
    next-none e =
        let n = w.count in let q = place-room in let h = waits xs in
        let at : s.fed % 128 ≡ 0 = omega arith in
        let end : length xs ≤ 128 * last_of xs = omega (arith, length-drop (128 * last_of xs) xs) in
        rw (next-zeros s at, w.last, last-padded xs, drop_of_length-le xs end)

    next-room : next_block s ≡ s.block
    next-room =
        ⊎_elim (λ e. next-none (sym e)) (λ h. next-within s (omega (arith, w.count, place-room))) (eq-or-lt_of_le zero-le)

    block_room : set (next_block s) (s.fed % 128) b ≡ block_of ys (last_of ys)
    block_room =
        let d = drop (128 * last_of xs) xs in
        let k : length d < 128 = omega (arith, waits xs, r) in
        rw (next-room, w.last, w.count, place-room, ← waits xs, last-padded xs, padded-more d b k, last-padded ys, last-room, drop-append-le (128 * last_of xs) xs (b ∷ []) start-room)

    room : After p ys (stored (flushed s) b)
    unfolding stored
    room =
        rw (flushed-room s (λ e. omega (arith, ap waiting w.count)))
        (record {
          count = count-ys;
          words = rw (last-room, chained_more (start_words p) xs (b ∷ []) (last_of xs) start-room) w.words;
          last = block_room;
        })

  after-byte : After p ys (stored (flushed s) b)
  after-byte =
      ⊎_elim full room (eq-or-lt_of_le (waits-le (length xs)))

after-all : (p ys xs : List ℕ) (s : Blake2b) → After p xs s → length (xs ++ ys) < 2 ^ 64 → After p (xs ++ ys) (fed_all s ys)
unfolding fed_all
after-all p [] xs s w h = rw append-nil w
after-all p (y ∷ ys) xs s w h =
    let e : length ((xs ++ (y ∷ [])) ++ ys) < 2 ^ 64 = rw append_assoc h in
    let k = length-append xs (y ∷ ys) in
    rw (append_assoc xs (y ∷ []) ys) at (after-all p ys (xs ++ (y ∷ [])) (stored (flushed s) y) (after-byte p xs y s w (omega arith)) e)

after_none : (p : List ℕ) → After p [] (begun p)
unfolding begun chained last_of block_of zero_padded
after_none p = record { count = refl; words = refl; last = refl }

-- the words of a finished state are those of the hash
pub hash-words : (p xs : List ℕ) → length xs < 2 ^ 64 → (finished (fed_all (begun p) xs)).h ≡ hash_words p xs
unfolding finished hash_words
hash-words p xs h =
    let w = after-all p xs [] (begun p) (after_none p) h in
    rw (w.last, w.words, w.count)

-- the bytes of a finished state are those of the hash
pub hash-fed : (p xs : List ℕ) (n : ℕ) → length xs < 2 ^ 64 → take n (bytes_of (finished (fed_all (begun p) xs)).h) ≡ hash_of p xs n
unfolding hash_of
hash-fed p xs n h = rw (hash-words p xs h)

-- the bytes of a state that was begun, fed in any parts and finished are those of the hash of the whole
pub hash-parts : (p : List ℕ) (parts : List (List ℕ)) (n : ℕ) → length (joined parts) < 2 ^ 64
    → take n (bytes_of (finished (fed_parts (begun p) parts)).h) ≡ hash_of p (joined parts) n
hash-parts p parts n h = rw fed-parts (hash-fed p (joined parts) n h)
