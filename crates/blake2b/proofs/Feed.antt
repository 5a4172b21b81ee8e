-- Feeding: one list after another, a run within one block, and the bytes that fill up a waiting part.
-- Assumes nothing.
use Rattle.std.proofs.Common.{◌≡◌, ℕ, zero, suc, ◌+◌, ◌-◌, ◌%◌, ◌^◌, ◌<◌, ◌≤◌, List, [], ◌∷◌, ◌++◌, length, take, drop, replicate, sym, refl, ap, ◌∙◌, not-suc-le-zero, add-zero, mod-eq_of_lt, arith, take-add, eq-eqb, ne_eqb}
use native.Mathlib.Nat.{sub-zero, mod-add-mod}
use lib.Seq.{sets}
use Rattle.octets.specs.Lists.{joined}
use Rattle.octets.proofs.Parts.{part_length}
use Rattle.blake2b.specs.declared.Blake2b.{Blake2b}
use Rattle.blake2b.specs.State.{waiting, flushed_words, flushed, next_block, stored, fed_all, fed_parts}

-- one list after another is fed as the joined list
pub fed-append : (s : Blake2b) (xs ys : List ℕ) → fed_all (fed_all s xs) ys ≡ fed_all s (xs ++ ys)
unfolding fed_all
fed-append s [] ys = refl
fed-append s (x ∷ xs) ys = fed-append (stored (flushed s) x) xs ys

pub fed-parts : (s : Blake2b) (parts : List (List ℕ)) → fed_parts s parts ≡ fed_all s (joined parts)
unfolding fed_parts joined fed_all
fed-parts s [] = refl
fed-parts s (part ∷ parts) = fed-parts (fed_all s part) parts ∙ fed-append s part (joined parts)

-- a run is stored at the next places
unfoldable stored_run : Blake2b → List ℕ → Blake2b
stored_run s run = record { h = s.h; block = sets (next_block s) (s.fed % 128) run; fed = (s.fed + length run) % 2 ^ 64 }

-- a block that is not full is not compressed
pub flushed-room : (s : Blake2b) → (waiting s.fed ≡ 128 → ⊥) → flushed s ≡ s
unfolding flushed flushed_words
flushed-room s e = rw (ne_eqb (waiting s.fed) 128 e)

-- within a block
flushed-within : (s : Blake2b) → 0 < s.fed % 128 → flushed s ≡ s
unfolding waiting
flushed-within s h = flushed-room s (λ e. omega arith)

pub next-within : (s : Blake2b) → 0 < s.fed % 128 → next_block s ≡ s.block
unfolding next_block
next-within s h = rw (ne_eqb (s.fed % 128) 0 (λ e. omega arith))

-- where a block has just ended
pub next-zeros : (s : Blake2b) → s.fed % 128 ≡ 0 → next_block s ≡ replicate 128 0
unfolding next_block
next-zeros s e = rw (eq-eqb (s.fed % 128) 0 e)

module _ (s : Blake2b) (b : ℕ) (small : s.fed < 2 ^ 64) where
  stored-run : (bs : List ℕ) → s.fed % 128 + 1 + length bs ≤ 128 → 0 < length bs → stored_run (stored s b) bs ≡ stored_run s (b ∷ bs)
  unfolding stored stored_run
  stored-run bs h pos =
      let e : (s.fed + 1) % 2 ^ 64 % 128 ≡ suc (s.fed % 128) = omega arith in
      let f : s.fed + 1 + length bs ≡ s.fed + suc (length bs) = omega arith in
      rw (next-within (stored s b) (omega arith), e, mod-add-mod, f)

run-fed : (bs : List ℕ) (s : Blake2b) (b : ℕ) → s.fed < 2 ^ 64 → s.fed % 128 + 1 + length bs ≤ 128
    → fed_all (stored s b) bs ≡ stored_run s (b ∷ bs)
unfolding fed_all stored stored_run
run-fed [] s b small h = refl
run-fed (x ∷ bs) s b small h =
    rw (flushed-within (stored s b) (omega arith)) (run-fed bs (stored s b) x (omega arith) (omega arith) ∙ stored-run s b small (x ∷ bs) (omega arith) (omega arith))

run-stored : (s : Blake2b) (run : List ℕ) → s.fed < 2 ^ 64 → 0 < length run → s.fed % 128 + length run ≤ 128
    → stored_run (flushed s) run ≡ fed_all s run
unfolding fed_all flushed
run-stored s [] small pos h = absurd (not-suc-le-zero pos)
run-stored s (b ∷ bs) small pos h = sym (run-fed bs (flushed s) b small (omega arith))

-- the bytes from `at` to `end`, within one block, are fed behind those before `at`
pub feed-run : (s₀ s : Blake2b) (xs : List ℕ) (at end : ℕ) → s.fed < 2 ^ 64 → at < end → end ≤ length xs → s.fed % 128 + (end - at) ≤ 128
    → s ≡ fed_all s₀ (take at xs)
    → record {
      h = flushed_words s.h s.block s.fed;
      block = sets (next_block s) (s.fed % 128) (take (end - at) (drop at xs));
      fed = (s.fed + (end - at)) % 2 ^ 64;
    } ≡ fed_all s₀ (take end xs)
unfolding stored_run flushed next_block
feed-run s₀ s xs at end small a b h w =
    let run = take (end - at) (drop at xs) in
    let n : length run ≡ end - at = part_length xs at (end - at) (omega arith) in
    let e : at + (end - at) ≡ end = omega arith in
    rw n at (run-stored s run small (omega arith) (omega arith)) ∙ rw (w, fed-append, ← take-add, e)

-- the bytes that fill up a waiting part, or none
pub feed-fill : (s : Blake2b) (xs : List ℕ) (n : ℕ) → s.fed < 2 ^ 64 → n ≤ length xs → n ≤ (128 - s.fed % 128) % 128
    → record { h = s.h; block = sets s.block (s.fed % 128) (take n xs); fed = (s.fed + n) % 2 ^ 64 } ≡ fed_all s (take n xs)
unfolding fed_all flushed
feed-fill s xs zero small n h = rw (add-zero, mod-eq_of_lt small)
feed-fill s xs (suc n) small k h =
    let f : flushed_words s.h s.block s.fed ≡ s.h = ap (λ (t : Blake2b). t.h) (flushed-within s (omega arith)) in
    rw (f, next-within s (omega arith), sub-zero) at (feed-run s s xs 0 (suc n) small (omega arith) k (omega arith) refl)
