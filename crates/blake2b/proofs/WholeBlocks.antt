-- A feed that ends a block and goes on: its whole blocks, and what is left of it.
-- Assumes nothing.
use Rattle.std.proofs.Common.{◌≡◌, ℕ, ◌+◌, ◌-◌, ◌%◌, ◌^◌, ◌<◌, ◌≤◌, List, length, take, drop, replicate, refl, ◌∙◌, arith, take_all}
use lib.Seq.{sets}
use Rattle.octets.proofs.Parts.{part_length}
use Rattle.octets.proofs.Stores.{sets_over}
use Rattle.blake2b.specs.declared.Blake2b.{Blake2b}
use Rattle.blake2b.specs.State.{flushed_words, flushed, fed_all}
use Rattle.blake2b.proofs.Feed.{next-zeros, feed-run}

-- the bytes of xs before `at`, which end with a block, were fed to s₀, and a further byte comes: the words and the count
pub record WholeBlocks (s₀ : Blake2b) (xs : List ℕ) (at : ℕ) (h : List ℕ) (fed : ℕ) : Type 0 where
  pub whole : fed % 128 ≡ 0
  pub small : fed < 2 ^ 64
  pub count : (fed_all s₀ (take at xs)).fed ≡ fed
  pub words : (flushed (fed_all s₀ (take at xs))).h ≡ h

-- once the waiting part is full
pub blocks-first : (s₀ s : Blake2b) (xs : List ℕ) (at : ℕ) → s.fed < 2 ^ 64 → s.fed % 128 ≡ 0 → s ≡ fed_all s₀ (take at xs)
    → WholeBlocks s₀ xs at (flushed_words s.h s.block s.fed) s.fed
unfolding flushed
blocks-first s₀ s xs at small e w = record { whole = e; small = small; count = rw w; words = rw w }

module _ (s₀ : Blake2b) (xs : List ℕ) (at : ℕ) (h : List ℕ) (fed : ℕ) (w : WholeBlocks s₀ xs at h fed) where
  -- a run from there on
  blocks-run : (end : ℕ) → at < end → end ≤ length xs → end - at ≤ 128
      → record { h = h; block = sets (replicate 128 0) 0 (take (end - at) (drop at xs)); fed = (fed + (end - at)) % 2 ^ 64 } ≡ fed_all s₀ (take end xs)
  unfolding flushed
  blocks-run end a b k =
      let s = fed_all s₀ (take at xs) in
      let c = w.count in let e = w.whole in let m = w.small in
      let z : s.fed % 128 ≡ 0 = omega arith in
      rw (w.words, next-zeros s z, z, w.count) at (feed-run s₀ s xs at end (omega arith) a b (omega arith) refl)

  -- a whole block more, and a further byte after it
  pub blocks-next : (end fed₁ : ℕ) → end ≡ at + 128 → end < length xs → fed₁ ≡ (fed + 128) % 2 ^ 64
      → WholeBlocks s₀ xs end (flushed_words h (take (end - at) (drop at xs)) fed₁) fed₁
  blocks-next end fed₁ e k f =
      let run = take (end - at) (drop at xs) in
      let n : length run ≡ end - at = part_length xs at (end - at) (omega arith) in
      let m = w.whole in
      let g : fed₁ ≡ (fed + (end - at)) % 2 ^ 64 = omega arith in
      let o : sets (replicate 128 0) 0 run ≡ run = sets_over (replicate 128 0) run (omega (arith, n)) ∙ take_all 128 run (omega (arith, n)) in
      blocks-first s₀ (record { h = h; block = run; fed = fed₁ }) xs end (omega arith) (omega arith)
      (rw (o, ← g) at (blocks-run end (omega arith) (omega arith) (omega arith)))

  -- what is left
  pub blocks-rest : at < length xs → length xs - at ≤ 128
      → record {
        h = h;
        block = sets (replicate 128 0) 0 (take (length xs - at) (drop at xs));
        fed = (fed + (length xs - at)) % 2 ^ 64;
      } ≡ fed_all s₀ xs
  blocks-rest a k =
      let m : length xs ≤ length xs = omega arith in
      rw (take_all (length xs) xs m) at (blocks-run (length xs) a m k)
