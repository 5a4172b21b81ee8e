-- `blake2b_compression::work_vector` meets its contract: the state and IV, one behind the other, and then the offset and the flag.
-- Assumes nothing.
use Rattle.std.proofs.Common.{◌≡◌, ◌++◌, ℕ, List, get_or, set, replicate, true, refl, ap, ◌∙◌, rules}
use borrow.Rule.Slice.PartMut.{put_mid}
use lib.Bits.{bit_xor}
use Rattle.blake2b_compression.specs.Compression.{IV, flagged, work_vector, xor_at}
use Rattle.blake2b_compression.proofs.Words.{two_halves, offset_words}
use Rattle.blake2b_compression.proofs.work_vector.Goals as goal

pub returns-then-last : goal.returns-then-last
unfolding work_vector flagged xor_at IV
returns-then-last c =
    let h = c.args.h in
    let v : put_mid 8 8 (c.copy_from_slice.new.self ++ replicate 8 0) c.copy_from_slice-2.new.self ≡ h ++ IV =
    rw (c.copy_from_slice.ensures.after, c.copy_from_slice-2.ensures.after) (two_halves h IV (search rules) refl) in
    ap (λ (w : List ℕ). flagged true (set w 12 (bit_xor (get_or w 12 0) c.args.t))) v
    ∙ rw c.if-last.true (ap (flagged true) (offset_words h c.args.t (search rules) c.ranges.t.fits))

pub returns-else-last : goal.returns-else-last
unfolding work_vector flagged xor_at IV
returns-else-last c =
    let h = c.args.h in
    let v : put_mid 8 8 (c.copy_from_slice.new.self ++ replicate 8 0) c.copy_from_slice-2.new.self ≡ h ++ IV =
    rw (c.copy_from_slice.ensures.after, c.copy_from_slice-2.ensures.after) (two_halves h IV (search rules) refl) in
    ap (λ (w : List ℕ). set w 12 (bit_xor (get_or w 12 0) c.args.t)) v
    ∙ rw c.if-last.false (offset_words h c.args.t (search rules) c.ranges.t.fits)
