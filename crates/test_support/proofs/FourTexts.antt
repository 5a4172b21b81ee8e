-- Four texts stored one after another. Assumes nothing.
use Rattle.std.proofs.Common.{◌≡◌, ℕ, ◌+◌, List, ◌++◌, length, ◌∙◌, arith, length-append}
use lib.Seq.{sets}
use Rattle.octets.proofs.Stores.{sets-append}

-- how long they are together
pub four-long : (a b c d : List ℕ) → length (a ++ (b ++ (c ++ d))) ≡ length a + (length b + (length c + length d))
four-long a b c d = rw (length-append a (b ++ (c ++ d)), length-append b (c ++ d), length-append c d)

-- each where the one before it ends: they are stored as one
pub four-stored : (l a b c d : List ℕ) (i j k : ℕ) → i ≡ length a → j ≡ i + length b → k ≡ j + length c
    → sets (sets (sets (sets l 0 a) i b) j c) k d ≡ sets l 0 (a ++ (b ++ (c ++ d)))
four-stored l a b c d i j k p q r =
    sets-append (sets (sets l 0 a) i b) j c d k r
    ∙ (sets-append (sets l 0 a) i b (c ++ d) j q ∙ sets-append l 0 a (b ++ (c ++ d)) i (omega arith))
