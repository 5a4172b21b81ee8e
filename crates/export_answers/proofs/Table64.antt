-- Words stored one behind another are the words stored from the front.
-- Assumes nothing.
use mathlib.Core.Path.{◌≡◌, refl, ◌∙◌}
use mathlib.Core.List.{List, [], ◌∷◌}
use Prim.Native.Nat.{ℕ, suc, ◌+◌, ◌-◌, ◌*◌, ◌≤◌, ◌<◌}
use native.Mathlib.Nat.{sub-zero}
use native.Mathlib.Numerals.{add-one}
use native.Mathlib.Omega.{arith}
use lib.ListN.{length, drop, get_or, length-append, drop_of_length-le}
use lib.Seq.{sets, drop-cons}
use borrow.Rule.Slice.PartMut.{mid_of, put_mid}
use Rattle.octets.specs.Le.{to_le}
use Rattle.octets.specs.Layout.{layout_bytes}
use Rattle.octets.proofs.LeLaws.{length_to}
use Rattle.octets.proofs.Stores.{sets-append, sets-lent}
use Rattle.export_answers.specs.Words.{words, word_bytes}
use Rattle.export_answers.specs.Stored.{StoresBytes}
use Rattle.export_answers.proofs.Fits.{bytes_fit, bytes-short}

-- word i, and then the words behind it
pub word-stored : (vs out : List ℕ) (i : ℕ) → i < length vs → sets (sets out (8 * i) (to_le 8 (get_or vs i 0))) (8 * (i + 1)) (word_bytes (drop (i + 1) vs)) ≡ sets out (8 * i) (word_bytes (drop i vs))
unfolding word_bytes words layout_bytes
word-stored vs out i h =
    let n : length (to_le 8 (get_or vs i 0)) ≡ 8 = length_to 8 (get_or vs i 0) in
    rw (add-one, drop-cons vs i 0 h)
    (sets-append out (8 * i) (to_le 8 (get_or vs i 0)) (word_bytes (drop (suc i) vs)) (8 * suc i) (omega arith))

-- no word is left
pub words-stored : (vs out : List ℕ) (i : ℕ) → length vs ≤ i → sets out (8 * i) (word_bytes (drop i vs)) ≡ out
unfolding word_bytes words layout_bytes
words-stored vs out i h = rw (drop_of_length-le vs h)

pub length-words : (vs : List ℕ) → length (word_bytes vs) ≡ 8 * length vs
unfolding word_bytes words layout_bytes
length-words [] = refl
length-words (v ∷ vs) =
    let n : length (to_le 8 v) ≡ 8 = length_to 8 v in
    let m = length-words vs in
    length-append (to_le 8 v) (word_bytes vs) ∙ (omega arith)

-- the whole after a front part was lent that the words fill
pub words-front : (vs out ys : List ℕ) → 8 * length vs ≤ length out → ys ≡ sets (mid_of 0 (8 * length vs - 0) out) 0 (word_bytes vs)
    → put_mid 0 (8 * length vs - 0) out ys ≡ sets out 0 (word_bytes vs)
words-front vs out ys h e = rw sub-zero (sets-lent out (word_bytes vs) ys 0 (8 * length vs) (length-words vs) (omega arith) (rw sub-zero at e))

-- words for which there is room, and words for which there is none
pub words-fit : (vs out : List ℕ) → 8 * length vs ≤ length out → StoresBytes 0 (word_bytes vs) out 0 (sets out 0 (word_bytes vs))
words-fit vs out h =
    let n = length-words vs in
    bytes_fit (word_bytes vs) out (omega arith)

pub words-short : (vs out : List ℕ) → length out < 8 * length vs → StoresBytes 0 (word_bytes vs) out 5 out
words-short vs out h =
    let n = length-words vs in
    bytes-short (word_bytes vs) out (omega arith)
