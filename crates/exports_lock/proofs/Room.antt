-- Whether `out` has room for the answer, and what is in it then.
-- Assumes nothing.
use mathlib.Core.Path.{◌≡◌, sym, ap, ◌∙◌}
use mathlib.Core.Bool.{true, false}
use mathlib.Core.List.{List, ◌++◌, append-nil}
use Prim.Native.Nat.{ℕ, ◌≤◌, ◌<◌}
use native.Mathlib.Omega.{arith}
use lib.ListN.{length}
use lib.Seq.{sets}
use borrow.Author.Tests.{le-leb, lt-leb}
use Rattle.octets.proofs.Stores.{sets-append}
use Rattle.octets.specs.Le.{to_le}
use Rattle.octets.specs.Layout.{layout_bytes}
use Rattle.export_answers.specs.Words.{words, word_bytes}
use Rattle.export_answers.specs.Stored.{stored_after}
use Rattle.export_answers.proofs.Table64.{length-words, words-fit}
use Rattle.account_lock.specs.declared.answer.LockAnswer.{LockAnswer}
use Rattle.exports_lock.specs.Stored.{answer_fits, answer_words, answer_stored}

pub room-no : (out : List ℕ) → length out < 64 → answer_fits out ≡ false
unfolding answer_fits
room-no out h = lt-leb 64 (length out) h

pub room-yes : (out : List ℕ) → 64 ≤ length out → answer_fits out ≡ true
unfolding answer_fits
room-yes out h = le-leb 64 (length out) h

-- the words, the digest behind them, and the fee
pub stored-behind : (a : LockAnswer) (out : List ℕ) → 64 ≤ length out
    → sets (sets (stored_after 0 (word_bytes (answer_words a)) out) 24 a.digest) 56 (to_le 8 a.fee) ≡ answer_stored a out
unfolding answer_stored answer_words word_bytes words layout_bytes
stored-behind a out h =
    let ws = answer_words a in
    let n : length (word_bytes ws) ≡ 24 = length-words ws in
    let front : sets (stored_after 0 (word_bytes ws) out) 24 a.digest ≡ sets out 0 (word_bytes ws ++ a.digest) =
    ap (λ (l : List ℕ). sets l 24 a.digest) (sym (words-fit ws out (omega arith)).1)
    ∙ sets-append out 0 (word_bytes ws) a.digest 24 (omega arith) in
    rw (front, append-nil (to_le 8 a.fee))
