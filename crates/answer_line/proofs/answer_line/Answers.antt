-- `answer_line::answer_line` meets its contract: the word, each field and the ending stored one behind another are the line.
-- Assumes nothing.
use Prim.Native.Nat.{ℕ, ◌+◌, ◌≤◌}
use mathlib.Core.Path.{◌≡◌, refl, sym, ◌∙◌}
use mathlib.Core.List.{List, [], ◌∷◌, ◌++◌, append-nil, append_assoc}
use borrow.Author.Rules.{rules}
use Rattle.text.specs.Print.{parted_by, line_text, number_text}
use Rattle.text.specs.Text.{comma, line_end}
use Rattle.answer_line.specs.Line.{answer_word, digest_text, fee_text, line_of}
use Rattle.answer_line.proofs.Stored.{Stored, stored_more}
use Rattle.answer_line.proofs.answer_line.Goals as goal

-- a line's fields, one behind another
line-more : (line field : List ℕ) (fields : List (List ℕ)) → line_text line (field ∷ fields) ≡ line_text (line ++ (comma ∷ field)) fields
unfolding line_text parted_by
line-more line field fields = sym (append_assoc line (comma ∷ field) (parted_by comma fields))

line-whole : (line : List ℕ) → line_text line [] ≡ line
unfolding line_text parted_by
line-whole line = append-nil line

line-parts : (word n c t d f : List ℕ) → line_text word (n ∷ c ∷ t ∷ d ∷ f ∷ [])
    ≡ ((((word ++ (comma ∷ n)) ++ (comma ∷ c)) ++ (comma ∷ t)) ++ (comma ∷ d)) ++ (comma ∷ f)
line-parts word n c t d f =
    line-more word n _ ∙ (line-more _ c _ ∙ (line-more _ t _ ∙ (line-more _ d _ ∙ (line-more _ f _ ∙ line-whole _))))

pub returns : goal.returns
unfolding line_of answer_word
returns c =
    let a = c.args in
    let begun : Stored a.out.now c.store_bytes.new.out answer_word 6 = record { here = c.store_bytes.ensures; ends = refl } in
    let first = rw c.from.ensures at c.put_number-number_end.ensures in
    let numbered = stored_more (comma ∷ number_text a.number) _ _ begun first.out_after first.value in
    let counted = stored_more (comma ∷ number_text a.count) _ _ numbered c.put_number-count_end.ensures.out_after c.put_number-count_end.ensures.value in
    let totalled = stored_more (comma ∷ number_text a.total) _ _ counted c.put_number-total_end.ensures.out_after c.put_number-total_end.ensures.value in
    let digested = stored_more (comma ∷ digest_text a.reached a.digest) _ _ totalled c.put_digest-digest_end.ensures.out_after c.put_digest-digest_end.ensures.value in
    let paid = stored_more (comma ∷ fee_text a.number a.fee) _ _ digested c.put_fee-fee_end.ensures.out_after c.put_fee-fee_end.ensures.value in
    let ended = stored_more (line_end ∷ []) _ (c.put_fee-fee_end.result + 1) paid c.put_byte.ensures refl in
    let parts =
    line-parts answer_word (number_text a.number) (number_text a.count) (number_text a.total) (digest_text a.reached a.digest) (fee_text a.number a.fee)
    in
    let short : c.put_fee-fee_end.result + 1 ≤ 156 = search rules in
    record { value = rw parts ended.ends; upper_bound = short; out_after = rw parts ended.here }
