-- The cases that passed and those that failed, and the line that says so. Byte values are ASCII.
use Rattle.std.specs.Prelude.{ℕ, ◌+◌, ◌%◌, ◌^◌, Bool, true, false, List, [], ◌∷◌, ◌++◌}
use Rattle.text.specs.Print.{number_text}
use Rattle.test_support.specs.declared.counts.Counts.{Counts}

-- one more, as a u64 counts
abbrev pub one_more : ℕ → ℕ
one_more n = (n + 1) % 2 ^ 64

-- the counts with a case that passes or fails
abbrev pub counted_with : Counts → Bool → Counts
counted_with counts true = record { passed = one_more counts.passed; failed = counts.failed }
counted_with counts false = record { passed = counts.passed; failed = one_more counts.failed }

-- ` passed, ` and ` failed` with the line's ending
unfoldable pub passed_word : List ℕ
passed_word = 32 ∷ 112 ∷ 97 ∷ 115 ∷ 115 ∷ 101 ∷ 100 ∷ 44 ∷ 32 ∷ []

unfoldable pub failed_word : List ℕ
failed_word = 32 ∷ 102 ∷ 97 ∷ 105 ∷ 108 ∷ 101 ∷ 100 ∷ 10 ∷ []

-- `PASSED passed, FAILED failed`
unfoldable pub count_text : Counts → List ℕ
count_text counts = number_text counts.passed ++ (passed_word ++ (number_text counts.failed ++ failed_word))
