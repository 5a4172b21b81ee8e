-- The line that the program prints: 01, "one line `answer,NUMBER,COUNT,LENGTH,DIGEST`. The line ends with byte 10."; 02, change 9:
-- "On acceptance the answer line ends with a further field FEE".
use Rattle.std.specs.Prelude.{ℕ, Bool, cond, List, [], ◌∷◌, ◌++◌, eqb}
use Rattle.text.specs.Print.{line_text, hex_text, number_text}
use Rattle.text.specs.Text.{line_end}

-- the word `answer`
unfoldable pub answer_word : List ℕ
answer_word = 97 ∷ 110 ∷ 115 ∷ 119 ∷ 101 ∷ 114 ∷ []

-- "DIGEST has 64 lower-case digits or is empty where there is none"
unfoldable pub digest_text : Bool → List ℕ → List ℕ
digest_text reached digest = cond reached (hex_text digest) []

-- 02, change 9: "On refusal that field is empty"; 0 is an acceptance's number
unfoldable pub fee_text : ℕ → ℕ → List ℕ
fee_text number fee = cond (eqb number 0) (number_text fee) []

-- "one line `answer,NUMBER,COUNT,LENGTH,DIGEST`", "The first three fields are decimal", and FEE after them
unfoldable pub line_of : ℕ → ℕ → ℕ → Bool → List ℕ → ℕ → List ℕ
line_of number count total reached digest fee =
    line_text answer_word (number_text number ∷ number_text count ∷ number_text total ∷ digest_text reached digest ∷ fee_text number fee ∷ [])
    ++ (line_end ∷ [])
