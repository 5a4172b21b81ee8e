-- Checks in the document's order, a row for each: the first that fails decides.
use Rattle.std.specs.Prelude.{ℕ, Bool, true, false, cond, List, [], ◌∷◌, ◌≡◌, ◌⊎◌, Result, Ok, Err}
use Rattle.std.specs.Result.{result_and}
use Rattle.protocol.specs.Errors.{error_number}
use Rattle.protocol.specs.declared.error.ProtocolError.{ProtocolError}

-- what checks find: nothing, or a refusal
abbrev pub Check : Type 0
Check = Result Unit ProtocolError

infixl 20 ◌▷◌
infixl 20 ◌then◌
-- a check and its refusal
pub record Row : Type 0 where
  pub test : Bool
  pub error : ProtocolError

abbrev pub row : Bool → ProtocolError → Row
row ok e = record { test = ok; error = e }

-- one check more
abbrev pub ◌▷◌ : Check → Row → Check
Ok _ ▷ r = cond r.test (Ok tt) (Err r.error)
Err e ▷ r = Err e

-- what later checks find, or an answer, counts where the first ones passed
abbrev pub ◌then◌ : {A : Type 0} → Check → Result A ProtocolError → Result A ProtocolError
first then later = result_and first later

-- the first row that fails decides
unfoldable pub decide : Check → List Row → Check
decide c [] = c
decide c (r ∷ rs) = decide (c ▷ r) rs

-- every row passes
abbrev pub AllPass : List Row → Type 0
AllPass [] = Unit {0}
AllPass (r ∷ rs) = (r.test ≡ true) × AllPass rs

-- e is the refusal of the first row that fails
abbrev pub FirstFailed : List Row → ProtocolError → Type 0
FirstFailed [] e = ⊥
FirstFailed (r ∷ rs) e = ((r.test ≡ false) × (r.error ≡ e)) ⊎ ((r.test ≡ true) × FirstFailed rs e)

-- document 01's number of an answer: that of its refusal, 0 where there is none
abbrev pub check_number : {A : Type 0} → Result A ProtocolError → ℕ
check_number (Ok _) = 0
check_number (Err e) = error_number e
