-- When no line row refuses a scene, said of the lines of its text. 01: "The reader accepts every scene that no reader or line row
-- refuses"; the rows are those of "Where each refusal is raised".
use Rattle.std.specs.Prelude.{ℕ, ◌≤◌, Bool, true, ◌≡◌, List, [], ◌∷◌, ◌++◌, map, length, replicate, eqb, Option, Some}
use Rattle.octets.specs.Lists.{joined, every}
use Rattle.text.specs.Text.{pieces, comma, line_end}
use Rattle.scene_line.specs.declared.kind.Kind.{Kind}
use Rattle.scene_line.specs.declared.kind.Kind.TheVariants.{Script, Tx, Input, Output, Dep, Witness, Verdicts}
use Rattle.scene_line.specs.Kind.{kind_of, field_count, first_form, line_fields}
use Rattle.scene_line.specs.Line.{forms_ok, line_bytes}
use Rattle.protocol.specs.Limits.{kind_max_lines}

-- "Text lines ended by byte 10, fields parted by commas, no quoting": a line's word, its kind, and its fields
unfoldable pub word_of : List (List ℕ) → List ℕ
word_of [] = []
word_of (w ∷ fs) = w

unfoldable pub kind_of_line : List ℕ → Option Kind
kind_of_line l = kind_of (word_of (pieces comma l))

unfoldable pub fields_of_line : List ℕ → List (List ℕ)
fields_of_line l = line_fields (pieces comma l)

-- "in this order of kinds"; "Script, tx and verdicts stand once"
unfoldable pub kinds_of : ℕ → ℕ → ℕ → ℕ → List (Option Kind)
kinds_of inputs outputs deps witnesses =
    (Some Script)
    ∷ (Some Tx)
    ∷ replicate inputs (Some Input)
    ++ replicate outputs (Some Output)
    ++ replicate deps (Some Dep)
    ++ replicate witnesses (Some Witness)
    ++ (Some Verdicts ∷ [])

-- "line: kind, order, field count, ending, or a needed line missing", 2, of the field count
unfoldable pub count_ok : List ℕ → Bool
count_ok l = eqb (length (fields_of_line l)) (field_count (kind_of_line l))

-- "line: a field's form, or just one of TYPEHASH and TYPESCRIPT empty", 3
unfoldable pub form_ok : List ℕ → Bool
form_ok l = forms_ok true (first_form (kind_of_line l)) (fields_of_line l)

-- "the bytes of all hexadecimal fields end to end", of one line
unfoldable pub bytes_of_line : List ℕ → List ℕ
bytes_of_line l = line_bytes (first_form (kind_of_line l)) (fields_of_line l)

-- no line row refuses the text, with a store of n bytes
pub record LinesAccepted (text : List ℕ) (n : ℕ) : Type 0 where
  pub lines : List (List ℕ)
  pub inputs : ℕ
  pub outputs : ℕ
  pub deps : ℕ
  pub witnesses : ℕ
  -- 2, "ending": each line has its byte 10, and nothing follows the last
  pub ended : pieces line_end text ≡ lines ++ ([] ∷ [])
  -- 2, "kind, order .. or a needed line missing"
  pub ordered : map kind_of_line lines ≡ kinds_of inputs outputs deps witnesses
  -- 2, "field count"
  pub counted : every count_ok lines ≡ true
  -- 4, "65th of a kind"
  pub few-inputs : inputs ≤ kind_max_lines
  pub few-outputs : outputs ≤ kind_max_lines
  pub few-deps : deps ≤ kind_max_lines
  pub few-witnesses : witnesses ≤ kind_max_lines
  -- 3, "a field's form"
  pub formed : every form_ok lines ≡ true
  -- 6, "store too short for the field": it holds the bytes of all of them
  pub room : length (joined (map bytes_of_line lines)) ≤ n
