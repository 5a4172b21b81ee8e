-- The kinds of lines: their words, their order, and their fields.
use Rattle.std.specs.Prelude.{ℕ, ◌+◌, Bool, cond, not, ◌&&◌, List, [], ◌∷◌, length, ltb, leb, eqb, None, Option, Some}
use Rattle.octets.specs.Lists.{same}
use Rattle.scene_line.specs.declared.form.Form.{Form}
use Rattle.scene_line.specs.declared.form.Form.TheVariants.{Group, TypeHash, Hash, Hex, Digits}
use Rattle.scene_line.specs.declared.kind.Kind.{Kind}
use Rattle.scene_line.specs.declared.kind.Kind.TheVariants.{Script, Tx, Input, Output, Dep, Witness, Verdicts}

-- 01: "in this order of kinds": a kind's rank in it, 0 for none
abbrev pub rank : Option Kind → ℕ
rank (Some Script) = 1
rank (Some Tx) = 2
rank (Some Input) = 3
rank (Some Output) = 4
rank (Some Dep) = 5
rank (Some Witness) = 6
rank (Some Verdicts) = 7
rank None = 0

-- how many fields follow the word, as 01 lists them; 02, change 9: "Input and output lines end with a new field CAPACITY"
abbrev pub field_count : Option Kind → ℕ
field_count (Some Script) = 1
field_count (Some Tx) = 1
field_count (Some Input) = 7
field_count (Some Output) = 5
field_count (Some Dep) = 4
field_count (Some Witness) = 1
field_count (Some Verdicts) = 1
field_count None = 1

-- the form of the first field
abbrev pub first_form : Option Kind → Form
first_form (Some Script) = Hex
first_form (Some Tx) = Hash
first_form (Some Input) = Group
first_form (Some Output) = TypeHash
first_form (Some Dep) = TypeHash
first_form (Some Witness) = Hex
first_form (Some Verdicts) = Digits
first_form None = Hex

-- the words, in ASCII
abbrev pub script : List ℕ
script = 115 ∷ 99 ∷ 114 ∷ 105 ∷ 112 ∷ 116 ∷ []

abbrev pub tx : List ℕ
tx = 116 ∷ 120 ∷ []

abbrev pub input : List ℕ
input = 105 ∷ 110 ∷ 112 ∷ 117 ∷ 116 ∷ []

abbrev pub output : List ℕ
output = 111 ∷ 117 ∷ 116 ∷ 112 ∷ 117 ∷ 116 ∷ []

abbrev pub dep : List ℕ
dep = 100 ∷ 101 ∷ 112 ∷ []

abbrev pub witness : List ℕ
witness = 119 ∷ 105 ∷ 116 ∷ 110 ∷ 101 ∷ 115 ∷ 115 ∷ []

abbrev pub verdicts : List ℕ
verdicts = 118 ∷ 101 ∷ 114 ∷ 100 ∷ 105 ∷ 99 ∷ 116 ∷ 115 ∷ []

-- the kind that a line's word names
unfoldable pub kind_of : List ℕ → Option Kind
kind_of w =
    cond (same w script) (Some Script)
    (cond (same w tx) (Some Tx)
    (cond (same w input) (Some Input)
    (cond (same w output) (Some Output)
    (cond (same w dep) (Some Dep) (cond (same w witness) (Some Witness) (cond (same w verdicts) (Some Verdicts) None))))))

-- 01: "in this order of kinds", "Script, tx and verdicts stand once; each other kind 0 to 64 times": whether a line of rank k
-- may follow one of rank last, 0 at the start: script, tx, then the others in order up to verdicts
unfoldable pub follows : ℕ → ℕ → Bool
follows last k = cond (ltb last (rank (Some Tx))) (eqb k (last + 1)) (leb (rank (Some Input)) k && (leb last k && not (eqb last (rank (Some Verdicts)))))

-- 01: "line: kind, order, field count", 2: a line's kind by its word and fields, none where this row refuses the line
unfoldable pub line_kind : ℕ → List (List ℕ) → Option Kind
line_kind last [] = None
line_kind last (w ∷ fs) = cond (follows last (rank (kind_of w)) && eqb (length fs) (field_count (kind_of w))) (kind_of w) None

-- the fields behind the word
unfoldable pub line_fields : List (List ℕ) → List (List ℕ)
line_fields [] = []
line_fields (w ∷ fs) = fs
