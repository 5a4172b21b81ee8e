-- One line: the forms of its fields, the bytes and the numbers that they hold. Byte values are ASCII.
use Rattle.std.specs.Prelude.{ℕ, ◌/◌, Bool, true, false, cond, ◌&&◌, ◌||◌, List, [], ◌∷◌, ◌++◌, map, length, get_or, ltb, leb, eqb, None, Option, Some}
use Rattle.octets.specs.Lists.{every}
use Rattle.octets.specs.Le.{u64_halves}
use Rattle.text.specs.Text.{in_range, hex_ok, hex_val, hex_bytes, decimal_of, number_in}
use Rattle.protocol.specs.Limits.{digits_max_count}
use Rattle.scene_line.specs.declared.form.Form.{Form}
use Rattle.scene_line.specs.declared.form.Form.TheVariants.{Group, Since, TypeHash, Hash, TypeScript, Hex, Capacity, Digits}

-- 01: "`input,GROUP,SINCE,TYPEHASH,DATAHASH,TYPESCRIPT,DATA`; `output,` and `dep,` each with the last four"; 02, change 9:
-- "Input and output lines end with a new field CAPACITY": the form of the next field
abbrev pub next_form : Form → Form
next_form Group = Since
next_form Since = TypeHash
next_form TypeHash = Hash
next_form Hash = TypeScript
next_form TypeScript = Hex
next_form Hex = Capacity
next_form Capacity = Capacity
next_form Digits = Digits

abbrev pub is_number : Option ℕ → Bool
is_number (Some v) = true
is_number None = false

-- 01: "Hashes have 64 lower-case digits."
abbrev pub hash_text_ok : List ℕ → Bool
hash_text_ok f = eqb (length f) 64 && hex_ok f

-- whether f has the form of its field. 01: "GROUP is 1 where the input runs this lock, else 0"; "TYPEHASH and TYPESCRIPT are
-- both empty or neither", where bare says that the line's TYPEHASH is empty; "DIGITS is up to 16 of 0 approved, 1 refused,
-- 2 failed"; 02, change 9: CAPACITY is "written as SINCE is"
abbrev pub field_ok : Bool → Form → List ℕ → Bool
field_ok bare Group f = eqb (length f) 1 && every (in_range 48 49) f
field_ok bare Since f = is_number (decimal_of f)
field_ok bare TypeHash f = eqb (length f) 0 || hash_text_ok f
field_ok bare Hash f = hash_text_ok f
field_ok bare TypeScript f = cond bare (eqb (length f) 0) (ltb 0 (length f) && hex_ok f)
field_ok bare Hex f = hex_ok f
field_ok bare Capacity f = is_number (decimal_of f)
field_ok bare Digits f = leb (length f) digits_max_count && every (in_range 48 50) f

-- whether the line's TYPEHASH is empty, after the field f
abbrev pub bare_after : Bool → Form → List ℕ → Bool
bare_after bare Group f = bare
bare_after bare Since f = bare
bare_after bare TypeHash f = eqb (length f) 0
bare_after bare Hash f = bare
bare_after bare TypeScript f = bare
bare_after bare Hex f = bare
bare_after bare Capacity f = bare
bare_after bare Digits f = bare

-- whether each field has its form, the first one t
unfoldable pub forms_ok : Bool → Form → List (List ℕ) → Bool
forms_ok bare t [] = true
forms_ok bare t (f ∷ fs) = field_ok bare t f && forms_ok (bare_after bare t f) (next_form t) fs

-- 01: "the bytes of all hexadecimal fields": which forms are
abbrev pub hex_form : Form → Bool
hex_form Group = false
hex_form Since = false
hex_form TypeHash = true
hex_form Hash = true
hex_form TypeScript = true
hex_form Hex = true
hex_form Capacity = false
hex_form Digits = false

-- the bytes of a field
unfoldable pub field_bytes : Form → List ℕ → List ℕ
field_bytes t f = cond (hex_form t) (hex_bytes f) []

-- 01: "the bytes of all hexadecimal fields end to end", of one line
unfoldable pub line_bytes : Form → List (List ℕ) → List ℕ
line_bytes t [] = []
line_bytes t (f ∷ fs) = field_bytes t f ++ line_bytes (next_form t) fs

-- 01: "the rest into a lent u32 table, whose layout the team writes in docs/": of a field a group or a length, the halves of
-- SINCE and of CAPACITY, the count of DIGITS and each digit
abbrev pub field_entries : Form → List ℕ → List ℕ
field_entries Group f = hex_val (get_or f 0 0) ∷ []
field_entries Since f = u64_halves (number_in (decimal_of f))
field_entries TypeHash f = []
field_entries Hash f = []
field_entries TypeScript f = length f / 2 ∷ []
field_entries Hex f = length f / 2 ∷ []
field_entries Capacity f = u64_halves (number_in (decimal_of f))
field_entries Digits f = length f ∷ map hex_val f

-- what the table holds of a line's fields
unfoldable pub line_entries : Form → List (List ℕ) → List ℕ
line_entries t [] = []
line_entries t (f ∷ fs) = field_entries t f ++ line_entries (next_form t) fs

-- what a line's fields are: the row for 3, and where that passes how many bytes the row for 6 asks room for
unfoldable pub fields_found : Form → List (List ℕ) → Option ℕ
fields_found t fs = cond (forms_ok true t fs) (Some (length (line_bytes t fs))) None
