-- The encoding of CKB's RFC 0008, Molecule: a vector of bytes, and a table of any number of fields. An option is its value,
-- or no bytes.
use Rattle.std.specs.Prelude.{ℕ, ◌+◌, ◌*◌, List, [], ◌∷◌, ◌++◌, length}
use Rattle.octets.specs.Le.{to_le}
use Rattle.octets.specs.Lists.{joined}
use Rattle.octets.specs.Layout.{Field, layout_bytes}

-- a vector of items of one size, here bytes ("fixvec"): how many there are (u32), then the items
unfoldable pub bytes_vector : List ℕ → List ℕ
bytes_vector items = to_le 4 (length items) ++ items

-- where each field begins (u32), the first of them at `at`
unfoldable pub offsets_from : ℕ → List (List ℕ) → List Field
offsets_from at [] = []
offsets_from at (field ∷ fields) = record { width = 4; value = at } ∷ offsets_from (at + length field) fields

-- the total size, and one offset for each field, 4 bytes each
unfoldable pub head_size : List (List ℕ) → ℕ
head_size fields = 4 + 4 * length fields

-- a table: its total size (u32), an offset for each field, then the fields
unfoldable pub table_head : List (List ℕ) → List Field
table_head fields =
    record { width = 4; value = head_size fields + length (joined fields) } ∷ offsets_from (head_size fields) fields

unfoldable pub table_bytes : List (List ℕ) → List ℕ
table_bytes fields = layout_bytes (table_head fields) ++ joined fields
