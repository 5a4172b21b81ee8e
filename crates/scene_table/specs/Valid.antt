-- 01, the row for 7: "a table that the reader, scene length aside, leaves for no accepted scene with a store this long".
use Rattle.std.specs.Prelude.{ℕ, ◌^◌, Bool, cond, ◌&&◌, List, length, leb, ltb, eqb}
use Rattle.octets.specs.Lists.{same, every}
use Rattle.protocol.specs.Limits.{table_min_entries, kind_max_lines, digits_max_count}
use Rattle.scene_table.specs.Scene.{Cell, Input, Output, Scene, scene_bytes, scene_table}
use Rattle.scene_table.specs.Lent.{blank_scene}

unfoldable pub bytes_ok : List ℕ → Bool
bytes_ok bytes = every (λ (b : ℕ). ltb b 256) bytes

unfoldable pub hash_bytes_ok : List ℕ → Bool
hash_bytes_ok hash = eqb (length hash) 32 && bytes_ok hash

-- "TYPEHASH and TYPESCRIPT are both empty or neither."
unfoldable pub cell_ok : Cell → Bool
cell_ok c =
    cond (eqb (length c.type_script) 0) (eqb (length c.type_hash) 0) (hash_bytes_ok c.type_hash)
    && (hash_bytes_ok c.data_hash && (bytes_ok c.type_script && bytes_ok c.content))

-- "GROUP is 1 where the input runs this lock, else 0 .. SINCE is a decimal u64"; 02, change 9: CAPACITY is "written as SINCE is"
unfoldable pub input_ok : Input → Bool
input_ok i = ltb i.group 2 && (ltb i.since (2 ^ 64) && (cell_ok i.cell && ltb i.capacity (2 ^ 64)))

unfoldable pub output_ok : Output → Bool
output_ok o = cell_ok o.cell && ltb o.capacity (2 ^ 64)

-- "Script, tx and verdicts stand once; each other kind 0 to 64 times."
unfoldable pub few_of : {A : Type 0} → (A → Bool) → List A → Bool
few_of p xs = leb (length xs) kind_max_lines && every p xs

-- "DIGITS is up to 16 of 0 approved, 1 refused, 2 failed"
unfoldable pub digits_ok : List ℕ → Bool
digits_ok digits = leb (length digits) digits_max_count && every (λ (d : ℕ). ltb d 3) digits

-- the scenes that a text can say
unfoldable pub scene_ok : Scene → Bool
scene_ok s =
    bytes_ok s.script
    && (hash_bytes_ok s.transaction
    && (few_of input_ok s.inputs
    && (few_of output_ok s.outputs && (few_of cell_ok s.deps && (few_of bytes_ok s.witnesses && digits_ok s.digits)))))

-- a table of at least 2,048 entries that is the table of the scene which it says, whose bytes a store of n bytes holds
unfoldable pub valid_table : List ℕ → ℕ → Bool
valid_table table n =
    leb table_min_entries (length table)
    && (scene_ok (blank_scene table)
    && (leb (length (scene_bytes (blank_scene table))) n && same table (scene_table (blank_scene table) (length table))))
