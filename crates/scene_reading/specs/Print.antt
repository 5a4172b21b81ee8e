-- The text of a scene, by 01, "The scene, added by the port".
use Rattle.std.specs.Prelude.{ℕ, ◌+◌, List, [], ◌∷◌, ◌++◌, map}
use Rattle.text.specs.Print.{line_text, ended_lines, hex_text, number_text, digits_text}
use Rattle.scene_line.specs.Kind.{script, tx, input, output, dep, witness, verdicts}
use Rattle.scene_table.specs.Scene.{Cell, Input, Output, Scene}

-- "TYPEHASH,DATAHASH,TYPESCRIPT,DATA"
unfoldable pub cell_fields : Cell → List (List ℕ)
cell_fields c = hex_text c.type_hash ∷ hex_text c.data_hash ∷ hex_text c.type_script ∷ hex_text c.content ∷ []

-- "`input,GROUP,SINCE,TYPEHASH,DATAHASH,TYPESCRIPT,DATA`"; 02, change 9: and CAPACITY, "written as SINCE is"
unfoldable pub input_fields : Input → List (List ℕ)
input_fields i =
    ((48 + i.group) ∷ []) ∷ number_text i.since ∷ cell_fields i.cell ++ (number_text i.capacity ∷ [])

unfoldable pub input_text : Input → List ℕ
input_text i = line_text input (input_fields i)

-- "`output,` and `dep,` each with the last four", and of an output CAPACITY
unfoldable pub output_fields : Output → List (List ℕ)
output_fields o = cell_fields o.cell ++ (number_text o.capacity ∷ [])

unfoldable pub output_text : Output → List ℕ
output_text o = line_text output (output_fields o)

unfoldable pub dep_text : Cell → List ℕ
dep_text c = line_text dep (cell_fields c)

-- "`script,HEX`; `tx,HASH`"; "`witness,HEX`"
unfoldable pub bytes_text : List ℕ → List ℕ → List ℕ
bytes_text word bytes = line_text word (hex_text bytes ∷ [])

-- "in this order of kinds": the lines, without their endings
unfoldable pub text_lines : Scene → List (List ℕ)
text_lines s =
    bytes_text script s.script
    ∷ bytes_text tx s.transaction
    ∷ map input_text s.inputs
    ++ map output_text s.outputs
    ++ map dep_text s.deps
    ++ map (bytes_text witness) s.witnesses
    ++ (line_text verdicts (digits_text s.digits ∷ []) ∷ [])

unfoldable pub text_of : Scene → List ℕ
text_of s = ended_lines (text_lines s)
