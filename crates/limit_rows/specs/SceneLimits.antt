-- The scene: 01, "The scene, added by the port" and the reader's rows, 02, change 9, computed from the definitions. Bytes are ASCII.
use Rattle.std.specs.Prelude.{ℕ, ◌-◌, ◌^◌, ◌≡◌, true, false, List, [], ◌∷◌, ◌++◌, map, length, replicate, None, Ok, Some, Option}
use Rattle.protocol.specs.Rows.{decide, check_number}
use Rattle.text.specs.Text.{pieces, line_end, is_hex, hex_bytes, decimal_of}
use Rattle.scene_line.specs.declared.form.Form.TheVariants as form
use Rattle.scene_line.specs.declared.kind.Kind.{Kind}
use Rattle.scene_line.specs.declared.kind.Kind.TheVariants as kind
use Rattle.scene_line.specs.Kind.{rank, follows, line_kind, input, output, dep}
use Rattle.scene_line.specs.Line.{field_ok}
use Rattle.scene_reader.specs.Reader.{line_rows, scene_limit_rows, read_of, reader_check}
use Rattle.scene_reading.specs.Reading.{scene_of}
use Rattle.scene_table.specs.Scene.{Cell, Scene, scene_numbers}

-- `script,0a0f`, `tx,11..`, `input,1,12,22..,33..,04,05,13`, `output,44..,55..,06,07,14`, `dep,66..,77..,08,09`, `witness,0a`,
-- `verdicts,012`: a line of each kind, where no two fields are the same
unfoldable pub every_kind : List ℕ
every_kind =
    (115 ∷ 99 ∷ 114 ∷ 105 ∷ 112 ∷ 116 ∷ 44 ∷ 48 ∷ 97 ∷ 48 ∷ 102 ∷ 10 ∷ [])
    ++ (116 ∷ 120 ∷ 44 ∷ []) ++ replicate 64 49 ++ (10 ∷ [])
    ++ (105 ∷ 110 ∷ 112 ∷ 117 ∷ 116 ∷ 44 ∷ 49 ∷ 44 ∷ 49 ∷ 50 ∷ 44 ∷ []) ++ replicate 64 50 ++ (44 ∷ []) ++ replicate 64 51
    ++ (44 ∷ 48 ∷ 52 ∷ 44 ∷ 48 ∷ 53 ∷ 44 ∷ 49 ∷ 51 ∷ 10 ∷ [])
    ++ (111 ∷ 117 ∷ 116 ∷ 112 ∷ 117 ∷ 116 ∷ 44 ∷ []) ++ replicate 64 52 ++ (44 ∷ []) ++ replicate 64 53
    ++ (44 ∷ 48 ∷ 54 ∷ 44 ∷ 48 ∷ 55 ∷ 44 ∷ 49 ∷ 52 ∷ 10 ∷ [])
    ++ (100 ∷ 101 ∷ 112 ∷ 44 ∷ []) ++ replicate 64 54 ++ (44 ∷ []) ++ replicate 64 55
    ++ (44 ∷ 48 ∷ 56 ∷ 44 ∷ 48 ∷ 57 ∷ 10 ∷ [])
    ++ (119 ∷ 105 ∷ 116 ∷ 110 ∷ 101 ∷ 115 ∷ 115 ∷ 44 ∷ 48 ∷ 97 ∷ 10 ∷ [])
    ++ (118 ∷ 101 ∷ 114 ∷ 100 ∷ 105 ∷ 99 ∷ 116 ∷ 115 ∷ 44 ∷ 48 ∷ 49 ∷ 50 ∷ 10 ∷ [])

abbrev every_cell : ℕ → ℕ → ℕ → ℕ → Cell
every_cell type_hash data_hash script content =
    record { type_hash = replicate 32 type_hash; data_hash = replicate 32 data_hash; type_script = script ∷ []; content = content ∷ [] }

-- the scene that it says
unfoldable pub every_scene : Scene
every_scene =
    record {
      script = 0x0a ∷ 0x0f ∷ [];
      transaction = replicate 32 0x11;
      inputs = record { group = 1; since = 12; cell = every_cell 0x22 0x33 4 5; capacity = 13 } ∷ [];
      outputs = record { cell = every_cell 0x44 0x55 6 7; capacity = 14 } ∷ [];
      deps = every_cell 0x66 0x77 8 9 ∷ [];
      witnesses = (0x0a ∷ []) ∷ [];
      digits = 0 ∷ 1 ∷ 2 ∷ [];
    }

-- the reader's own rows, by the length of the table
abbrev limit_number : List ℕ → ℕ → ℕ
limit_number scene entries = check_number (decide (Ok tt) (scene_limit_rows scene entries))

-- a line of a kind without a field, by how many lines of that kind came before it
abbrev line_number : Option Kind → ℕ → ℕ
line_number k seen = check_number (decide (Ok tt) (line_rows (record { last = rank k; seen = seen; used = 0; filled = 8; store = []; table = [] }) k []))

-- a dep line behind the tx line, by its TYPEHASH and its TYPESCRIPT, with a store of 65 bytes
abbrev dep_number : List ℕ → List ℕ → ℕ
dep_number type_hash type_script =
    check_number (decide (Ok tt) (line_rows (record { last = 2; seen = 1; used = 0; filled = 8; store = replicate 65 0; table = [] }) (Some kind.Dep) (type_hash ∷ replicate 64 48 ∷ type_script ∷ [] ∷ [])))

-- the kind of a line of this word, behind the tx line, with n fields
abbrev kind_with : List ℕ → ℕ → Option Kind
kind_with word n = line_kind 2 (word ∷ replicate n [])

pub record SceneLimits : Type 0 where
  -- "reader: above 1,048,576 bytes", 1; "reader: table below 2,048 entries", 6
  pub of-1048576 : (scene : List ℕ) → length scene ≡ 1048576 → limit_number scene 2048 ≡ 0
  pub of-1048577 : (scene : List ℕ) → length scene ≡ 1048577 → limit_number scene 2048 ≡ 1
  pub table-2047 : limit_number [] 2047 ∷ limit_number [] 2048 ∷ [] ≡ 6 ∷ 0 ∷ []
  -- "line: 65th of a kind", 4
  pub inputs : line_number (Some kind.Input) 63 ∷ line_number (Some kind.Input) 64 ∷ [] ≡ 0 ∷ 4 ∷ []
  pub outputs : line_number (Some kind.Output) 63 ∷ line_number (Some kind.Output) 64 ∷ [] ≡ 0 ∷ 4 ∷ []
  pub deps : line_number (Some kind.Dep) 63 ∷ line_number (Some kind.Dep) 64 ∷ [] ≡ 0 ∷ 4 ∷ []
  pub witnesses : line_number (Some kind.Witness) 63 ∷ line_number (Some kind.Witness) 64 ∷ [] ≡ 0 ∷ 4 ∷ []
  -- 02, change 9: "Input and output lines end with a new field CAPACITY .. so older lines fall under 2"
  pub input-fields : map (kind_with input) (6 ∷ 7 ∷ 8 ∷ []) ≡ None ∷ Some kind.Input ∷ None ∷ []
  pub output-fields : map (kind_with output) (4 ∷ 5 ∷ 6 ∷ []) ≡ None ∷ Some kind.Output ∷ None ∷ []
  pub dep-fields : map (kind_with dep) (3 ∷ 4 ∷ 5 ∷ []) ≡ None ∷ Some kind.Dep ∷ None ∷ []
  -- "in this order of kinds": script, tx, then the others up to verdicts, by the ranks 1 to 7
  pub order-start : map (follows 0) (1 ∷ 2 ∷ 3 ∷ 7 ∷ []) ≡ true ∷ false ∷ false ∷ false ∷ []
  pub order-script : map (follows 1) (1 ∷ 2 ∷ 3 ∷ 7 ∷ []) ≡ false ∷ true ∷ false ∷ false ∷ []
  pub order-tx : map (follows 2) (1 ∷ 2 ∷ 3 ∷ 4 ∷ 5 ∷ 6 ∷ 7 ∷ []) ≡ false ∷ false ∷ true ∷ true ∷ true ∷ true ∷ true ∷ []
  pub order-output : map (follows 4) (2 ∷ 3 ∷ 4 ∷ 5 ∷ 6 ∷ 7 ∷ []) ≡ false ∷ false ∷ true ∷ true ∷ true ∷ true ∷ []
  pub order-verdicts : map (follows 7) (1 ∷ 2 ∷ 3 ∷ 6 ∷ 7 ∷ []) ≡ false ∷ false ∷ false ∷ false ∷ false ∷ []
  -- "a field's form, or just one of TYPEHASH and TYPESCRIPT empty", 3
  pub both-empty : dep_number [] [] ∷ dep_number (replicate 64 48) [] ∷ dep_number [] (48 ∷ 48 ∷ []) ∷ dep_number (replicate 64 48) (48 ∷ 48 ∷ []) ∷ [] ≡ 0 ∷ 3 ∷ 3 ∷ 0 ∷ []
  -- "DIGITS is up to 16 of 0 approved, 1 refused, 2 failed"
  pub digits-16 : field_ok true form.Digits (replicate 16 50) ≡ true
  pub digits-17 : field_ok true form.Digits (replicate 17 50) ≡ false
  pub digit-3 : field_ok true form.Digits (51 ∷ []) ≡ false
  -- "Hashes have 64 lower-case digits."; "GROUP is 1 where the input runs this lock, else 0"
  pub hashes : map (λ n. field_ok true form.Hash (replicate n 48)) (0 ∷ 62 ∷ 64 ∷ 66 ∷ []) ≡ false ∷ false ∷ true ∷ false ∷ []
  pub groups : map (λ d. field_ok true form.Group (d ∷ [])) (47 ∷ 48 ∷ 49 ∷ 50 ∷ []) ≡ false ∷ true ∷ true ∷ false ∷ []
  -- "two lower-case digits a byte"
  pub digits : map is_hex (47 ∷ 48 ∷ 57 ∷ 58 ∷ 65 ∷ 96 ∷ 97 ∷ 102 ∷ 103 ∷ []) ≡ false ∷ true ∷ true ∷ false ∷ false ∷ false ∷ true ∷ true ∷ false ∷ []
  pub bytes : hex_bytes (48 ∷ 57 ∷ 97 ∷ 102 ∷ []) ≡ 0x09 ∷ 0xaf ∷ []
  -- "SINCE is a decimal u64 without leading zeros, zero being `0`.": 2^64 - 1 and 2^64; `0`, `00`, `01` and nothing
  pub largest : decimal_of (49 ∷ 56 ∷ 52 ∷ 52 ∷ 54 ∷ 55 ∷ 52 ∷ 52 ∷ 48 ∷ 55 ∷ 51 ∷ 55 ∷ 48 ∷ 57 ∷ 53 ∷ 53 ∷ 49 ∷ 54 ∷ 49 ∷ 53 ∷ []) ≡ Some (2 ^ 64 - 1)
  pub too_large : decimal_of (49 ∷ 56 ∷ 52 ∷ 52 ∷ 54 ∷ 55 ∷ 52 ∷ 52 ∷ 48 ∷ 55 ∷ 51 ∷ 55 ∷ 48 ∷ 57 ∷ 53 ∷ 53 ∷ 49 ∷ 54 ∷ 49 ∷ 54 ∷ []) ≡ None
  pub zeros : map decimal_of ((48 ∷ []) ∷ (48 ∷ 48 ∷ []) ∷ (48 ∷ 49 ∷ []) ∷ [] ∷ []) ≡ Some 0 ∷ None ∷ None ∷ None ∷ []
  -- "Text lines ended by byte 10, fields parted by commas .. in this order of kinds"; a store of 233 bytes holds these lines, a shorter one is 6
  pub every-read : check_number (reader_check (read_of every_kind 233 2048)) ≡ 0
  pub store-short : check_number (reader_check (read_of every_kind 232 2048)) ≡ 6
  pub every-scene : scene_of (pieces line_end every_kind) ≡ every_scene
  -- the lent table of these lines, as docs/LAYOUTS.md has it
  pub every-table : scene_numbers every_scene ≡
      (0 ∷ 1 ∷ 1 ∷ 1 ∷ 1 ∷ 1 ∷ 1 ∷ 1 ∷ []) ++ (0 ∷ 2 ∷ []) ++ (2 ∷ []) ++ (34 ∷ 1 ∷ 12 ∷ 0 ∷ 1 ∷ 1 ∷ 13 ∷ 0 ∷ [])
      ++ (100 ∷ 1 ∷ 1 ∷ 14 ∷ 0 ∷ []) ++ (166 ∷ 1 ∷ 1 ∷ []) ++ (232 ∷ 1 ∷ []) ++ (233 ∷ 3 ∷ 0 ∷ 1 ∷ 2 ∷ [])
