-- `scene-limits` (specs/SceneLimits): each row computed from the definitions. Assumes nothing.
use Rattle.std.specs.Prelude.{refl}
use Rattle.octets.specs.Lists.{same, every, joined}
use Rattle.protocol.specs.Rows.{◌▷◌, decide}
use Rattle.text.specs.Text.{before, pieces, hex_val, hex_ok, hex_bytes, decimal, number_of, decimal_of, number_in}
use Rattle.scene_line.specs.Kind.{kind_of, follows, line_kind, line_fields}
use Rattle.scene_line.specs.Line.{forms_ok, field_bytes, line_bytes, line_entries}
use Rattle.scene_reader.specs.Reader.{line_put_as, line_rows, rows_of_line, line_put, scene_end_rows, lines_rows, lines_put, reader_start, scene_limit_rows, scene_rows, read_of}
use Rattle.scene_reading.specs.Lines.{word_of, kind_of_line, fields_of_line}
use Rattle.scene_reading.specs.Reading.{cell_of, decimal_field, input_of, output_of, bytes_field, fields_of_kind, only_field, scene_of}
use Rattle.scene_table.specs.Scene.{cell_bytes, cell_lengths, bytes_line, hash_line, input_line, output_line, cell_line, digits_line, lines_of, scene_bytes, counts_of, records_from, scene_numbers}
use Rattle.limit_rows.specs.SceneLimits.{SceneLimits, every_kind, every_scene}

pub scene-limits : SceneLimits
unfolding same every joined decide before pieces hex_val hex_ok hex_bytes decimal number_of decimal_of number_in kind_of follows line_kind line_fields forms_ok field_bytes line_bytes line_entries line_put_as line_rows rows_of_line line_put scene_end_rows lines_rows lines_put reader_start scene_limit_rows scene_rows read_of word_of kind_of_line fields_of_line cell_of decimal_field input_of output_of bytes_field fields_of_kind only_field scene_of cell_bytes cell_lengths bytes_line hash_line input_line output_line cell_line digits_line lines_of scene_bytes counts_of records_from scene_numbers every_kind every_scene
scene-limits =
    record {
      of-1048576 = λ scene h. rw h;
      of-1048577 = λ scene h. rw h;
      table-2047 = refl;
      inputs = refl;
      outputs = refl;
      deps = refl;
      witnesses = refl;
      input-fields = refl;
      output-fields = refl;
      dep-fields = refl;
      order-start = refl;
      order-script = refl;
      order-tx = refl;
      order-output = refl;
      order-verdicts = refl;
      both-empty = refl;
      digits-16 = refl;
      digits-17 = refl;
      digit-3 = refl;
      hashes = refl;
      groups = refl;
      digits = refl;
      bytes = refl;
      largest = refl;
      too_large = refl;
      zeros = refl;
      every-read = refl;
      store-short = refl;
      every-scene = refl;
      every-table = refl;
    }
