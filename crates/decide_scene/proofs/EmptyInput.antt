-- 02, change 9: "empty input prints `answer,2,0,0,,`." With its byte 10:
-- Assumes nothing.
use mathlib.Core.Path.{◌≡◌, refl}
use mathlib.Core.List.{[], ◌∷◌}
use Rattle.protocol.specs.Rows.{decide}
use Rattle.text.specs.Text.{pieces}
use Rattle.scene_reader.specs.Reader.{scene_end_rows, lines_rows, lines_put, reader_start, scene_limit_rows, scene_rows, read_of}
use Rattle.account_lock.specs.Lock as lock
use Rattle.answer_line.specs.Line.{answer_word, digest_text, fee_text, line_of}
use Rattle.text.specs.Print.{parted_by, line_text, decimal_text, number_text}
use Rattle.decide_scene.specs.Decided.{decided_by, decided, program_decides, result_line, program_line}

pub empty-input : program_line [] ≡ 97 ∷ 110 ∷ 115 ∷ 119 ∷ 101 ∷ 114 ∷ 44 ∷ 50 ∷ 44 ∷ 48 ∷ 44 ∷ 48 ∷ 44 ∷ 44 ∷ 10 ∷ []
unfolding program_line result_line program_decides decided decided_by read_of scene_rows scene_limit_rows lines_rows lines_put scene_end_rows reader_start decide pieces lock.refused line_of line_text parted_by answer_word number_text digest_text fee_text decimal_text
empty-input = refl
