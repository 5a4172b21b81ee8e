-- `lock-limits` (specs/LockLimits): each row computed from the definitions. Assumes nothing.
use Rattle.std.specs.Prelude.{refl}
use Rattle.octets.specs.Le.{to_le, from_le, number_at}
use Rattle.octets.specs.Places.{bytes_at}
use Rattle.protocol.specs.Rows.{◌▷◌, decide}
use Rattle.protocol.specs.Args.{args_rows, account_of}
use Rattle.molecule.specs.Table3.{table_rows, between, field3}
use Rattle.molecule.specs.Bytes.{bytes_rows, bytes_place_from, script_args_rows, read_script_args, bytes_in}
use Rattle.text.specs.Print.{parted_by, line_text, digit_text, hex_text, decimal_text, number_text}
use Rattle.account_lock.specs.Lock.{args_in, account_in, script_rows}
use Rattle.answer_line.specs.Line.{answer_word, digest_text, fee_text, line_of}
use Rattle.decide_scene.specs.Decided.{program_decides}
use Rattle.limit_rows.specs.MoleculeLimits.{table_with}
use Rattle.limit_rows.specs.LockLimits.{LockLimits, script_with}

pub lock-limits : LockLimits
unfolding to_le from_le number_at bytes_at decide args_rows account_of table_rows between field3 bytes_rows bytes_place_from script_args_rows read_script_args bytes_in parted_by line_text digit_text hex_text decimal_text args_in account_in script_rows answer_word number_text digest_text fee_text line_of program_decides table_with script_with
lock-limits =
    record {
      scripts = refl;
      account = refl;
      program-65536 = λ scene h. rw h;
      program-65537 = λ scene h. rw h;
      accepted = refl;
      unsatisfied = refl;
      unreached = refl;
    }
