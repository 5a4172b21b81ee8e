-- `exports::args::fowlcredenza_parse_args` meets its contract: a refusal stores nothing. Assumes nothing.
use mathlib.Core.Path.{sym, ◌∙◌}
use Rattle.export_answers.proofs.Fits.{bytes_refused}
use Rattle.exports.proofs.args.fowlcredenza_parse_args.Goals as goal

pub returns-in-Err : goal.returns-in-Err
returns-in-Err c = rw (sym c.parse.ensures ∙ c.in-Err.is, c.error_number.ensures) (bytes_refused c.in-Err.error _ _)
