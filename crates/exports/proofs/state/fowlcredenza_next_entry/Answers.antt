-- `exports::state::fowlcredenza_next_entry` meets its contract: a refusal stores nothing. Assumes nothing.
use mathlib.Core.Path.{sym, ◌∙◌}
use Rattle.export_answers.proofs.Fits.{bytes_refused}
use Rattle.exports.proofs.state.fowlcredenza_next_entry.Goals as goal

pub returns-in-Err : goal.returns-in-Err
returns-in-Err c = rw (sym c.next_entry.ensures.value ∙ c.in-Err.is, c.error_number.ensures) (bytes_refused c.in-Err.error _ _)
