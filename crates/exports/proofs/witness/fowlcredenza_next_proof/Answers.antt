-- `exports::witness::fowlcredenza_next_proof` meets its contract: a refusal stores nothing. Assumes nothing.
use mathlib.Core.Path.{sym, ◌∙◌}
use Rattle.export_answers.proofs.Fits.{bytes_refused}
use Rattle.exports.proofs.witness.fowlcredenza_next_proof.Goals as goal

pub returns-in-Err : goal.returns-in-Err
returns-in-Err c = rw (sym c.next_proof.ensures ∙ c.in-Err.is, c.error_number.ensures) (bytes_refused c.in-Err.error _ _)
