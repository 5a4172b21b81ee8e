-- `exports::proof::fowlcredenza_parse_public_key_proof` meets its contract: a refusal stores nothing. Assumes nothing.
use mathlib.Core.Path.{sym, ◌∙◌}
use Rattle.export_answers.proofs.Fits.{bytes_refused}
use Rattle.exports.proofs.proof.fowlcredenza_parse_public_key_proof.Goals as goal

pub returns-in-Err : goal.returns-in-Err
returns-in-Err c = rw (sym c.parse_public_key_proof.ensures ∙ c.in-Err.is, c.error_number.ensures) (bytes_refused c.in-Err.error _ _)
