-- `export_answers::stored::store_hash` meets its contract: a refusal stores nothing. Assumes nothing.
use Rattle.export_answers.proofs.Fits.{bytes_refused}
use Rattle.export_answers.proofs.stored.store_hash.Goals as goal

pub returns-in-Err : goal.returns-in-Err
returns-in-Err c = rw (c.in-Err.is, c.error_number.ensures) (bytes_refused c.in-Err.error _ _)
