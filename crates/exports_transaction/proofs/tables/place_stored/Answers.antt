-- `exports_transaction::tables::place_stored` meets its contract: a refusal stores nothing. Assumes nothing.
use Rattle.export_answers.proofs.Fits.{bytes_refused}
use Rattle.exports_transaction.proofs.tables.place_stored.Goals as goal

pub returns-in-Err : goal.returns-in-Err
returns-in-Err c = rw (c.in-Err.is, c.error_number.ensures) (bytes_refused c.in-Err.error _ _)
