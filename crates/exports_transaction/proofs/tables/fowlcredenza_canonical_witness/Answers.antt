-- `exports_transaction::tables::fowlcredenza_canonical_witness` meets its contract, as its two calls do. Assumes nothing.
use Rattle.exports_transaction.proofs.tables.fowlcredenza_canonical_witness.Goals as goal

pub returns : goal.returns
returns c =
    let w = c.canonical_witness.ensures in
    (rw w.value at c.written.ensures.value, w.out_after, rw w.value at c.written.ensures.len_after)
