-- `account_witness_writer::encode::encode_witness` meets its contract: slices that pass the checks agree. Assumes nothing.
use Rattle.std.proofs.Common.{sym, ◌∙◌}
use Rattle.account_witness_writer.proofs.WriterLaws.{witness-answered-holds}
use Rattle.account_witness_writer.proofs.encode.encode_witness.Goals as goal

pub store_proofs-requires : goal.store_proofs-requires
store_proofs-requires c =
    let z = witness-answered-holds _ _ _ _ _ _ (sym c.written_len.ensures ∙ c.in_ok-len.was) in
    (z.counts, z.sums, z.most)
