-- `account_state_writer::encode_state` meets its contract: by what the checks of the slices find. Assumes nothing.
use mathlib.Core.Path.{◌∙◌}
use native.Mathlib.Omega.{arith}
use Rattle.account_state.specs.declared.header.StateHeader.{StateHeader}
use Rattle.account_state_writer.specs.Writer.{state_from}
use Rattle.account_state_writer.specs.Lent.{state_lent}
use Rattle.account_state_writer.proofs.Agreed.{refused-written, encoded}
use Rattle.account_state_writer.proofs.encode_state.Goals as goal

pub returns-in_err-entries : goal.returns-in_err-entries
returns-in_err-entries c =
    let w = refused-written _ c.args.fields.now c.args.bytes.now c.args.out.now _ c.in_err-entries.ensures in
    record { value = grind (arith, w); out_after = w.1 }

pub returns : goal.returns
unfolding state_from state_lent
returns c =
    let a = c.args in
    let x = c.ranges in
    let n = c.in_ok-entries.ensures in
    let h : StateHeader =
    record {
      flags = a.flags;
      sequence = a.sequence;
      spend_threshold = a.spend;
      rotate_threshold = a.rotate;
      recovery_threshold = a.recovery;
      authenticator_count = c.entry_count.result;
      recovery_since = a.since;
    } in
    let w = encoded h a.fields.now a.bytes.now n.0
    (record { flags = x.flags.fits; sequence = x.sequence.fits; spend = x.spend.fits; rotate = x.rotate.fits; recovery = x.recovery.fits; since = x.since.fits })
    (λ i. (c.type_inv.fields i).fits) (λ i. (c.type_inv.bytes i).fits) a.out.now in
    let e = c.write_state.ensures in
    record { value = (rw n.3 at e.value) ∙ w.0; out_after = (rw n.3 at e.out_after) ∙ w.1 }
