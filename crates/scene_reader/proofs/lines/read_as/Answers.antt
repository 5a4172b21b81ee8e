-- `scene_reader::lines::read_as` meets its contract. Assumes nothing.
use Rattle.std.specs.Prelude.{Some}
use mathlib.Core.Path.{refl, sym, ◌∙◌}
use native.Mathlib.Omega.{arith}
use lib.ListN.{length}
use Rattle.text.specs.Text.{pieces, comma}
use Rattle.scene_reader.specs.Room.{state_holding}
use Rattle.scene_reader.proofs.LinePasses.{line-sized}
use Rattle.scene_reader.proofs.PutDown.{room, kept}
use Rattle.scene_reader.proofs.lines.read_as.Goals as goal

pub put_line-requires : goal.put_line-requires
put_line-requires c =
    let a = c.args in
    let p = c.requires in
    let fs = pieces comma a.fields.now in
    let z = line-sized (state_holding a.state a.store.now a.table.now) (Some a.kind) fs _ (sym (c.in_ok-bytes.was) ∙ c.check_line.ensures.value a.store.now a.table.now refl) in
    let small = p.reader_ready.small in
    record {
      n_value = z.size;
      n_in_bounds = omega (arith, z.passes.room, z.size);
      fields_len_bound = (omega (arith, small), omega (arith, small), p.reader_ready.few);
      k_in_bounds = room a.state a.store.now a.table.now (Some a.kind) fs (length a.fields.now) p.reader_ready p.fields_len z.passes;
    }

pub returns-clause-ready_after : goal.returns-clause-ready_after
returns-clause-ready_after c =
    let a = c.args in
    let p = c.requires in
    let fs = pieces comma a.fields.now in
    let z = line-sized (state_holding a.state a.store.now a.table.now) (Some a.kind) fs _ (sym (c.in_ok-bytes.was) ∙ c.check_line.ensures.value a.store.now a.table.now refl) in
    kept a.state a.store.now a.table.now (Some a.kind) fs (length a.fields.now) p.reader_ready p.fields_len z.passes c.put_line.result _ _ (omega (arith, z.size, c.in_ok-bytes.ensures.upper_bound)) c.put_line.ensures
