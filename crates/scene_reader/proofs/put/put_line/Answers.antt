-- `scene_reader::put::put_line` meets its contract. Assumes nothing.
use mathlib.Core.Path.{refl}
use Rattle.std.specs.Prelude.{Some}
use Rattle.text.specs.Text.{pieces, comma}
use Rattle.scene_reader.proofs.PutDown.{is-put}
use Rattle.scene_reader.proofs.put.put_line.Goals as goal

pub returns : goal.returns
returns c =
    let a = c.args in
    let e = c.put_fields-end.ensures in
    is-put a.state a.store.now a.table.now (Some a.kind) (pieces comma a.fields.now) (Some a.kind) _ _ _ _ _ _ refl c.seen_with-seen.ensures c.first_form.ensures c.requires.n_value e.value e.store_after (rw (← c.rank.ensures) e.table_after)
