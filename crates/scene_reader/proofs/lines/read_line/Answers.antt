-- `scene_reader::lines::read_line` meets its contract. Assumes nothing.
use Rattle.std.specs.Prelude.{Some}
use mathlib.Core.Path.{◌≡◌, sym, ◌∙◌}
use mathlib.Core.List.{◌∷◌}
use borrow.Author.Rules.{rules}
use Rattle.text.specs.Text.{pieces, comma}
use Rattle.scene_line.proofs.KindLaws.{some_shape}
use Rattle.scene_reader.specs.Room.{state_holding}
use Rattle.scene_reader.proofs.LinesOutcome.{step_cut}
use Rattle.scene_reader.proofs.lines.read_line.Goals as goal

pub read_as-requires-clause-fields_len : goal.read_as-requires-clause-fields_len
read_as-requires-clause-fields_len c =
    let is : c.line_kind.result ≡ Some c.in_ok-kind.kind = search rules in
    some_shape _ c.in_ok-word.word.now (pieces comma c.in_ok-word.fields.now) c.in_ok-kind.kind (sym (rw c.last_rank.ensures at c.line_kind.ensures) ∙ is)

pub returns-clause-table_after : goal.returns-clause-table_after
returns-clause-table_after c =
    let a = c.args in
    let h = state_holding a.state a.store.now a.table.now in
    let is : c.line_kind.result ≡ Some c.in_ok-kind.kind = search rules in
    let cut : pieces comma a.line.now ≡ c.in_ok-word.word.now ∷ pieces comma c.in_ok-word.fields.now = search rules in
    step_cut h a.line.now c.in_ok-word.word.now c.in_ok-word.fields.now (Some c.in_ok-kind.kind) _ cut (sym is ∙ (rw c.last_rank.ensures at c.line_kind.ensures)) c.read_as.ensures.table_after
