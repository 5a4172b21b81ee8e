-- `scene_reader::read_checked` meets its contract. Assumes nothing.
use Rattle.std.specs.Prelude.{Err}
use mathlib.Core.Path.{◌≡◌, sym, ◌∙◌}
use borrow.Author.Rules.{rules}
use lib.ListN.{length}
use Rattle.protocol.specs.Rows.{decide}
use Rattle.scene_reader.specs.Reader.{scene_limit_rows}
use Rattle.scene_reader.proofs.LinesOutcome.{limits-passed, limits-failed}
use Rattle.scene_reader.proofs.read_checked.Goals as goal

pub returns-in_err-require : goal.returns-in_err-require
unfolding scene_limit_rows decide
returns-in_err-require c =
    let a = c.args in
    let e = c.in_err-require.field-0.0 in
    let told : c.from_residual.result ≡ Err e = search rules in
    rw told (sym (limits-failed a.scene.now (length a.store.now) (length a.table.now) e (search rules)))

pub returns-in_err-require-2 : goal.returns-in_err-require-2
unfolding scene_limit_rows decide
returns-in_err-require-2 c =
    let a = c.args in
    let e = c.in_err-require-2.field-0.0 in
    let told : c.from_residual-in_err-require-2.result ≡ Err e = search rules in
    rw told (sym (limits-failed a.scene.now (length a.store.now) (length a.table.now) e (search rules)))

pub returns : goal.returns
unfolding scene_limit_rows decide
returns c =
    let a = c.args in
    c.read_lines.ensures ∙ sym (limits-passed a.scene.now (length a.store.now) (length a.table.now) (search rules))
