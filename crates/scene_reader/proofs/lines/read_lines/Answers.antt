-- `scene_reader::lines::read_lines` meets its contract. Assumes nothing.
use Rattle.std.specs.Prelude.{Err, Ok}
use native.Mathlib.Omega.{arith}
use Prim.Native.Nat.{◌+◌}
use mathlib.Core.Path.{◌≡◌, sym, ap, ◌∙◌}
use mathlib.Core.List.{[], ◌∷◌}
use borrow.Author.Rules.{rules}
use lib.ListN.{length}
use Rattle.scene_reader.specs.Reader.{ReaderState, lines_outcome}
use Rattle.scene_reader.specs.Room.{entries_before, entries_each, entries_limit, line_outcome, ReadyAfter, state_holding, step_outcome}
use Rattle.text.specs.Text.{pieces, line_end}
use Rattle.scene_reader.proofs.LinesOutcome.{starts, run-last, run_on, run-off}
use Rattle.scene_reader.proofs.lines.read_lines.Goals as goal

pub loop-line-init : goal.loop-line-init
unfolding entries_limit entries_before entries_each
loop-line-init c =
    let a = c.args in (
      ap (λ (h : ReaderState). lines_outcome h (pieces line_end a.scene.now)) (starts (length a.store.now) (length a.table.now) a.store.now a.table.now c.requires.store_value.0 c.requires.store_value.1),
      record { few = omega arith; inside = omega arith; small = omega arith; enough = c.requires.scene_len_bound.1; fits = omega arith },
    )

pub returns-in_err-state : goal.returns-in_err-state
returns-in_err-state c =
    let l = c.loop-line in
    let h = state_holding l.state l.store l.table in
    let x = c.in_err-state.field-0.0 in
    let cut : pieces line_end l.rest.now ≡ c.in-Some.line.now ∷ pieces line_end c.in-Some.after.now = search rules in
    let done : step_outcome (Err x) c.read_line.new.store c.read_line.new.table ≡ line_outcome h c.in-Some.line.now = rw c.in_err-state.was at c.read_line.ensures.table_after in
    let told : c.from_residual.result ≡ Err x = search rules in
    rw told (sym (l.invariant.0 ∙ run-off h c.in-Some.line.now c.in-Some.after.now _ cut x (sym done)))

pub loop-line-preserved : goal.loop-line-preserved
loop-line-preserved c =
    let l = c.loop-line in
    let h = state_holding l.state l.store l.table in
    let after = c.in_ok-state.state in
    let cut : pieces line_end l.rest.now ≡ c.in-Some.line.now ∷ pieces line_end c.in-Some.after.now = search rules in
    let done : step_outcome (Ok after) c.read_line.new.store c.read_line.new.table ≡ line_outcome h c.in-Some.line.now = rw c.in_ok-state.was at c.read_line.ensures.table_after in
    let long : length c.in-Some.line.now + 1 + length c.in-Some.after.now ≡ length l.rest.now = search rules in
    let k : ReadyAfter l.state (length c.in-Some.line.now) (length l.store) (length l.table) (Ok after) = rw c.in_ok-state.was at c.read_line.ensures.ready_after in (
      l.invariant.0 ∙ run_on h c.in-Some.line.now c.in-Some.after.now _ cut (state_holding after c.read_line.new.store c.read_line.new.table) (sym done),
      record { few = k.0.few; inside = omega arith; small = omega arith; enough = l.invariant.1.enough; fits = k.0.fits },
    )

pub returns : goal.returns
returns c =
    let l = c.loop-line in
    let last : pieces line_end l.rest.now ≡ l.rest.now ∷ [] = search rules in
    c.finish_at.ensures l.store l.table
    ∙ sym (l.invariant.0 ∙ run-last (state_holding l.state l.store l.table) l.rest.now _ last)
