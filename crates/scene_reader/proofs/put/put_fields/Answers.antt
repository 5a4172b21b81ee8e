-- `scene_reader::put::put_fields` meets its contract: what is left to put down gives the whole. Assumes nothing.
use Rattle.std.proofs.Common.{eqb, refl, sym, ◌∙◌, arith, rules, tests}
use native.Mathlib.Nat.{add-zero}
use Rattle.std.proofs.lemmas.List.{length_push}
use Rattle.std.proofs.lemmas.Iterator.Splits.{YieldsList-from_slice_split}
use Rattle.text.specs.Text.{comma}
use Rattle.text.proofs.Pieces.{pieces_short}
use Rattle.text.proofs.Splits.{piece_turn, pieces_end}
use Rattle.scene_line.specs.Line.{field_bytes, line_bytes, field_entries, line_entries}
use Rattle.scene_line.proofs.FieldLaws.{fields-length, fields-put, bytes_on, numbers_on}
use Rattle.scene_reader.proofs.FieldsPut.{joined-turn}
use Rattle.scene_reader.proofs.put.put_fields.Goals as goal

pub loop-field-init : goal.loop-field-init
loop-field-init c =
    let short = pieces_short comma c.args.fields.now in
    (omega arith, omega arith, refl, refl, refl)

pub put_number-entry-requires : goal.put_number-entry-requires
put_number-entry-requires c =
    let l = c.loop-field in
    let s = c.args.fields.now in
    let turn = piece_turn l.yielded _ _ _ l.yielded_by c.next.ensures.steps comma s (YieldsList-from_slice_split _ (λ y. eqb y comma) s (cc) (cc) (cc) (λ x r q k. search (rules, tests))) c.in-Some.field c.in-Some.is in
    let few = fields-length field_entries line_entries numbers_on l.form _ _ _ turn in
    let part = joined-turn _ _ _ turn in
    record { f_in_bounds = omega (arith, few); f_len_bound = omega (arith, part) }

pub loop-field-preserved : goal.loop-field-preserved
loop-field-preserved c =
    let l = c.loop-field in
    let s = c.args.fields.now in
    let turn = piece_turn l.yielded _ _ _ l.yielded_by c.next.ensures.steps comma s (YieldsList-from_slice_split _ (λ y. eqb y comma) s (cc) (cc) (cc) (λ x r q k. search (rules, tests))) c.in-Some.field c.in-Some.is in
    let next = length_push l.yielded c.in-Some.field in
    let few = fields-length field_entries line_entries numbers_on l.form _ _ _ turn in
    let part = joined-turn _ _ _ turn in
    let n = c.put_number-entry.ensures in
    let b = c.put_bytes-at.ensures in (
      rw next (omega (arith, part)),
      rw next (omega (arith, part)),
      rw (next, c.next-form.ensures) (omega (arith, few)),
      l.invariant.3 ∙ fields-put field_bytes line_bytes bytes_on l.form _ _ _ turn l.store l.at ∙ rw (next, c.next-form.ensures, b.store_after, b.value),
      l.invariant.4 ∙ fields-put field_entries line_entries numbers_on l.form _ _ _ turn l.table l.entry ∙ rw (next, c.next-form.ensures, n.table_after, n.value),
    )

pub returns : goal.returns
unfolding line_bytes line_entries
returns c =
    let l = c.loop-field in
    let s = c.args.fields.now in
    let end = pieces_end l.yielded _ _ _ l.yielded_by c.next.ensures.steps comma s (YieldsList-from_slice_split _ (λ y. eqb y comma) s (cc) (cc) (cc) (λ x r q k. search (rules, tests))) c.in-None.is in
    record {
      value = rw (end, add-zero) at l.invariant.2;
      store_after = sym (rw end at l.invariant.3);
      table_after = sym (rw end at l.invariant.4);
    }
