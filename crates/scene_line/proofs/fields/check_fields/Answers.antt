-- `scene_line::fields::check_fields` meets its contract: what the fields so far and the rest give is what all give. Assumes
-- nothing.
use Rattle.std.proofs.Common.{◌≡◌, true, false, length, eqb, sym, ◌∙◌, arith, rules, tests}
use Rattle.std.proofs.lemmas.List.{length_push}
use Rattle.std.proofs.lemmas.Iterator.Splits.{YieldsList-from_slice_split}
use native.Mathlib.Nat.{add-zero}
use Rattle.text.specs.Text.{pieces, comma}
use Rattle.text.proofs.Splits.{piece_turn, pieces_end}
use Rattle.scene_line.specs.Line.{forms_ok, field_bytes, line_bytes, fields_found}
use Rattle.scene_line.proofs.FieldLaws.{forms-next, forms-off, fields-length, bytes_on, text-short}
use Rattle.scene_line.proofs.fields.check_fields.Goals as goal

pub returns-then-not-field_ok-clause-value : goal.returns-then-not-field_ok-clause-value
unfolding fields_found
returns-then-not-field_ok-clause-value c =
    let l = c.loop-field in
    let s = c.args.fields.now in
    let turn = piece_turn l.yielded _ _ _ l.yielded_by c.next.ensures.steps comma s (YieldsList-from_slice_split _ (λ y. eqb y comma) s (cc) (cc) (cc) (λ x r q k. search (rules, tests))) c.in-Some.field c.in-Some.is in
    let bad : c.field_ok.result ≡ false = search rules in
    rw (l.invariant.0 ∙ forms-off l.form _ _ _ turn l.bare (sym c.field_ok.ensures ∙ bad))

pub overflow_add-bytes : goal.overflow_add-bytes
overflow_add-bytes c =
    let l = c.loop-field in
    let s = c.args.fields.now in
    let turn = piece_turn l.yielded _ _ _ l.yielded_by c.next.ensures.steps comma s (YieldsList-from_slice_split _ (λ y. eqb y comma) s (cc) (cc) (cc) (λ x r q k. search (rules, tests))) c.in-Some.field c.in-Some.is in
    let more = fields-length field_bytes line_bytes bytes_on l.form _ _ _ turn in
    let all = text-short c.args.first comma s in
    omega (arith, l.invariant.1, more, all, c.field_size-bytes.ensures.value)

pub loop-field-preserved : goal.loop-field-preserved
loop-field-preserved c =
    let l = c.loop-field in
    let s = c.args.fields.now in
    let turn = piece_turn l.yielded _ _ _ l.yielded_by c.next.ensures.steps comma s (YieldsList-from_slice_split _ (λ y. eqb y comma) s (cc) (cc) (cc) (λ x r q k. search (rules, tests))) c.in-Some.field c.in-Some.is in
    let good : c.field_ok.result ≡ true = search rules in
    let more = fields-length field_bytes line_bytes bytes_on l.form _ _ _ turn in
    let next = length_push l.yielded c.in-Some.field in (
      l.invariant.0 ∙ forms-next l.form _ _ _ turn l.bare (sym c.field_ok.ensures ∙ good) ∙ rw (next, c.next-form.ensures, c.bare_after-bare.ensures),
      rw (next, c.next-form.ensures) (omega (arith, l.invariant.1, more, c.field_size-bytes.ensures.value)),
    )

pub returns-clause-value : goal.returns-clause-value
unfolding fields_found forms_ok line_bytes
returns-clause-value c =
    let l = c.loop-field in
    let s = c.args.fields.now in
    let end = pieces_end l.yielded _ _ _ l.yielded_by c.next.ensures.steps comma s (YieldsList-from_slice_split _ (λ y. eqb y comma) s (cc) (cc) (cc) (λ x r q k. search (rules, tests))) c.in-None.is in
    let oks : forms_ok true c.args.first (pieces comma s) ≡ true = l.invariant.0 ∙ rw end in
    let size : length (line_bytes c.args.first (pieces comma s)) ≡ l.bytes = sym l.invariant.1 ∙ rw (end, add-zero) in
    rw (oks, size)

pub returns-clause-bytes_in_bounds : goal.returns-clause-bytes_in_bounds
returns-clause-bytes_in_bounds c = omega (arith, c.loop-field.invariant.1, text-short c.args.first comma c.args.fields.now)
