-- The cycle of calls {put_digits}: the digits before the last, then the last. It ends since `most` falls.
use Rattle.std.proofs.Common.{◌≡◌, ◌+◌, ◌-◌, ◌/◌, ◌%◌, [], ◌∷◌, length, ℕ, ap, ◌∙◌, arith, length-append}
use Rattle.octets.proofs.Stores.{sets-append}
use Rattle.text.specs.Print.{decimal_text}
use Rattle.text.proofs.PrintLaws.{decimal-more}
use Rattle.text.proofs.print.+put_digits.Goals as goal

pub returns : goal.returns
returns t c =
    let a = c.args in
    let done = c.put_digits-n.ensures in
    let e = decimal-more a.most a.value c.if-most-eq0.false c.if-value-lt10.false in
    let text = decimal_text (a.most - 1) (a.value / 10) in
    let last = (48 + a.value % 10) ∷ [] in
    let n : length (decimal_text a.most a.value) ≡ length text + 1 = ap length e ∙ length-append text last in
    record {
      value = omega (arith, done.value);
      upper_bound = omega (arith, done.upper_bound);
      out_after = rw e (c.put_byte-2.ensures ∙ rw done.out_after (sets-append a.out.now a.at text last _ (ap (λ (k : ℕ). a.at + k) done.value)));
    }
