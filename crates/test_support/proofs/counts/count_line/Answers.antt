-- `test_support::counts::count_line` meets its contract. Assumes nothing.
use Rattle.std.proofs.Common.{◌+◌, refl, ◌∙◌, arith}
use Rattle.text.specs.Print.{number_text}
use Rattle.test_support.specs.Counts.{passed_word, failed_word, count_text}
use Rattle.test_support.proofs.FourTexts.{four-long, four-stored}
use Rattle.test_support.proofs.counts.count_line.Goals as goal

pub returns : goal.returns
unfolding count_text passed_word failed_word
returns c =
    let a = c.args in
    let p = c.put_decimal-passed_end.ensures in
    let f = c.put_decimal.ensures in
    let i = c.put_decimal-passed_end.result in
    let k = i + 9 + c.put_decimal.result in
    let long = four-long (number_text a.counts.passed) passed_word (number_text a.counts.failed) failed_word in
    let stored = four-stored a.out.now (number_text a.counts.passed) passed_word (number_text a.counts.failed) failed_word i (i + 9) k p.value refl (omega (arith, f.value)) in
    record { value = omega (arith, p.value, f.value, long); out_after = c.store_bytes-2.ensures ∙ rw (f.out_after, c.store_bytes.ensures, p.out_after) stored }
