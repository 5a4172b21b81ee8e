-- `text::cut::count` meets its contract: the separators found, and those that are left. Assumes nothing.
use Rattle.std.proofs.Common.{◌≡◌, ◌≤◌, ◌+◌, eqb, length, drop}
use Rattle.std.specs.List.{count_by}
use Rattle.text.specs.Text.{pieces}
use Rattle.text.proofs.cut.count.Given as goal

abbrev pub invariant-loop-byte : goal.invariant-loop-byte
invariant-loop-byte l =
    (l.found ≤ 1 + l.byte-index) × (l.found + count_by (λ y. eqb y l.c) (drop l.byte-index l.s) ≡ length (pieces l.c l.s))
