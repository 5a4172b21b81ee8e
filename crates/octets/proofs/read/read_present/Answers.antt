-- `octets::read::read_present` meets its contract: bytes past the end add nothing. Assumes nothing.
use Rattle.std.proofs.Common.{◌≡◌, ◌∙◌, arith}
use Rattle.octets.specs.Le.{number_at}
use Rattle.octets.proofs.LeLaws.{number_lt, number-out, number-clip}
use Rattle.octets.proofs.read.read_present.Goals as goal

pub returns-then-s-at : goal.returns-then-s-at
returns-then-s-at c =
    let a = c.args in
    let e : 0 ≡ number_at a.s.now a.at a.width = number-out _ _ _ c.if-s-at.true in
    record { value = e; upper_bound = rw (← e) at (number_lt a.s.now a.at a.width (λ i. (c.type_inv.s i).fits)) }

pub returns-then-width-room : goal.returns-then-width-room
returns-then-width-room c =
    let a = c.args in
    let e = c.read_le.ensures in
    record { value = e; upper_bound = rw e (number_lt a.s.now a.at a.width (λ i. (c.type_inv.s i).fits)) }

pub returns-else-width-room : goal.returns-else-width-room
returns-else-width-room c =
    let a = c.args in
    let e = c.read_le-else-width-room.ensures ∙ number-clip _ _ a.width (omega arith) in
    record { value = e; upper_bound = rw e (number_lt a.s.now a.at a.width (λ i. (c.type_inv.s i).fits)) }
