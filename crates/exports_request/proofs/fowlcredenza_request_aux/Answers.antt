-- `exports_request::fowlcredenza_request_aux` meets its contract: what is handed out is the reading's. Assumes nothing.
use Rattle.verifier_request.specs.Reading.{RequestReading}
use Rattle.held_request.specs.Held.{held_reading}
use Rattle.exports_request.proofs.Parts.{handed}
use Rattle.exports_request.proofs.fowlcredenza_request_aux.Goals as goal

pub returns : goal.returns
unfolding held_reading
returns c =
    let a = c.args in
    handed a.request.now a.out.now a.len.now (λ (q : RequestReading). q.aux) _ _ _
    (rw (c.aux.ensures, c.refusal.ensures, c.parse-held.ensures) at c.store_part.ensures)
