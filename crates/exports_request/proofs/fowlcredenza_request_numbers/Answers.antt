-- `exports_request::fowlcredenza_request_numbers` meets its contract: what is handed out is the reading's. Assumes nothing.
use Rattle.exports_request.specs.Parts.{number_words}
use Rattle.exports_request.proofs.Parts.{handed}
use Rattle.exports_request.proofs.fowlcredenza_request_numbers.Goals as goal

pub returns : goal.returns
returns c =
    let a = c.args in
    (handed a.request.now a.out.now 0 number_words _ _ _
    (rw (c.number_words.ensures, c.refusal.ensures, c.parse-held.ensures) at c.store_part.ensures)).0
