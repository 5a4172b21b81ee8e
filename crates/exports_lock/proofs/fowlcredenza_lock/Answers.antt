-- `exports_lock::fowlcredenza_lock` meets its contract, by whether there is room for the answer. Assumes nothing.
use Rattle.account_lock.specs.Lock.{answer_of}
use Rattle.exports_lock.specs.Stored.{room_number, room_after}
use Rattle.exports_lock.proofs.Room.{room-yes, room-no}
use Rattle.exports_lock.proofs.fowlcredenza_lock.Goals as goal

pub returns-then-out-lt-ANSWER_LEN : goal.returns-then-out-lt-ANSWER_LEN
unfolding room_number room_after
returns-then-out-lt-ANSWER_LEN c =
    let e = room-no c.args.out.now c.if-out-lt-ANSWER_LEN.true in
    (rw e c.error_number.ensures, rw e, rw e)

pub returns : goal.returns
unfolding answer_of room_number room_after
returns c =
    let e = room-yes c.args.out.now c.if-out-lt-ANSWER_LEN.false in
    let answer = c.lock-locked.ensures in
    (rw e (rw answer.outcome at c.check_number.ensures), rw e answer.requests, rw e (rw answer.outcome at c.store_answer.ensures))
