-- `exports_lock::fowlcredenza_decide_scene` meets its contract, by whether there is room for the answer. Assumes nothing.
use Rattle.account_lock.specs.Lock.{answer_of}
use Rattle.exports_lock.specs.Stored.{room_number, room_after}
use Rattle.exports_lock.proofs.Room.{room-yes, room-no}
use Rattle.exports_lock.proofs.fowlcredenza_decide_scene.Goals as goal

pub returns-then-out-lt-ANSWER_LEN : goal.returns-then-out-lt-ANSWER_LEN
unfolding room_number room_after
returns-then-out-lt-ANSWER_LEN c =
    let e = room-no c.args.out.now c.if-out-lt-ANSWER_LEN.true in
    record { stores_decision = (rw e c.error_number.ensures, rw e, rw e); stores_scene = (rw e, rw e) }

pub returns : goal.returns
unfolding answer_of room_number room_after
returns c =
    let e = room-yes c.args.out.now c.if-out-lt-ANSWER_LEN.false in
    let read = c.decide_scene-read.ensures in record { stores_decision = (rw e (rw read.value at c.check_number.ensures), rw e read.answer_after, rw e (rw read.value at c.store_answer.ensures)); stores_scene = (rw e read.store_after, rw e read.table_after) }
