-- `account_lock::lock` meets its contract. Assumes nothing.
use mathlib.Core.Path.{sym, ap, ◌∙◌}
use lib.ListN.{length}
use Rattle.account_lock.specs.Lock.{answer_of}
use Rattle.account_lock.proofs.LockTheorem.{lock-valid, lock-decided}
use Rattle.account_lock.proofs.lock.Goals as goal

pub returns-then-table_valid-clause-decision : goal.returns-then-table_valid-clause-decision
returns-then-table_valid-clause-decision c =
    let a = c.args in
    let same = lock-valid a.table.now a.store.now (length a.answer.now) (sym c.table_valid.ensures ∙ c.if-table_valid.true) in
    lock-decided a.table.now a.store.now a.answer.now (c.lock_scene.ensures.returns_result ∙ ap answer_of (sym same))
