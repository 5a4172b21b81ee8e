-- `exports::args::write_args` meets its contract: where its checks pass the args are stored whole. Assumes nothing.
use mathlib.Core.Path.{◌≡◌, sym, ap, ◌∙◌}
use mathlib.Core.List.{List, [], ◌∷◌}
use Prim.Native.Nat.{ℕ, suc}
use lib.ListN.{length}
use borrow.Author.Tests.{eqb-true}
use Rattle.octets.proofs.Arrays.{array_whole}
use Rattle.protocol.specs.Args.{args_bytes}
use Rattle.protocol.proofs.Back.{write-passed}
use Rattle.protocol.proofs.Outcome.{write_done}
use Rattle.export_answers.specs.Lent.{size_row}
use Rattle.exports.specs.Writers.{args_writer_fault, args_written, args_stored}
use Rattle.exports.proofs.args.write_args.Goals as goal

pub returns-clause-out_after : goal.returns-clause-out_after
unfolding args_writer_fault args_written args_stored args_bytes
returns-clause-out_after c =
    let account : List ℕ = c.args.account.now in
    let found = c.check_account.ensures in
    let passed = c.in_ok-check_account.was in
    let n : length account ≡ 32 = eqb-true _ _ (write-passed _ _ _ (sym found ∙ passed)).0.0 in
    let stored = rw (c.account_lock_args-args.ensures, c.array_32.ensures ∙ array_whole 32 account n) at c.store_bytes.ensures in
    (write_done (size_row account ∷ []) 33 c.args.out.now _ found (args_bytes account) _ passed (ap suc n) stored).1
