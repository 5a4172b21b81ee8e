-- Args: accepted exactly where every check passes, refused exactly with the first that fails; and where they are accepted exactly
-- one account has them as its args.
-- Assumes nothing.
use Rattle.std.specs.Prelude.{Err, Ok}
use mathlib.Core.Path.{◌≡◌, sym, ap, ◌∙◌}
use mathlib.Core.List.{List, [], ◌∷◌}
use mathlib.Core.Logic.{◌↔◌}
use Prim.Native.Nat.{ℕ, suc, ◌≤◌}
use native.Mathlib.Omega.{arith}
use borrow.Author.Tests.{eqb-true}
use lib.ListN.{length, drop}
use lib.Seq.{take_all}
use Rattle.octets.specs.Le.{number_at}
use Rattle.octets.proofs.LeLaws.{number-one}
use Rattle.protocol.specs.Rows.{AllPass, FirstFailed}
use Rattle.protocol.specs.Args.{args_rows, read_args, args_bytes, account_of}
use Rattle.protocol.specs.Reading.{OneReading}
use Rattle.protocol.specs.declared.error.ProtocolError.{ProtocolError}
use Rattle.protocol.proofs.Answers.{then-accepts, then-refuses}

-- accepted exactly where every check passes
pub args-accepts : (s : List ℕ) → (read_args s ≡ Ok (record { version = 1; account_id = 1 })) ↔ AllPass (args_rows s)
unfolding read_args
args-accepts s = then-accepts _ (args_rows s)

-- refused exactly with the first check that fails
pub args-refuses : (s : List ℕ) (e : ProtocolError) → (read_args s ≡ Err e) ↔ FirstFailed (args_rows s) e
unfolding read_args
args-refuses s e = then-refuses _ (args_rows s) e

-- the one account
pub args_one : (s : List ℕ) → AllPass (args_rows s) → OneReading (λ (a : List ℕ). length a ≡ 32) args_bytes s (account_of s)
unfolding args_rows args_bytes account_of
args_one [] h = absurd (let e : 0 ≡ 33 = eqb-true 0 33 h.0 in omega arith)
args_one (b ∷ s) h =
    let n : suc (length s) ≡ 33 = eqb-true (suc (length s)) 33 h.0 in
    let v : number_at (b ∷ s) 0 1 ≡ 1 = eqb-true _ 1 h.1.0 in
    let e : b ≡ 1 = sym (number-one (b ∷ s) 0) ∙ v in
    let l : length s ≤ 32 = omega arith in
    record {
      typed = rw (take_all 32 s l) (omega arith);
      written = rw (take_all 32 s l, e);
      unique = λ a t w. ap (drop 1) w ∙ sym (take_all 32 s l);
    }
