-- The lock's rows in the order in which the code goes through them, and what follows where they pass.
-- Assumes nothing.
use Rattle.std.specs.Prelude.{Ok, Result}
use mathlib.Core.Path.{◌≡◌, refl, sym, ap, ◌∙◌}
use mathlib.Core.Bool.{Bool, true, false, cond}
use mathlib.Core.List.{List, [], ◌++◌}
use Prim.Native.Nat.{ℕ, ◌-◌}
use native.Mathlib.Omega.{arith}
use lib.Dec.{eqb}
use lib.ListN.{length, drop, length-drop}
use lib.Seq.{length-take-le}
use borrow.Author.Tests.{eqb-true}
use Rattle.protocol.specs.Args.{args_rows, account_of}
use Rattle.protocol.specs.Policy.{is_operation, operation_rows}
use Rattle.protocol.specs.Rows.{AllPass, decide, ◌then◌}
use Rattle.protocol.proofs.AllPass.{then-assoc, all-pass-split, passed-all-pass}
use Rattle.protocol.proofs.Answers.{then-given}
use Rattle.protocol.specs.declared.error.ProtocolError.{ProtocolError}
use Rattle.molecule.specs.Bytes as molecule
use Rattle.molecule.proofs.BytesTheorem.{lock-read, args_read}
use Rattle.octets.specs.Places.{bytes_at}
use Rattle.octets.proofs.Arrays.{array_whole}
use Rattle.scene_table.specs.Lent.{scene_in, script_place}
use Rattle.scene_table.proofs.PlaceLaws.{lent-given}
use Rattle.capacity.proofs.FeeLaws.{totals-checked, totals-fee}
use Rattle.group_sighash.proofs.FirstRows.{group-first}
use Rattle.proof_walk.proofs.WalkLaws.{walk-known}
use Rattle.account_witness.specs.Fields.{operation_of}
use Rattle.account_witness.specs.Header.{witness_header_rows}
use Rattle.scene_table.specs.Scene.{Scene}
use Rattle.cell_hashes.specs.Hashes.{hash_rows}
use Rattle.group_sighash.specs.Witnesses.{first_witness, lock_in, first_witness_rows, count_rows, group_rows, other_rows}
use Rattle.cell_search.specs.declared.cells.Source.TheVariants as source
use Rattle.cell_search.specs.Search.{cells_of, cell_at}
use Rattle.state_transition.specs.declared.resolve.ResolvedState.{ResolvedState}
use Rattle.state_transition.specs.Resolve.{resolve_rows, state_index, state_source, current_at, current_state, successor_at, successor_state, since_at, state_since, resolved_of}
use Rattle.account_lock.specs.Calls.{found_by}
use Rattle.account_lock.proofs.Stages.{resolved-found, late-found, early-found}
use Rattle.account_lock.specs.Lock.{args_in, account_in, script_rows, account, operation, current, successor, states_rows, late_rows, early_rows, witness_lock}

-- the args of a script whose rows pass have the id's 32 bytes
pub account-whole : (script : List ℕ) → AllPass (script_rows script) → length (account_in script) ≡ 32
unfolding script_rows account_in account_of args_rows
account-whole script h =
    let split = all-pass-split (molecule.script_args_rows script) _ h.1 in
    let n : length (args_in script) ≡ 33 = eqb-true _ _ split.1.0 in
    let m : length (drop 1 (args_in script)) ≡ length (args_in script) - 1 = length-drop 1 (args_in script) in
    length-take-le 32 (drop 1 (args_in script)) (omega arith)

-- and a group whose rows pass has a witness lock and an operation
module _ (s : Scene) (h : AllPass (group_rows s)) where
  pub lock-rows : AllPass (molecule.witness_lock_rows (first_witness s)) × AllPass (witness_header_rows (lock_in (first_witness s)) ++ count_rows (lock_in (first_witness s)))
  unfolding group_rows first_witness_rows
  lock-rows = all-pass-split (molecule.witness_lock_rows (first_witness s)) _ h.1.1

  pub group-operation : is_operation (operation s) ≡ true
  unfolding operation witness_lock witness_header_rows
  group-operation = (all-pass-split (witness_header_rows (lock_in (first_witness s))) (count_rows (lock_in (first_witness s))) lock-rows.1).0.1.1.1.1.0

-- the script is the scene's
pub script_lent : (table store : List ℕ) → bytes_at store (script_place table) ≡ (scene_in table store).script
script_lent table store = sym (lent-given table store).script

-- the args of a script that passes
pub args_found : (script : List ℕ) → decide (Ok tt) (molecule.script_args_rows script) ≡ Ok tt
    → bytes_at script (molecule.script_args_place script) ≡ args_in script
unfolding args_in
args_found script h = args_read script (passed-all-pass (molecule.script_args_rows script) h)

-- a scene whose script passes has an account, of 32 bytes
module _ (s : Scene) (h : decide (Ok tt) (script_rows s.script) ≡ Ok tt) where
  pub account_found : account_of (bytes_at s.script (molecule.script_args_place s.script)) ≡ account s
  unfolding script_rows account account_in args_in
  account_found = ap account_of (args_read s.script (all-pass-split (molecule.script_args_rows s.script) _ (passed-all-pass _ h).1).0)

  pub account_long : length (account s) ≡ 32
  unfolding account
  account_long = account-whole s.script (passed-all-pass _ h)

-- and one whose group passes has a witness lock, and an operation from 1 to 3
module _ (s : Scene) (h : decide (Ok tt) (group_rows s) ≡ Ok tt) where
  pub lock_found : bytes_at (first_witness s) (molecule.witness_lock_place (first_witness s)) ≡ witness_lock s
  unfolding witness_lock lock_in
  lock_found = lock-read (first_witness s) (lock-rows s (passed-all-pass _ h)).0

  pub operation_known : is_operation (operation s) ≡ true
  operation_known = group-operation s (passed-all-pass _ h)

-- the rows before the proofs, list by list: the states' and the other witnesses', and all
module _ (s : Scene) where
  pub late_found : decide (Ok tt) (late_rows s)
      ≡ decide (Ok tt) (resolve_rows (operation s) (account s) s) then (decide (Ok tt) (states_rows s) then decide (Ok tt) (other_rows s))
  late_found = sym (late-found s refl refl refl) ∙ then-assoc (decide (Ok tt) (resolve_rows (operation s) (account s) s)) (decide (Ok tt) (states_rows s)) (decide (Ok tt) (other_rows s))

  pub early_found : decide (Ok tt) (early_rows s)
      ≡ decide (Ok tt) (hash_rows s) then (decide (Ok tt) (script_rows s.script) then (decide (Ok tt) (group_rows s) then decide (Ok tt) (late_rows s)))
  early_found =
      early-found s refl refl refl ∙ then-assoc ((decide (Ok tt) (hash_rows s)) then (decide (Ok tt) (script_rows s.script))) (decide (Ok tt) (group_rows s)) (decide (Ok tt) (late_rows s))
      ∙ then-assoc (decide (Ok tt) (hash_rows s)) (decide (Ok tt) (script_rows s.script)) ((decide (Ok tt) (group_rows s)) then (decide (Ok tt) (late_rows s)))

-- for an operation from 1 to 3 the search for the state finds what the lock's rows find,
module _ (s : Scene) (h : is_operation (operation s) ≡ true) where
  found-rows : {A : Type 0} (v : Result A ProtocolError)
      → decide (Ok tt) (operation_rows (operation s) ++ resolve_rows (operation s) (account s) s) then v ≡ decide (Ok tt) (resolve_rows (operation s) (account s) s) then v
  unfolding operation_rows decide
  found-rows v = rw h

  pub resolved_found : decide (Ok tt) (resolve_rows (operation s) (account s) s) ≡ found_by (resolved_of (operation s) (account s) s)
  resolved_found = sym (resolved-found (operation s) (account s) s h)

  -- and the indices that it gives are those of the current state and its successor
  module _ (f : ResolvedState) (r : resolved_of (operation s) (account s) s ≡ Ok f) where
    given : (decide (Ok tt) (resolve_rows (operation s) (account s) s) ≡ Ok tt)
        × (record { current = state_index (state_source (operation s)) (account s) s; successor = cond (eqb (operation s) 1) 0 (state_index source.Output (account s) s) } ≡ f)
    unfolding resolved_of
    given = then-given _ (decide (Ok tt) (resolve_rows (operation s) (account s) s)) f (sym (found-rows _) ∙ r)

    pub resolved_current : current_at (operation s) f.current s ≡ current s
    unfolding current current_state
    resolved_current = rw (← given.1)

    pub resolved_since : since_at f.current s ≡ state_since (operation s) (account s) s
    unfolding state_since
    resolved_since = rw (← given.1)

    pub resolved_successor : successor_at (operation s) f.successor s ≡ successor s
    unfolding successor successor_state
    resolved_successor = rw (← given.1) (go (eqb (operation s) 1))
      where
        go : (b : Bool)
            → cond b [] (cell_at (cells_of source.Output s) (cond b 0 (state_index source.Output (account s) s))).content
            ≡ cond b [] (cell_at (cells_of source.Output s) (state_index source.Output (account s) s)).content
        go true = refl
        go false = refl

pub operation_found : (s : Scene) → operation_of (witness_lock s) ≡ operation s
unfolding operation
operation_found s = refl

-- for the check's own search: the digest; where the states stand; the rows from the front on; the walk and then the totals
pub ruleset digests = (array_whole)

pub ruleset finds = (late_found, operation_found, resolved_found, resolved_current, resolved_since, resolved_successor)

pub ruleset checks = (early_found, group-first, script_lent, account_found, account_long, lock_found, operation_known)

pub ruleset walks = (walk-known, totals-checked, totals-fee)
