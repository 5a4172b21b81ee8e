-- Demand 3, the answer: where every earlier row passes, the buffer holds one request for each proof, in order, each readable as
-- exactly that, with the lock's digest in it, and then its old bytes; the digest is document 01's.
-- Assumes nothing.
use mathlib.Core.Path.{◌≡◌, refl, sym, ap, ◌∙◌}
use mathlib.Core.Bool.{Bool, true, false}
use mathlib.Core.List.{List}
use Prim.Native.Nat.{ℕ}
use native.Mathlib.Omega.{arith}
use lib.Dec.{ltb}
use lib.ListN.{length, drop}
use borrow.Author.Tests.{ltb-true, ltb-false}
use Rattle.octets.specs.Le.{Bytes}
use Rattle.octets.specs.Places as octets
use Rattle.octets.proofs.LeLaws.{bytes_drop, bytes_take}
use Rattle.authorization.specs.Digest.{digest_of}
use Rattle.scene_table.specs.Lent.{scene_in, cell_from}
use Rattle.cell_search.specs.declared.cells.Source.{Source}
use Rattle.cell_search.specs.Search.{cells_of, cell_at, no_cell}
use Rattle.cell_search.specs.Cells.{cell_count, source_places}
use Rattle.cell_search.proofs.CellLaws.{cell-there, cell-missing}
use Rattle.state_transition.specs.Resolve.{state_cell, current_state}
use Rattle.decision.specs.Proofs.{context_for}
use Rattle.decision.specs.Walk.{answered}
use Rattle.decision.specs.Requests.{ContextFits}
use Rattle.decision.proofs.DecisionTheorem.{witness-answers}
use Rattle.decision.proofs.RequestsRead.{state-context-fits, witness-requests-read}
use Rattle.account_lock.specs.Lock.{witness_lock, current, digest, context_of, Result, walked, walk_result, lock_of}
use Rattle.account_lock.specs.Decides.{EarlierPass}
use Rattle.lock_theorems.specs.Answers.{Answers}
use Rattle.lock_theorems.proofs.Passes.{state-passes}
use Rattle.lock_theorems.proofs.DigestTheorem.{early-walked, lock-digest}
use Rattle.blake2b.proofs.Bytes.{length-hash}

-- ---- what a lent scene is made of

-- the data of a cell are bytes of the store
content-bytes : (from : Source) (table store : List ℕ) (i : ℕ) → Bytes store
    → Bytes (cell_at (cells_of from (scene_in table store)) i).content
unfolding cell_from octets.bytes_at no_cell
content-bytes from table store i b = go (ltb i (cell_count from table)) refl
  where
    go : (t : Bool) → ltb i (cell_count from table) ≡ t → Bytes (cell_at (cells_of from (scene_in table store)) i).content
    go true e =
        let p = (source_places from table i).content in
        rw (cell-there from table store i (ltb-true _ _ e)) (bytes_take p.len (drop p.start store) (bytes_drop p.start store b))
    go false e = rw (cell-missing from table store i (ltb-false _ _ e)) (λ k. omega arith)

-- and so is the current state
current-bytes : (table store : List ℕ) → Bytes store → Bytes (current (scene_in table store))
unfolding current current_state state_cell
current-bytes table store b = content-bytes _ table store _ b

-- ---- the answer

module _ (table store before : List ℕ) (b : Bytes store) (pass : EarlierPass table store (length before)) where
  walk-given : lock_of table store (length before) ≡ walk_result (scene_in table store) (length before)
  walk-given = early-walked table store (length before) pass.valid pass.early

  setting-fits : ContextFits (context_of (scene_in table store) (length before))
  unfolding context_of digest digest_of
  setting-fits = state-context-fits (current (scene_in table store)) _ _ _ _ _ (current-bytes table store b) (state-passes (scene_in table store) pass.early) (length-hash _)

  pub lock-answer : Answers table store before
  unfolding walk_result walked answered context_of context_for
  lock-answer =
      let s = scene_in table store in
      let made = witness-answers (context_of s (length before)) (witness_lock s) pass.proofs in
      record {
        count = ap (λ (r : Result). r.count) walk-given ∙ made.0;
        buffer = ap (λ (r : Result). answered before r.made) walk-given ∙ ap (answered before) made.1;
        read = witness-requests-read (context_of s (length before)) (witness_lock s) setting-fits pass.proofs;
        carried = sym (ap (λ (r : Result). r.digest) walk-given);
        reached = ap (λ (r : Result). r.reached) walk-given;
        digest = lock-digest table store (length before) (ap (λ (r : Result). r.reached) walk-given);
      }
