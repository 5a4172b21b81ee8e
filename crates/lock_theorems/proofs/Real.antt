-- An acceptance is about real cells: every cell has true hashes, the account id is the hash of a type script, and so is what is known
-- of each verifier.
-- Assumes nothing.
use Rattle.std.specs.Prelude.{Ok}
use mathlib.Core.Path.{◌≡◌, refl, sym, ◌∙◌}
use mathlib.Core.Logic.{◌⊎◌, inl, inr}
use mathlib.Core.Bool.{Bool, true, false, cond, false≢true}
use mathlib.Core.List.{List, [], ◌∷◌}
use Prim.Native.Nat.{ℕ, zero, suc, ◌+◌, ◌≤◌, ◌<◌}
use native.Mathlib.Omega.{arith}
use lib.Dec.{eqb, leb}
use lib.ListN.{length, drop, length-drop}
use lib.Seq.{length-take-le}
use borrow.Author.Tests.{eqb-true, leb-true}
use Rattle.protocol.specs.Rows.{AllPass}
use Rattle.protocol.proofs.AllPass.{all-pass-split}
use Rattle.blake2b.specs.State.{ckb_hash}
use Rattle.account_state.specs.Fields.{entry_count_of, entry_length_of, entry_slot_of, entry_bytes_of, code_hash_of}
use Rattle.account_state.specs.Reading.{EntryReading, entry_of, entries_of}
use Rattle.account_state.specs.State as state
use Rattle.account_state.proofs.Passed.{entry-passed, state-passed}
use Rattle.account_state.proofs.Smallest.{state-smallest}
use Rattle.quorum.specs.Slots.{known_slot, entry_for}
use Rattle.account_witness.specs.Reading.{ProofReading, witness_proofs}
use Rattle.scene_table.specs.Scene.{Cell, Scene}
use Rattle.scene_table.specs.Lent.{scene_in, hash_length}
use Rattle.scene_table.specs.Valid.{valid_table}
use Rattle.scene_table.proofs.Shape.{WholeCell}
use Rattle.cell_search.specs.declared.cells.Source.{Source}
use Rattle.cell_search.specs.declared.cells.Source.TheVariants as source
use Rattle.cell_search.specs.declared.cells.CellField.{CellField}
use Rattle.cell_search.specs.declared.cells.CellField.TheVariants as field
use Rattle.cell_search.specs.Search.{cells_of, cell_hash, matches, cell_search, index_of, cell_at}
use Rattle.cell_search.proofs.Found.{FoundCell, found-one, cell-whole}
use Rattle.cell_hashes.specs.Hashes.{hash_rows, TrueHashes}
use Rattle.cell_hashes.proofs.HashesTheorem.{hashes-true}
use Rattle.state_transition.specs.Resolve.{state_indices, state_index, state_cell, state_source, spend_rows, change_rows, resolve_rows, current_state}
use Rattle.decision.specs.Proofs.{context_for, verifier_field, verifiers, authenticator_rows, proof_rows}
use Rattle.decision.specs.Decision.{EachPasses}
use Rattle.account_lock.specs.Lock.{account, operation, witness_lock, current, late_rows, early_rows, context_of, lock_of}
use Rattle.account_lock.specs.Decides.{EarlierPass}
use Rattle.lock_theorems.specs.Real.{current_cell, verifier_cell, RealVerifier, by_type, by_data, believed, RealVerifiers, RealCells}
use Rattle.account_lock.proofs.LockLaws.{account-whole}
use Rattle.account_lock.proofs.LockTheorem.{lock-decision}
use Rattle.lock_theorems.proofs.Passes.{hashes-pass, script-passes, late, state-passes}

-- ---- code hashes have 32 bytes

-- that of an entry whose rows pass
entry-hash : (e : List ℕ) (least : ℕ) → AllPass (state.entry_rows e least) → length (code_hash_of e) ≡ 32
entry-hash e least h =
    let present : 48 ≤ length e = (entry-passed e least h).present in
    let n = length-drop 12 e in
    length-take-le 32 (drop 12 e) (omega arith)

-- that of a known slot's entry
known-hash : (slot n : ℕ) (e : List ℕ) (least : ℕ) → AllPass (state.entries_rows n e least) → known_slot slot (entries_of n e) ≡ true
    → length (entry_for slot (entries_of n e)).code_hash ≡ 32
unfolding entries_of entry_of state.entries_rows known_slot entry_for
known-hash slot zero e least h k = absurd (false≢true k)
known-hash slot (suc n) e least h k =
    let z = all-pass-split (state.entry_rows e least) _ h in
    go (entries_of n (drop (entry_length_of e) e)) (eqb (entry_slot_of e) slot) (entry-hash e least z.0)
    (known-hash slot n (drop (entry_length_of e) e) (entry_slot_of e + 1) z.1) k
  where
    go : (rest : List EntryReading) (b : Bool) → length (code_hash_of e) ≡ 32
        → (known_slot slot rest ≡ true → length (entry_for slot rest).code_hash ≡ 32)
        → cond b true (known_slot slot rest) ≡ true → length (cond b (entry_of e) (entry_for slot rest)).code_hash ≡ 32
    go rest true here later k = here
    go rest false here later k = later k

-- ---- the search finds the account's cell

-- not none and not several
not_more : (n : ℕ) → leb 1 n ≡ true → leb n 1 ≡ true → n ≡ 1
not_more n some few =
    let a = leb-true 1 n some in
    let b = leb-true n 1 few in
    omega arith

module _ (s : Scene) (h : AllPass (early_rows s)) where
  resolved : AllPass (resolve_rows (operation s) (account s) s)
  unfolding late_rows
  resolved = (all-pass-split (resolve_rows (operation s) (account s) s) _ (late s h).1).0

  state-found : FoundCell field.TypeHash (account s) (cells_of (state_source (operation s)) s) (state_index (state_source (operation s)) (account s) s)
  unfolding state_index state_indices state_source resolve_rows spend_rows change_rows
  state-found = found-one field.TypeHash (account s) (cells_of (state_source (operation s)) s) (go (eqb (operation s) 1) resolved)
    where
      go : (b : Bool) → AllPass (cond b (spend_rows (account s) s) (change_rows (account s) s))
          → length (matches field.TypeHash (account s) (cells_of (cond b source.CellDep source.Input) s)) ≡ 1
      go true r = not_more _ r.1.0 r.1.1.0
      go false r = not_more _ r.0 r.1.0

  -- and its id has 32 bytes
  account-long : length (account s) ≡ 32
  unfolding account
  account-long = account-whole s.script (script-passes s h)

-- ---- cells whose hashes are worked out

module _ (table store : List ℕ) (valid : valid_table table (length store) ≡ true) (pass : AllPass (hash_rows (scene_in table store))) where
  -- a cell that is found by its type hash has a type script with that hash
  type-real : (from : Source) (id : List ℕ) (i : ℕ) → length id ≡ 32 → FoundCell field.TypeHash id (cells_of from (scene_in table store)) i
      → ckb_hash (cell_at (cells_of from (scene_in table store)) i).type_script ≡ id
  unfolding cell_hash hash_length
  type-real from id i l f =
      go (cell_at (cells_of from (scene_in table store)) i) (cell-whole from table store i valid f.in_list) f.holds
      ((hashes-true (scene_in table store)).0 pass from i f.in_list).type
    where
      go : (c : Cell) → WholeCell c → c.type_hash ≡ id → (c.type_script ≡ []) ⊎ (c.type_hash ≡ ckb_hash c.type_script) → ckb_hash c.type_script ≡ id
      go c w e (inl none) = absurd (let z = rw (none, e, l) at w.type_hash in omega arith)
      go c w e (inr h) = sym h ∙ e

  -- so two cells with one type hash, as the input and the output with the account's id, have type scripts with one hash: where they
  -- differ, they collide
  pub type-scripts-collide : (from to : Source) (id : List ℕ) (i j : ℕ) → length id ≡ 32
      → FoundCell field.TypeHash id (cells_of from (scene_in table store)) i → FoundCell field.TypeHash id (cells_of to (scene_in table store)) j
      → ckb_hash (cell_at (cells_of from (scene_in table store)) i).type_script ≡ ckb_hash (cell_at (cells_of to (scene_in table store)) j).type_script
  type-scripts-collide from to id i j l f g = type-real from id i l f ∙ sym (type-real to id j l g)

module _ (table store : List ℕ) (room : ℕ) (pass : EarlierPass table store room) where
  cells-pass : AllPass (hash_rows (scene_in table store))
  cells-pass = hashes-pass (scene_in table store) pass.early

  cell-hashed : (from : Source) (i : ℕ) → i < length (cells_of from (scene_in table store)) → TrueHashes (cell_at (cells_of from (scene_in table store)) i)
  cell-hashed = (hashes-true (scene_in table store)).0 cells-pass

  -- a dep that is found by its data hash has data with that hash, or none
  data-real : (e : EntryReading) (i : ℕ) → verifier_field e.hash_type ≡ field.DataHash → FoundCell field.DataHash e.code_hash (scene_in table store).deps i
      → RealVerifier e (cell_at (scene_in table store).deps i)
  unfolding cell_hash cells_of
  data-real e i q f = go (cell_at (scene_in table store).deps i) f.holds (cell-hashed source.CellDep i f.in_list).content
    where
      go : (c : Cell) → c.data_hash ≡ e.code_hash → (c.content ≡ []) ⊎ (c.data_hash ≡ ckb_hash c.content) → RealVerifier e c
      go c h (inl none) = believed q none h
      go c h (inr d) = by_data q (sym d ∙ h)

  verifier-real : (e : EntryReading) → length e.code_hash ≡ 32 → length (verifiers e (scene_in table store).deps) ≡ 1
      → RealVerifier e (verifier_cell e (scene_in table store).deps)
  unfolding verifiers verifier_cell cells_of
  verifier-real e l one =
      go (verifier_field e.hash_type) refl (found-one (verifier_field e.hash_type) e.code_hash (scene_in table store).deps one)
    where
      go : (f : CellField) → verifier_field e.hash_type ≡ f
          → FoundCell f e.code_hash (scene_in table store).deps (index_of (cell_search (verifier_field e.hash_type) e.code_hash (scene_in table store).deps))
          → RealVerifier e (cell_at (scene_in table store).deps (index_of (cell_search (verifier_field e.hash_type) e.code_hash (scene_in table store).deps)))
      go field.TypeHash q found = by_type q (type-real table store pass.valid cells-pass source.CellDep e.code_hash _ l found)
      go field.DataHash q found = data-real e _ q found

  -- each proof's
  verifiers-real : (i used : ℕ) (ps : List ProofReading) → EachPasses (context_of (scene_in table store) room) i used ps
      → RealVerifiers (context_of (scene_in table store) room) ps
  unfolding context_of context_for proof_rows authenticator_rows
  verifiers-real i used [] each = tt
  verifiers-real i used (p ∷ ps) each =
      let state = current (scene_in table store) in
      let slot = p.slot in
      let entries = (state-passed state (state-passes (scene_in table store) pass.early)).entries in
      let long = known-hash slot (entry_count_of state) (entry_bytes_of state) 0 entries each.0.0 in
      (verifier-real _ long (eqb-true _ 1 each.0.1.1.0), verifiers-real (i + 1) _ ps each.2)

  -- the data hash of the account's cell is that of its state, which is not empty
  state-hashed : (current_cell (scene_in table store)).data_hash ≡ ckb_hash (current (scene_in table store))
  unfolding current_cell state_cell current current_state
  state-hashed =
      let s = scene_in table store in
      let f = state-found s pass.early in
      go (current_cell s) (state-smallest (current s) (state-passes s pass.early)) (cell-hashed (state_source (operation s)) _ f.in_list).content
    where
      go : (c : Cell) → 113 ≤ length c.content → (c.content ≡ []) ⊎ (c.data_hash ≡ ckb_hash c.content) → c.data_hash ≡ ckb_hash c.content
      go c some (inl none) = absurd (let z = rw none at some in omega arith)
      go c some (inr d) = d

  -- what every earlier row passing says of the cells
  pub earlier-real : RealCells table store room
  unfolding current_cell state_cell current current_state
  earlier-real =
      let s = scene_in table store in
      record {
        hashes = cell-hashed;
        state = refl;
        account =
            type-real table store pass.valid cells-pass (state_source (operation s)) (account s) _ (account-long s pass.early) (state-found s pass.early);
        data_hash = state-hashed;
        verifiers = verifiers-real 0 0 (witness_proofs (witness_lock s)) pass.proofs.each;
      }

-- 02, change 1: an acceptance is about real cells
pub lock-real : (table store : List ℕ) (room : ℕ) → (lock_of table store room).found ≡ Ok tt → RealCells table store room
lock-real table store room accepted = earlier-real table store room ((lock-decision table store room).0 accepted).0
