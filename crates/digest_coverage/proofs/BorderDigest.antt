-- 02, change 12: "The border between group and extra witnesses isn't marked": two scenes with different borders give one digest where
-- both reach it.
-- Assumes nothing.
use mathlib.Core.Path.{◌≡◌, refl, ap, ◌∙◌}
use mathlib.Core.Bool.{Bool, true, false, cond}
use mathlib.Core.List.{List, [], ◌∷◌, ◌++◌, map, map-append, append-nil}
use Prim.Native.Nat.{ℕ, suc, ◌+◌}
use native.Mathlib.Nat.{add-zero}
use native.Mathlib.Omega.{arith}
use borrow.Author.Tests.{leb-true}
use lib.Dec.{eqb}
use lib.ListN.{length, length-append, get_or-append}
use Rattle.octets.specs.Lists.{same, every}
use Rattle.protocol.specs.Rows.{AllPass}
use Rattle.protocol.proofs.AllPass.{all-pass-split}
use Rattle.scene_table.specs.Scene.{Cell, Input, Scene}
use Rattle.cell_search.specs.declared.cells.Source.TheVariants as source
use Rattle.cell_search.specs.declared.cells.CellField.{CellField}
use Rattle.cell_search.specs.declared.cells.CellField.TheVariants.{TypeHash}
use Rattle.cell_search.specs.Search.{cells_of, cell_hash, matching, matches, cell_search, index_of, cell_at, no_cell}
use Rattle.cell_search.proofs.Found.{found-one}
use Rattle.group_sighash.specs.Witnesses.{group_of, group_rows, lock_in}
use Rattle.state_transition.specs.Resolve.{state_indices, state_source, state_index, current_state, spend_rows, change_rows, resolve_rows}
use Rattle.account_witness.specs.Fields.{operation_of}
use Rattle.account_lock.specs.Lock as lock
use Rattle.digest_coverage.specs.Coverage.{SameCovered}
use Rattle.digest_coverage.specs.Border.{with_inputs, MoreGroup}
use Rattle.digest_coverage.specs.Reaches.{Reaches}
use Rattle.digest_coverage.proofs.Covered.{one-digest}
use Rattle.digest_coverage.proofs.HasDigest.{has-digest}
use Rattle.digest_coverage.proofs.Border.{moved-first, border-unmarked}
use Rattle.lock_theorems.proofs.Passes.{late}

-- ---- a cell that is found among some is found among more, where it is still the only one

none_more : (xs ys : List ℕ) → length xs ≡ 1 → length (xs ++ ys) ≡ 1 → xs ++ ys ≡ xs
none_more xs [] p q = append-nil xs
none_more xs (y ∷ ys) p q = absurd (omega (arith, length-append xs (y ∷ ys)))

module _ (f : CellField) (hash : List ℕ) where
  matching-more : (k : ℕ) (cs more : List Cell) → matching f hash k (cs ++ more) ≡ matching f hash k cs ++ matching f hash (k + length cs) more
  unfolding matching
  matching-more k [] more = rw (add-zero k)
  matching-more k (c ∷ cs) more = go (same (cell_hash f c) hash) (matching-more (k + 1) cs more)
    where
      go : (b : Bool) → matching f hash (k + 1) (cs ++ more) ≡ matching f hash (k + 1) cs ++ matching f hash (k + 1 + length cs) more
          → cond b (k ∷ matching f hash (k + 1) (cs ++ more)) (matching f hash (k + 1) (cs ++ more))
          ≡ cond b (k ∷ matching f hash (k + 1) cs) (matching f hash (k + 1) cs) ++ matching f hash (k + length (c ∷ cs)) more
      go true e = let n : k + suc (length cs) ≡ k + 1 + length cs = omega arith in rw (n, e)
      go false e = let n : k + suc (length cs) ≡ k + 1 + length cs = omega arith in rw n e

  module _ (cs more : List Cell) (one : length (matches f hash cs) ≡ 1) (still : length (matches f hash (cs ++ more)) ≡ 1) where
    same-matches : matches f hash (cs ++ more) ≡ matches f hash cs
    unfolding matches
    same-matches =
        let e = matching-more 0 cs more in
        e ∙ none_more (matching f hash 0 cs) _ one (rw e at still)

    same-found : cell_at (cs ++ more) (index_of (cell_search f hash (cs ++ more))) ≡ cell_at cs (index_of (cell_search f hash cs))
    unfolding cell_search cell_at
    same-found = rw same-matches (get_or-append cs more no_cell _ (found-one f hash cs one).in_list)

-- ---- the account's state

-- the rows for 23 and 24 leave one input
one_input : (id : List ℕ) (s : Scene) → AllPass (change_rows id s) → length (matches TypeHash id (cells_of source.Input s)) ≡ 1
unfolding change_rows state_indices
one_input id s h =
    let n = length (matches TypeHash id (cells_of source.Input s)) in
    omega (arith, leb-true 1 n h.0, leb-true n 1 h.1.0)

resolve-passes : (s : Scene) → AllPass (lock.early_rows s) → AllPass (resolve_rows (lock.operation s) (lock.account s) s)
unfolding lock.late_rows
resolve-passes s a = (all-pass-split (resolve_rows (lock.operation s) (lock.account s) s) _ (late s a).1).0

module _ (s : Scene) (more : List Input) where
  moved-account : lock.account (with_inputs more s) ≡ lock.account s
  unfolding lock.account with_inputs
  moved-account = refl

  -- a spend's is a dep; else it is the one input with the account's type hash, in both scenes
  moved-state : (o : ℕ) (id : List ℕ) → AllPass (resolve_rows o id s) → AllPass (resolve_rows o id (with_inputs more s))
      → current_state o id (with_inputs more s) ≡ current_state o id s
  unfolding current_state state_source state_index resolve_rows cells_of with_inputs
  moved-state o id a b = go (eqb o 1) a b
    where
      t : Scene
      t = with_inputs more s

      go : (b : Bool) → AllPass (cond b (spend_rows id s) (change_rows id s)) → AllPass (cond b (spend_rows id t) (change_rows id t))
          → (cell_at (cells_of (cond b source.CellDep source.Input) t) (state_index (cond b source.CellDep source.Input) id t)).content
          ≡ (cell_at (cells_of (cond b source.CellDep source.Input) s) (state_index (cond b source.CellDep source.Input) id s)).content
      go true p q = refl
      go false p q =
          let e = map-append (λ (i : Input). i.cell) s.inputs more in
          let still : length (matches TypeHash id (cells_of source.Input s ++ map (λ (i : Input). i.cell) more)) ≡ 1 = rw e at (one_input id t q) in
          rw e (ap (λ (c : Cell). c.content) (same-found TypeHash id (cells_of source.Input s) (map (λ (i : Input). i.cell) more) (one_input id s p) still))

  -- what a digest covers is the same in both scenes, where every row before the proofs' passes in both
  border-covered : every (λ (i : Input). eqb i.group 1) more ≡ true → AllPass (lock.early_rows s) → AllPass (lock.early_rows (with_inputs more s))
      → SameCovered (with_inputs more s) s
  unfolding lock.operation lock.witness_lock lock.current group_rows
  border-covered g a b =
      let t = with_inputs more s in
      let h : MoreGroup more s = record { first = leb-true 1 (length (group_of s)) (late s a).0.0; group = g } in
      let o : lock.operation t ≡ lock.operation s = ap (λ (w : List ℕ). operation_of (lock_in w)) (moved-first s more h) in
      let rows = rw (o, moved-account) at (resolve-passes t b) in
      record {
        operation = o;
        account = moved-account;
        state = rw (o, moved-account) (moved-state (lock.operation s) (lock.account s) (resolve-passes s a) rows);
        sighash = (border-unmarked s more h).covered;
      }

  -- so the digests are one, for lent memory and for texts
  pub border-one-digest : (d e : List ℕ) → Reaches s d → Reaches (with_inputs more s) e → every (λ (i : Input). eqb i.group 1) more ≡ true → e ≡ d
  border-one-digest d e a b g =
      one-digest (with_inputs more s) s e d b a (border-covered g (has-digest s d a).early (has-digest (with_inputs more s) e b).early)
