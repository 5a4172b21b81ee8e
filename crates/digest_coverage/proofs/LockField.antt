-- 02, change 12: "Two scenes that differ only inside the lock field of the first group witness, with one operation, give one digest
-- where both reach it": what a digest covers is the same in them.
-- Assumes nothing.
use mathlib.Core.Path.{◌≡◌, refl, ap, ◌∙◌}
use mathlib.Core.Bool.{Bool, true, false, cond}
use mathlib.Core.List.{List, [], ◌∷◌}
use Prim.Native.Nat.{ℕ, suc, ◌^◌, ◌≤◌, ◌<◌}
use native.Mathlib.Omega.{arith}
use lib.Dec.{eqb}
use lib.ListN.{length, drop}
use Rattle.molecule.specs.Canonical.{canonical_of}
use Rattle.molecule.specs.Table3.{table_total_of, field2, field3, table3_bytes}
use Rattle.molecule.proofs.Form.{length_three}
use Rattle.molecule.proofs.Inverse.{written-passes, field2-read, field3-read}
use Rattle.scene_table.specs.Scene.{Cell, Input, Scene}
use Rattle.group_sighash.specs.Witnesses.{group_witnesses, group_of, head_of, first_witness, other_witnesses}
use Rattle.cell_search.specs.declared.cells.Source.{Source}
use Rattle.cell_search.specs.declared.cells.Source.TheVariants as source
use Rattle.cell_search.specs.declared.cells.CellField.TheVariants.{TypeHash}
use Rattle.cell_search.specs.Search.{cells_of, cell_search, index_of, cell_at}
use Rattle.state_transition.specs.Resolve.{state_source, state_index, current_state}
use Rattle.account_lock.specs.Lock as lock
use Rattle.digest_coverage.specs.Coverage.{sighash_parts, SameCovered}
use Rattle.digest_coverage.specs.Reaches.{Reaches}
use Rattle.digest_coverage.proofs.CanonicalFields.{canonical-same}
use Rattle.digest_coverage.proofs.Covered.{sighash-same, one-digest}
use Rattle.digest_coverage.specs.LockField.{first_replaced, with_first_witness, with_lock_field, DifferInLock}

module _ (witness : List ℕ) where
  -- the other group witnesses stay
  group-rest : (is : List Input) (ws : List (List ℕ)) → drop 1 (group_witnesses is (first_replaced witness is ws)) ≡ drop 1 (group_witnesses is ws)
  unfolding group_witnesses first_replaced
  group-rest [] ws = refl
  group-rest (i ∷ is) [] = refl
  group-rest (i ∷ is) (w ∷ ws) = go (eqb i.group 1) refl (group-rest is ws)
    where
      go : (b : Bool) → eqb i.group 1 ≡ b → drop 1 (group_witnesses is (first_replaced witness is ws)) ≡ drop 1 (group_witnesses is ws)
          → drop 1 (group_witnesses (i ∷ is) (cond b (witness ∷ ws) (w ∷ first_replaced witness is ws))) ≡ drop 1 (group_witnesses (i ∷ is) (w ∷ ws))
      go true e h = rw e
      go false e h = rw e h

  -- and so do the extra ones
  extra-rest : (is : List Input) (ws : List (List ℕ)) → drop (length is) (first_replaced witness is ws) ≡ drop (length is) ws
  unfolding first_replaced
  extra-rest [] ws = refl
  extra-rest (i ∷ is) [] = refl
  extra-rest (i ∷ is) (w ∷ ws) = go (eqb i.group 1) (extra-rest is ws)
    where
      go : (b : Bool) → drop (length is) (first_replaced witness is ws) ≡ drop (length is) ws
          → drop (suc (length is)) (cond b (witness ∷ ws) (w ∷ first_replaced witness is ws)) ≡ drop (suc (length is)) (w ∷ ws)
      go true h = refl
      go false h = h

  replaced-others : (s : Scene) → other_witnesses (with_first_witness witness s) ≡ other_witnesses s
  unfolding other_witnesses group_of with_first_witness
  replaced-others s = rw (group-rest s.inputs s.witnesses, extra-rest s.inputs s.witnesses)

  -- the new one is the first group witness, where there is one
  head-replaced : (is : List Input) (ws : List (List ℕ)) → 1 ≤ length (group_witnesses is ws) → head_of (group_witnesses is (first_replaced witness is ws)) ≡ witness
  unfolding group_witnesses first_replaced head_of
  head-replaced [] ws h = absurd (omega arith)
  head-replaced (i ∷ is) [] h = absurd (omega arith)
  head-replaced (i ∷ is) (w ∷ ws) h = go (eqb i.group 1) refl h (head-replaced is ws)
    where
      go : (b : Bool) → eqb i.group 1 ≡ b → 1 ≤ length (cond b (w ∷ group_witnesses is ws) (group_witnesses is ws))
          → (1 ≤ length (group_witnesses is ws) → head_of (group_witnesses is (first_replaced witness is ws)) ≡ witness)
          → head_of (group_witnesses (i ∷ is) (cond b (witness ∷ ws) (w ∷ first_replaced witness is ws))) ≡ witness
      go true e n f = rw e
      go false e n f = rw e (f n)

  replaced-first : (s : Scene) → 1 ≤ length (group_of s) → first_witness (with_first_witness witness s) ≡ witness
  unfolding first_witness group_of with_first_witness
  replaced-first s h = head-replaced s.inputs s.witnesses h

-- the account and the states that an operation finds do not depend on the witnesses
replaced-account : (witness : List ℕ) (s : Scene) → lock.account (with_first_witness witness s) ≡ lock.account s
unfolding lock.account with_first_witness
replaced-account witness s = refl

replaced-cells : (from : Source) (witness : List ℕ) (s : Scene) → cells_of from (with_first_witness witness s) ≡ cells_of from s
unfolding cells_of with_first_witness
replaced-cells source.Input witness s = refl
replaced-cells source.Output witness s = refl
replaced-cells source.CellDep witness s = refl

replaced-state : (witness : List ℕ) (o : ℕ) (id : List ℕ) (s : Scene) → current_state o id (with_first_witness witness s) ≡ current_state o id s
unfolding current_state state_index
replaced-state witness o id s =
    ap (λ (cells : List Cell). (cell_at cells (index_of (cell_search TypeHash id cells))).content) (replaced-cells (state_source o) witness s)

module _ (s t : Scene) (d : DifferInLock s t) where
  same-canonical : canonical_of (first_witness t) ≡ canonical_of (first_witness s)
  same-canonical = canonical-same (first_witness t) (first_witness s) d.fields

  same-others : other_witnesses t ≡ other_witnesses s
  same-others = ap other_witnesses d.scene ∙ replaced-others (first_witness t) s

  same-transaction : t.transaction ≡ s.transaction
  unfolding with_first_witness
  same-transaction = ap (λ (u : Scene). u.transaction) d.scene

  same-account : lock.account t ≡ lock.account s
  same-account = ap lock.account d.scene ∙ replaced-account (first_witness t) s

  same-state : (o : ℕ) (id : List ℕ) → current_state o id t ≡ current_state o id s
  same-state o id = ap (current_state o id) d.scene ∙ replaced-state (first_witness t) o id s

  -- what a digest covers is the same, where the operation is
  pub lock-field-covered : lock.operation t ≡ lock.operation s → SameCovered t s
  unfolding lock.current sighash_parts
  lock-field-covered o = record {
    operation = o;
    account = same-account;
    state = rw (o, same-account, same-state);
    sighash = sighash-same t s same-transaction same-canonical same-others;
  }

-- so the lock's digests are one, for lent memory and for texts
pub lock-field-free : (s t : Scene) (d e : List ℕ) → Reaches s d → Reaches t e → DifferInLock s t → lock.operation t ≡ lock.operation s → e ≡ d
lock-field-free s t d e a b h o = one-digest t s e d b a (lock-field-covered s t h o)

-- every lock field that a table has room for gives such a scene
pub any-lock-field : (s : Scene) (field : List ℕ) → 1 ≤ length (group_of s) → length (with_lock_field field (first_witness s)) < 2 ^ 32
    → DifferInLock s (with_first_witness (with_lock_field field (first_witness s)) s)
unfolding with_lock_field table3_bytes
any-lock-field s field h small =
    let w = first_witness s in
    let first = replaced-first (with_lock_field field w) s h in
    let long = length_three field (field2 w) (field3 w) in
    record {
      scene = rw first;
      fields = rw first (record {
        second = field2-read field (field2 w) (field3 w) (omega arith);
        third = field3-read field (field2 w) (field3 w) (omega arith);
      });
    }

-- where two lock fields differ in length, the total sizes at the front of the witnesses differ too
pub header-differs : (field other witness : List ℕ) → length (with_lock_field field witness) < 2 ^ 32 → length (with_lock_field other witness) < 2 ^ 32
    → ¬ (length field ≡ length other) → ¬ (table_total_of (with_lock_field field witness) ≡ table_total_of (with_lock_field other witness))
unfolding with_lock_field table3_bytes
header-differs field other w small small' differ e =
    let l = length_three field (field2 w) (field3 w) in
    let l' = length_three other (field2 w) (field3 w) in
    let t = (written-passes field (field2 w) (field3 w) (omega arith)).total in
    let t' = (written-passes other (field2 w) (field3 w) (omega arith)).total in
    differ (omega arith)
