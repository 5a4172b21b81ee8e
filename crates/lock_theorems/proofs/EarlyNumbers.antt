-- The numbers that the lock's rows before the proofs give, list by list.
-- Assumes nothing.
use mathlib.Core.Path.{refl}
use mathlib.Core.Bool.{cond}
use mathlib.Core.List.{List, [], ◌∷◌, ◌++◌}
use Prim.Native.Nat.{ℕ, zero, suc, ◌+◌}
use lib.Dec.{eqb}
use lib.ListN.{drop}
use Rattle.protocol.specs.Args.{args_rows}
use Rattle.protocol.specs.Rows.{Row}
use Rattle.protocol.proofs.Each.{Each, each_append, each-cond}
use Rattle.molecule.specs.Table3.{table_rows}
use Rattle.molecule.specs.Bytes as molecule
use Rattle.account_state.specs.Fields.{recovery_enabled, recovery_since_of, entry_length_of, entry_slot_of, entry_count_of, entry_bytes_of}
use Rattle.account_state.specs.State as state
use Rattle.account_witness.specs.Header.{witness_header_rows}
use Rattle.scene_table.specs.Scene.{Cell, Scene}
use Rattle.cell_search.specs.declared.cells.Source.TheVariants as source
use Rattle.cell_search.specs.Search.{cells_of}
use Rattle.cell_hashes.specs.Hashes.{cell_hash_rows, cells_hash_rows, hash_rows}
use Rattle.group_sighash.specs.Witnesses.{count_rows, first_witness_rows, group_rows, other_rows}
use Rattle.state_transition.specs.Resolve as resolve
use Rattle.state_transition.specs.Transition as transition
use Rattle.account_lock.specs.Lock as lock
use Rattle.lock_theorems.specs.Before.{front_rows, early_spend_rows, before_current_rows, before_session_rows, before_wait_rows}
use Rattle.lock_theorems.proofs.OneOf.{Among, Gives, gives_both}
use Rattle.lock_theorems.proofs.Before.{witness_row, session_row, sequence_row, recovery_tail}

-- ---- the lists of numbers

-- the hashes of the cells, the script, a witness of the group, the cells of the states, and their data
abbrev pub hash_numbers : List ℕ
hash_numbers = 40 ∷ []

abbrev pub script_numbers : List ℕ
script_numbers = 20 ∷ 32 ∷ []

abbrev pub witness_numbers : List ℕ
witness_numbers = 22 ∷ []

abbrev pub resolve_numbers : List ℕ
resolve_numbers = 21 ∷ 23 ∷ 24 ∷ 25 ∷ 26 ∷ []

abbrev pub data_numbers : List ℕ
data_numbers = 21 ∷ []

-- a state's own checks, those of the current state with the witness sequence, of its successor with the session and the sequence,
-- and those of a recovery
abbrev pub state_numbers : List ℕ
state_numbers = 21 ∷ 30 ∷ 32 ∷ 33 ∷ 38 ∷ 44 ∷ []

abbrev pub current_numbers : List ℕ
current_numbers = state_numbers ++ (27 ∷ [])

abbrev pub successor_numbers : List ℕ
successor_numbers = state_numbers ++ (49 ∷ 27 ∷ [])

abbrev pub recovery_numbers : List ℕ
recovery_numbers = 29 ∷ 42 ∷ 34 ∷ []

-- what stands first, and all before a place
abbrev pub front_numbers : List ℕ
front_numbers = hash_numbers ++ (script_numbers ++ witness_numbers)

abbrev pub spend_numbers : List ℕ
spend_numbers = front_numbers ++ (resolve_numbers ++ ((data_numbers ++ current_numbers) ++ witness_numbers))

abbrev pub before_current_numbers : List ℕ
before_current_numbers = front_numbers ++ (resolve_numbers ++ data_numbers)

abbrev pub before_session_numbers : List ℕ
before_session_numbers = front_numbers ++ (resolve_numbers ++ (data_numbers ++ (current_numbers ++ state_numbers)))

abbrev pub before_wait_numbers : List ℕ
before_wait_numbers = before_session_numbers ++ (49 ∷ 27 ∷ 29 ∷ [])

-- what follows the successor's own checks, and follows its session
abbrev pub after_session_numbers : List ℕ
after_session_numbers = 27 ∷ (recovery_numbers ++ witness_numbers)

abbrev pub after_successor_numbers : List ℕ
after_successor_numbers = 49 ∷ after_session_numbers

-- a rotation, both states, all behind the hashes, and all
abbrev pub rotation_numbers : List ℕ
rotation_numbers = before_session_numbers ++ (49 ∷ 27 ∷ witness_numbers)

abbrev transition_numbers : List ℕ
transition_numbers = current_numbers ++ (successor_numbers ++ recovery_numbers)

abbrev pub behind_numbers : List ℕ
behind_numbers = script_numbers ++ (witness_numbers ++ (resolve_numbers ++ ((data_numbers ++ transition_numbers) ++ witness_numbers)))

abbrev pub early_numbers : List ℕ
early_numbers = hash_numbers ++ behind_numbers

-- ---- a state

head-each : (s : List ℕ) → Each (Among state_numbers) (state.state_header_rows s)
unfolding state.state_header_rows
head-each s = search depth 12

entry-each : (e : List ℕ) (least : ℕ) → Each (Among state_numbers) (state.entry_rows e least)
unfolding state.entry_rows state.original_entry_rows state.entry_layout_rows state.entry_field_rows
entry-each e least = search depth 16

entries-each : (n : ℕ) (e : List ℕ) (least : ℕ) → Each (Among state_numbers) (state.entries_rows n e least)
unfolding state.entries_rows
entries-each zero e least = tt
entries-each (suc n) e least =
    each_append (Among state_numbers) (state.entry_rows e least) _ (entry-each e least) (entries-each n (drop (entry_length_of e) e) (entry_slot_of e + 1))

threshold-each : (flags threshold since weight : ℕ) → Each (Among state_numbers) (state.recovery_threshold_rows flags threshold since weight)
unfolding state.recovery_threshold_rows
threshold-each flags threshold since weight = each-cond (Among state_numbers) (recovery_enabled flags) _ _ (refl, (refl, tt)) (refl, (refl, tt))

tail-each : (s : List ℕ) (n : ℕ) (e : List ℕ) → Each (Among state_numbers) (state.state_tail_rows s n e)
unfolding state.state_tail_rows state.state_end_rows state.threshold_rows
tail-each s n e = search threshold-each depth 12

pub state-gives : (s : List ℕ) → Gives state_numbers (state.state_rows s)
unfolding state.state_rows
state-gives s = record {
  each = each_append (Among state_numbers) (state.state_header_rows s) _ (head-each s)
      (each_append (Among state_numbers) (state.entries_rows (entry_count_of s) (entry_bytes_of s) 0) _ (entries-each _ _ 0) (tail-each s _ _));
}

-- ---- what stands first

cells-each : (cells : List Cell) → Each (Among hash_numbers) (cells_hash_rows cells)
unfolding cells_hash_rows cell_hash_rows
cells-each [] = tt
cells-each (c ∷ cs) = (refl, (refl, cells-each cs))

pub hashes-give : (s : Scene) → Gives hash_numbers (hash_rows s)
unfolding hash_rows
hashes-give s = record {
  each = each_append (Among hash_numbers) (cells_hash_rows (cells_of source.Input s)) _ (cells-each _)
      (each_append (Among hash_numbers) (cells_hash_rows (cells_of source.Output s)) (cells_hash_rows (cells_of source.CellDep s)) (cells-each _) (cells-each _));
}

script-gives : (script : List ℕ) → Gives script_numbers (lock.script_rows script)
unfolding lock.script_rows molecule.script_args_rows table_rows molecule.bytes_rows args_rows
script-gives script = record { each = search depth 20 }

group-gives : (s : Scene) → Gives witness_numbers (group_rows s)
unfolding group_rows first_witness_rows molecule.witness_lock_rows table_rows molecule.bytes_rows witness_header_rows count_rows
group-gives s = record { each = search depth 30 }

front-gives : (s : Scene) → Gives front_numbers (front_rows s)
unfolding front_rows
front-gives s = gives_both (hashes-give s) (gives_both (script-gives s.script) (group-gives s))

-- ---- the states and the other witnesses

pub others-give : (s : Scene) → Gives witness_numbers (other_rows s)
unfolding other_rows
others-give s = record { each = (refl, tt) }

resolve-gives : (operation : ℕ) (id : List ℕ) (s : Scene) → Gives resolve_numbers (resolve.resolve_rows operation id s)
unfolding resolve.resolve_rows resolve.spend_rows resolve.change_rows resolve.type_rows
resolve-gives operation id s = record {
  each = each-cond (Among resolve_numbers) (eqb operation 1) (resolve.spend_rows id s) (resolve.change_rows id s) (search depth 12) (search depth 12);
}

spend-cells-give : (id : List ℕ) (s : Scene) → Gives resolve_numbers (resolve.spend_rows id s)
unfolding resolve.resolve_rows
spend-cells-give id s = resolve-gives 1 id s

change-cells-give : (id : List ℕ) (s : Scene) → Gives resolve_numbers (resolve.change_rows id s)
unfolding resolve.resolve_rows
change-cells-give id s = resolve-gives 2 id s

data-gives : (current successor : List ℕ) → Gives data_numbers (transition.data_rows current successor)
unfolding transition.data_rows
data-gives current successor = record { each = (refl, (refl, tt)) }

-- one row
abbrev pub One : ℕ → Row → Type 0
One n r = Gives (n ∷ []) (r ∷ [])

current-gives : (sequence : ℕ) (current : List ℕ) → Gives current_numbers (transition.current_rows sequence current)
unfolding transition.current_rows
current-gives sequence current = gives_both (state-gives current) (record { each = (refl, tt) })

-- only a recovery has the rows on recovery
pub recovery-gives : (operation since : ℕ) (current : List ℕ)
    → Gives recovery_numbers (cond (eqb operation 3) (transition.recovery_rows since current) [])
unfolding transition.recovery_rows transition.wait_rows
recovery-gives operation since current = record {
  each = each-cond (Among recovery_numbers) (eqb operation 3) (transition.recovery_rows since current) []
      (refl, each-cond (Among recovery_numbers) (eqb (recovery_since_of current) 0) [] _ tt (refl, (refl, (refl, tt)))) tt;
}

successor-gives : (current successor : List ℕ) → Gives successor_numbers (transition.successor_rows current successor)
unfolding transition.successor_rows
successor-gives current successor = gives_both (state-gives successor) (record { each = (refl, (refl, tt)) })

succession-gives : (operation since : ℕ) (current successor : List ℕ)
    → Gives (successor_numbers ++ recovery_numbers) (transition.succession_rows operation since current successor)
unfolding transition.succession_rows
succession-gives operation since current successor = gives_both (successor-gives current successor) (recovery-gives operation since current)

transition-gives : (operation sequence since : ℕ) (current successor : List ℕ)
    → Gives transition_numbers (transition.transition_rows operation sequence since current successor)
unfolding transition.transition_rows
transition-gives operation sequence since current successor = gives_both (current-gives sequence current) (record {
  each = each-cond (Among (successor_numbers ++ recovery_numbers)) (eqb operation 1) [] (transition.succession_rows operation since current successor) tt (succession-gives operation since current successor).each;
})

module _ (s : Scene) where
  -- ---- the rows before a place

  data-here : Gives data_numbers (transition.data_rows (lock.current s) (lock.successor s))
  data-here = data-gives (lock.current s) (lock.successor s)

  current-here : Gives current_numbers (transition.current_rows (lock.witness_sequence s) (lock.current s))
  current-here = current-gives (lock.witness_sequence s) (lock.current s)

  change-here : Gives resolve_numbers (resolve.change_rows (lock.account s) s)
  change-here = change-cells-give (lock.account s) s

  pub spend-gives : Gives spend_numbers (early_spend_rows s)
  unfolding early_spend_rows
  spend-gives =
      gives_both (front-gives s)
      (gives_both (spend-cells-give (lock.account s) s) (gives_both (gives_both (data-gives (lock.current s) []) current-here) (others-give s)))

  pub before-current-gives : Gives before_current_numbers (before_current_rows s)
  unfolding before_current_rows
  before-current-gives = gives_both (front-gives s) (gives_both (resolve-gives (lock.operation s) (lock.account s) s) data-here)

  pub before-session-gives : Gives before_session_numbers (before_session_rows s)
  unfolding before_session_rows
  before-session-gives =
      gives_both (front-gives s) (gives_both change-here (gives_both data-here (gives_both current-here (state-gives (lock.successor s)))))

  pub before-wait-gives : Gives before_wait_numbers (before_wait_rows s)
  unfolding before_wait_rows
  before-wait-gives = gives_both before-session-gives (record { each = (refl, (refl, (refl, tt))) })

  -- ---- the rows behind a place

  pub witness-gives : One 27 (witness_row s)
  witness-gives = record { each = (refl, tt) }

  sequence-gives : One 27 (sequence_row s)
  sequence-gives = record { each = (refl, tt) }

  session-gives : One 49 (session_row s)
  session-gives = record { each = (refl, tt) }

  pub after-current-gives : Gives (27 ∷ witness_numbers) (witness_row s ∷ other_rows s)
  after-current-gives = gives_both witness-gives (others-give s)

  pub after-session-gives : Gives after_session_numbers (sequence_row s ∷ (recovery_tail s ++ other_rows s))
  after-session-gives = gives_both sequence-gives (gives_both (recovery-gives (lock.operation s) _ (lock.current s)) (others-give s))

  pub after-successor-gives : Gives after_successor_numbers (session_row s ∷ sequence_row s ∷ (recovery_tail s ++ other_rows s))
  after-successor-gives = gives_both session-gives after-session-gives

  -- ---- all of them

  -- every row of a rotation
  pub rotation-gives : Gives rotation_numbers (before_session_rows s ++ (session_row s ∷ sequence_row s ∷ other_rows s))
  rotation-gives = gives_both before-session-gives (gives_both session-gives (gives_both sequence-gives (others-give s)))

  -- every row behind the hashes and before the proofs
  abbrev pub behind_rows : List Row
  behind_rows = lock.script_rows s.script ++ (group_rows s ++ lock.late_rows s)

  pub behind-gives : Gives behind_numbers behind_rows
  unfolding lock.late_rows lock.states_rows
  behind-gives =
      gives_both (script-gives s.script)
      (gives_both (group-gives s)
      (gives_both (resolve-gives (lock.operation s) (lock.account s) s) (gives_both (gives_both data-here (transition-gives _ _ _ _ _)) (others-give s))))

  pub early-gives : Gives early_numbers (lock.early_rows s)
  unfolding lock.early_rows
  early-gives = gives_both (hashes-give s) behind-gives
