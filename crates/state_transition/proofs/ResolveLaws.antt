-- How many cells of a list hold the account's state, by what a search for them answers; and the since at a place.
-- Assumes nothing.
use Rattle.std.specs.Prelude.{◌≡◌, ℕ, ◌<◌, ◌≤◌, List, length, eqb, leb, not}
use Rattle.protocol.proofs.AllPass.{decide-failed}
use Rattle.scene_table.specs.Scene.{Input, Scene}
use Rattle.scene_table.specs.Lent.{scene_in}
use Rattle.scene_table.specs.Lent.{input_count}
use Rattle.scene_table.specs.Places.{input_since}
use Rattle.scene_table.proofs.PlaceLaws.{lent_input, lent-given}
use Rattle.cell_search.specs.declared.cells.Source.{Source}
use Rattle.cell_search.specs.Search.{cell_search, is_missing, is_several, is_one, index_of}
use Rattle.cell_search.proofs.CellLaws.{missing-count, found-count, several-count, one-count}
use Rattle.state_transition.specs.Resolve.{state_indices, state_index, no_input, since_at}
use Rattle.state_transition.specs.Branches.{states_in}
use Rattle.std.proofs.Common.{refl, ap}
use lib.ListN.{get_or-eq_default}

module _ (from : Source) (id : List ℕ) (s : Scene) where
  pub none-holds : eqb (length (state_indices from id s)) 0 ≡ is_missing (states_in from id s)
  unfolding states_in state_indices cell_search
  none-holds = missing-count _

  pub some-hold : leb 1 (length (state_indices from id s)) ≡ not (is_missing (states_in from id s))
  unfolding states_in state_indices cell_search
  some-hold = found-count _

  pub few-hold : leb (length (state_indices from id s)) 1 ≡ not (is_several (states_in from id s))
  unfolding states_in state_indices cell_search
  few-hold = several-count _

  pub one-holds : eqb (length (state_indices from id s)) 1 ≡ is_one (states_in from id s)
  unfolding states_in state_indices cell_search
  one-holds = one-count _

  pub index-held : state_index from id s ≡ index_of (states_in from id s)
  unfolding states_in state_index
  index-held = refl

-- the since of an input that the table has, and of one that it has not
module _ (table store : List ℕ) (i : ℕ) where
  pub since-there : i < input_count table → since_at i (scene_in table store) ≡ input_since table i
  unfolding lent_input
  since-there h = ap (λ (x : Input). x.since) ((lent-given table store).inputs.nth i no_input h)

  pub since-missing : input_count table ≤ i → since_at i (scene_in table store) ≡ 0
  unfolding no_input
  since-missing h = ap (λ (x : Input). x.since) (get_or-eq_default (scene_in table store).inputs no_input (rw (lent-given table store).inputs.long h))

-- for the check's own search
pub ruleset searches = (none-holds, some-hold, few-hold, one-holds, index-held, decide-failed)

pub ruleset sinces = (since-there, since-missing)
