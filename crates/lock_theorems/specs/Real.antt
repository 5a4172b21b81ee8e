-- 02, change 1: "A scene with an edited type script and the old hash then gives a verdict about no real cell." What an acceptance is
-- about: cells with true hashes, among them the account's and each verifier's dep.
use Rattle.std.specs.Prelude.{◌≡◌, List, [], ◌∷◌, ℕ, ◌<◌, length}
use Rattle.blake2b.specs.State.{ckb_hash}
use Rattle.account_state.specs.Reading.{EntryReading}
use Rattle.quorum.specs.Slots.{entry_for}
use Rattle.account_witness.specs.Reading.{ProofReading, witness_proofs}
use Rattle.scene_table.specs.Scene.{Cell, Scene}
use Rattle.scene_table.specs.Lent.{scene_in}
use Rattle.cell_search.specs.declared.cells.Source.{Source}
use Rattle.cell_search.specs.declared.cells.CellField.TheVariants.{TypeHash, DataHash}
use Rattle.cell_search.specs.Search.{cells_of, cell_search, index_of, cell_at}
use Rattle.cell_hashes.specs.Hashes.{TrueHashes}
use Rattle.state_transition.specs.Resolve.{state_source, state_cell}
use Rattle.decision.specs.Proofs.{Context, verifier_field}
use Rattle.account_lock.specs.Lock.{account, operation, witness_lock, current, context_of}

-- the cell that holds the account's current state
unfoldable pub current_cell : Scene → Cell
current_cell s = state_cell (state_source (operation s)) (account s) s

-- the dep that an entry names as its verifier
unfoldable pub verifier_cell : EntryReading → List Cell → Cell
verifier_cell e deps = cell_at deps (index_of (cell_search (verifier_field e.hash_type) e.code_hash deps))

-- what is known of it: named by type hash, its type script has that hash; named by data hash, its data has; or it has no data, and
-- its data hash, which is then believed, is the one named
pub data RealVerifier (e : EntryReading) (c : Cell) : Type 0 where
  by_type : verifier_field e.hash_type ≡ TypeHash → ckb_hash c.type_script ≡ e.code_hash → RealVerifier e c
  by_data : verifier_field e.hash_type ≡ DataHash → ckb_hash c.content ≡ e.code_hash → RealVerifier e c
  believed : verifier_field e.hash_type ≡ DataHash → c.content ≡ [] → c.data_hash ≡ e.code_hash → RealVerifier e c

-- the verifier of each proof, and so of each request
abbrev pub RealVerifiers : Context → List ProofReading → Type 0
RealVerifiers c [] = Unit {0}
RealVerifiers c (p ∷ ps) =
    RealVerifier (entry_for p.slot c.entries) (verifier_cell (entry_for p.slot c.entries) c.deps) × RealVerifiers c ps

pub record RealCells (table store : List ℕ) (room : ℕ) : Type 0 where
  -- every cell of the scene, an input, an output or a dep, has true hashes: where it has a type script, its type hash is CKB's hash of
  -- that script, and where it has data, its data hash is CKB's hash of that data
  pub hashes : (from : Source) (i : ℕ) → i < length (cells_of from (scene_in table store)) → TrueHashes (cell_at (cells_of from (scene_in table store)) i)
  -- the account id is CKB's hash of the type script of the cell whose data is the current state
  pub state : (current_cell (scene_in table store)).content ≡ current (scene_in table store)
  pub account : ckb_hash (current_cell (scene_in table store)).type_script ≡ account (scene_in table store)
  -- and its data hash is that of the current state
  pub data_hash : (current_cell (scene_in table store)).data_hash ≡ ckb_hash (current (scene_in table store))
  pub verifiers : RealVerifiers (context_of (scene_in table store) room) (witness_proofs (witness_lock (scene_in table store)))
