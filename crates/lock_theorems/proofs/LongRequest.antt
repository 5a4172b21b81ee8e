-- 02, change 6: "The lock's 39 for a long request then never occurs, which is to be proved."
-- Assumes nothing.
use mathlib.Core.Path.{◌≡◌}
use mathlib.Core.Bool.{true}
use Prim.Native.Nat.{ℕ}
use lib.ListN.{length}
use Rattle.protocol.specs.Rows.{AllPass}
use Rattle.account_state.specs.Reading.{state_reading, AuxWithin}
use Rattle.account_state.proofs.AuxLimit.{state-within}
use Rattle.account_witness.specs.Reading.{ProofReading}
use Rattle.scene_table.specs.Scene.{Scene}
use Rattle.decision.specs.Proofs.{context_for, long_proof_row, WithinLimits}
use Rattle.decision.proofs.LongRequest.{within-limits}
use Rattle.account_lock.specs.Lock.{current, early_rows, context_of}
use Rattle.lock_theorems.proofs.Passes.{state-passes}

module _ (s : Scene) (room : ℕ) (h : AllPass (early_rows s)) where
  -- the rows of the current state say the limit to the proofs
  pub entries-within : AuxWithin (context_of s room).entries
  unfolding context_of context_for state_reading
  entries-within = state-within (current s) (state-passes s h)

  -- where the rows before them pass, those before the proofs and the proof's own limit, a proof's row for 39 and its row for an aux
  -- above 4,096 pass too
  pub long-request-never : (p : ProofReading) → (long_proof_row (length p.bytes)).test ≡ true → WithinLimits (context_of s room) p
  long-request-never p l = within-limits (context_of s room) p entries-within l
