-- 02, change 6: where no aux of the current state is above 2,593 bytes, a proof within its own limit makes a request within the
-- request's: 96 + 2,593 + 65,536 = 68,225 bytes at most, of 69,728.
-- Assumes nothing.
use mathlib.Core.Path.{◌≡◌}
use mathlib.Core.Bool.{Bool, true, false, cond}
use mathlib.Core.List.{List, [], ◌∷◌}
use Prim.Native.Nat.{ℕ, ◌≤◌}
use native.Mathlib.Omega.{arith}
use borrow.Author.Tests.{leb-true, le-leb}
use lib.Dec.{eqb}
use lib.ListN.{length}
use Rattle.account_state.specs.Fields.{aux_max_length}
use Rattle.account_state.specs.Reading.{EntryReading, AuxWithin}
use Rattle.quorum.specs.Slots.{no_entry, entry_for}
use Rattle.account_witness.specs.Reading.{ProofReading}
use Rattle.decision.specs.Proofs.{Context, long_proof_row, WithinLimits}

-- the entry of any slot keeps the limit
entry-within : (slot : ℕ) (es : List EntryReading) → AuxWithin es → length (entry_for slot es).aux ≤ aux_max_length
unfolding entry_for no_entry
entry-within slot [] w = omega arith
entry-within slot (e ∷ es) w = go (eqb e.slot slot) (entry-within slot es w.1)
  where
    go : (b : Bool) → length (entry_for slot es).aux ≤ aux_max_length → length (cond b e (entry_for slot es)).aux ≤ aux_max_length
    go true later = w.0
    go false later = later

-- so does a request
pub within-limits : (c : Context) (p : ProofReading) → AuxWithin c.entries → (long_proof_row (length p.bytes)).test ≡ true → WithinLimits c p
within-limits c p w h =
    let a : length (entry_for p.slot c.entries).aux ≤ aux_max_length = entry-within p.slot c.entries w in
    let l : length p.bytes ≤ 65536 = leb-true (length p.bytes) 65536 h in
    record { request = omega (arith, le-leb); aux = omega (arith, le-leb) }
