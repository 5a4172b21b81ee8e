-- Demand 3, what it says of the proofs: every earlier check passes, and a set of current-state slots with the capability and an
-- approved proof reaches the threshold, itself above zero. The lock asks besides for totals of capacities that pass (02, change 9):
-- account_lock specs/Decides `LockDecision`.
use Rattle.std.specs.Prelude.{ℕ, ◌+◌, ◌≤◌, ◌<◌, ◌≡◌, ◌≢◌, true, length, get_or}
use mathlib.Core.List.{List, [], ◌∷◌, Memᴰ}
use Rattle.octets.specs.Lists.{Rising}
use Rattle.protocol.specs.Rows.{AllPass}
use Rattle.quorum.specs.Slots.{known_slot, entry_for, slots_weight}
use Rattle.quorum.specs.Operation.{capable}
use Rattle.account_witness.specs.Reading.{ProofReading, witness_proofs, proof_slots}
use Rattle.account_witness.specs.Walk.{witness_proof_rows}
use Rattle.decision.specs.Proofs.{Context, proof_rows, request_of}
use Rattle.decision.specs.Walk.{verdict}

-- each proof's rows pass, from proof i on with `used` bytes of the answer written, and its verdict is not 2
abbrev pub EachPasses : Context → ℕ → ℕ → List ProofReading → Type 0
EachPasses c i used [] = Unit {0}
EachPasses c i used (p ∷ ps) =
    AllPass (proof_rows c used p) × (verdict c i ≢ 2) × EachPasses c (i + 1) (used + length (request_of c p)) ps

-- the rows of the proofs, all before the one for 28: each one's layout, "bytes after the last proof", and each one's own
pub record ProofsPass (c : Context) (lock : List ℕ) : Type 0 where
  pub layout : AllPass (witness_proof_rows lock)
  pub each : EachPasses c 0 0 (witness_proofs lock)

-- 01: "A request is approved where DIGITS has 0 at its proof's place in the witness lock": the slot is one of the current state's,
-- has the operation's capability, and has such a proof
pub record Approved (c : Context) (ps : List ProofReading) (s : ℕ) : Type 0 where
  pub in_state : known_slot s c.entries ≡ true
  pub has_capability : capable c.operation (entry_for s c.entries).capabilities ≡ true
  pub index : ℕ
  pub is_proof : index < length ps
  pub its_slot : get_or (proof_slots ps) index 0 ≡ s
  pub is_approved : verdict c index ≡ 0

-- a set of such slots, strictly rising, that together weigh at least the threshold, which is above zero
pub record Quorum (c : Context) (ps : List ProofReading) : Type 0 where
  pub set : List ℕ
  pub is_set : Rising 0 set
  pub each : (s : ℕ) → Memᴰ s set → Approved c ps s
  pub enough : c.threshold ≤ slots_weight c.entries set
  pub above : 0 < c.threshold
