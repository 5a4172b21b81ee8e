-- The numbers that the walk over the proofs and the totals after it give, where the rows before them pass.
-- Assumes nothing.
use Rattle.std.specs.Prelude.{Err, Ok}
use mathlib.Core.Path.{◌≡◌, refl, sym, ◌∙◌}
use mathlib.Core.Bool.{Bool, true, false, cond, true≢false}
use mathlib.Core.List.{List, [], ◌∷◌, ◌++◌}
use Prim.Native.Nat.{ℕ, ◌+◌}
use lib.Dec.{eqb}
use lib.ListN.{length}
use Rattle.protocol.specs.Errors.{error_number}
use Rattle.protocol.specs.Rows.{AllPass, decide, check_number, Check}
use Rattle.protocol.specs.declared.error.ProtocolError.TheVariants.{VerifierFailure}
use Rattle.protocol.proofs.AllPass.{decide-failed}
use Rattle.protocol.proofs.Each.{Refuses, failing-refuses}
use Rattle.account_state.specs.Reading.{AuxWithin}
use Rattle.account_witness.specs.Reading.{ProofReading}
use Rattle.scene_table.specs.Scene.{Scene}
use Rattle.capacity.specs.Capacity.{total_rows, capacity_rows}
use Rattle.decision.specs.Proofs.{Context, request_limit_rows, authenticator_rows, proof_rows, request_of}
use Rattle.decision.specs.Walk.{WalkOutcome, walk_outcome, verdict, approved_weight, last_rows, unless_failed, walk_from, walk_list, walk_lock}
use Rattle.decision.proofs.LongRequest.{within-limits}
use Rattle.account_lock.specs.Lock.{witness_lock, early_rows, context_of, walked, walk_result}
use Rattle.lock_theorems.proofs.LongRequest.{entries-within}
use Rattle.lock_theorems.proofs.OneOf.{one_of, one-of-left, Among, Gives, gives_more, found-one-of, given-refuses}

-- the proofs: the lock's own 5, and the original's; 39 is not among them
abbrev pub proofs_numbers : List ℕ
proofs_numbers = 5 ∷ 22 ∷ 28 ∷ 29 ∷ 30 ∷ 31 ∷ 35 ∷ []

abbrev pub totals_numbers : List ℕ
totals_numbers = 39 ∷ 48 ∷ []

-- ---- the proofs

-- one proof's rows, where no aux is above the limit
proof-refuses : (c : Context) (used : ℕ) (p : ProofReading) → AuxWithin c.entries → Refuses (Among proofs_numbers) (decide (Ok tt) (proof_rows c used p))
unfolding proof_rows authenticator_rows request_limit_rows
proof-refuses c used p w =
    failing-refuses (Among proofs_numbers) (proof_rows c used p)
    (λ _. refl, λ _. (λ _. refl, λ _. (λ _. refl, λ _. (λ _. refl, λ short. (λ long. absurd (true≢false (sym (within-limits c p w short).request ∙ long)), λ _. (λ _. refl, λ _. (λ _. refl, λ _. tt)))))))

-- behind the last proof
end-gives : (clean : Bool) (weight threshold : ℕ) → Gives proofs_numbers (last_rows clean weight threshold)
unfolding last_rows
end-gives clean weight threshold = record { each = (refl, (refl, (refl, tt))) }

-- one proof, and those behind it
walk-refuses : (c : Context) → AuxWithin c.entries → (clean : Bool) (i weight : ℕ) (made : List ℕ) (ps : List ProofReading)
    → Refuses (Among proofs_numbers) (walk_from c clean i weight made ps).found
unfolding walk_from unless_failed
walk-refuses c w clean i weight made [] = given-refuses (end-gives clean weight c.threshold)
walk-refuses c w clean i weight made (p ∷ ps) =
    go (decide (Ok tt) (proof_rows c (length made) p)) (proof-refuses c (length made) p w) (eqb (verdict c i) 2)
    (walk_from c clean (i + 1) (weight + approved_weight c i p) (made ++ request_of c p) ps) (walk-refuses c w clean (i + 1) _ _ ps)
  where
    go : (k : Check) → Refuses (Among proofs_numbers) k → (b : Bool) (onward : WalkOutcome) → Refuses (Among proofs_numbers) onward.found
        → Refuses (Among proofs_numbers) (unless_failed k i made (cond b (walk_outcome (Err VerifierFailure) (i + 1) (made ++ request_of c p)) onward)).found
    go (Err e) h b onward f = h
    go (Ok _) h true onward f = refl
    go (Ok _) h false onward f = f

-- over a scene whose rows before them pass
pub scene-walk : (s : Scene) (room : ℕ) → AllPass (early_rows s) → Refuses (Among proofs_numbers) (walk_lock (context_of s room) (witness_lock s)).found
unfolding walk_lock walk_list
scene-walk s room h = walk-refuses (context_of s room) (entries-within s room h) _ 0 0 [] _

-- ---- the totals, behind the proofs

pub totals-give : (s : Scene) → Gives totals_numbers (capacity_rows s)
unfolding capacity_rows total_rows
totals-give s = record { each = (refl, (refl, (refl, tt))) }

walked-refuses : (s : Scene) (k : Check) → Refuses (Among proofs_numbers) k → Refuses (Among (proofs_numbers ++ totals_numbers)) (decide k (capacity_rows s))
walked-refuses s (Ok _) h = given-refuses (gives_more (proofs_numbers ++ totals_numbers) (totals-give s) refl)
walked-refuses s (Err e) h = rw (decide-failed (capacity_rows s) e) (one-of-left proofs_numbers totals_numbers (error_number e) h)

-- both, of a scene
pub walked-one-of : (s : Scene) (room : ℕ) → AllPass (early_rows s)
    → one_of (0 ∷ (proofs_numbers ++ totals_numbers)) (check_number (walk_result s room).found) ≡ true
unfolding walk_result walked
walked-one-of s room h =
    let w = (walk_lock (context_of s room) (witness_lock s)).found in
    found-one-of (proofs_numbers ++ totals_numbers) (decide w (capacity_rows s)) (walked-refuses s w (scene-walk s room h))
