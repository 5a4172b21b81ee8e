-- The totals behind other checks.
-- Assumes nothing.
use Rattle.std.specs.Prelude.{Err, Ok, Result}
use Rattle.std.specs.Result.{result_and, result_unwrap_or}
use mathlib.Core.Path.{◌≡◌, refl, sym, ap, ◌∙◌}
use Prim.Native.Nat.{ℕ, ◌-◌}
use Rattle.protocol.specs.Rows.{decide, ◌then◌, Check}
use Rattle.protocol.specs.declared.error.ProtocolError.{ProtocolError}
use Rattle.protocol.proofs.AllPass.{decide-failed}
use Rattle.scene_table.specs.Scene.{Scene}
use Rattle.capacity.specs.Capacity.{input_total, output_total, capacity_rows, fee_where, fee_for, fee_of}

-- whatever stands behind a check
behind-check : (found : Check) (n : ℕ) → result_and (found then Ok n) (Ok tt) ≡ found
behind-check (Ok _) n = refl
behind-check (Err e) n = refl

fee-given : (found : Check) (n : ℕ) → fee_where found (result_unwrap_or (found then Ok n) 0) ≡ fee_where found n
fee-given (Ok _) n = refl
fee-given (Err e) n = refl

module _ (s : Scene) where
  -- the fee is the totals' difference where all of them pass
  pub totals-found : (first : Check) → first then fee_of s ≡ decide first (capacity_rows s) then Ok (input_total s - output_total s)
  unfolding fee_of fee_for capacity_rows
  totals-found (Ok _) = refl
  totals-found (Err e) = rw (decide-failed (capacity_rows s) e)

  -- and so what the totals' rows find, and the fee that is shown
  pub totals-checked : (first : Check) → first then result_and (fee_of s) (Ok tt) ≡ decide first (capacity_rows s)
  totals-checked (Ok _) =
      ap (λ (r : Result ℕ ProtocolError). result_and r (Ok tt)) (totals-found (Ok tt))
      ∙ behind-check (decide (Ok tt) (capacity_rows s)) (input_total s - output_total s)
  totals-checked (Err e) = sym (decide-failed (capacity_rows s) e)

  pub totals-fee : (first : Check)
      → fee_where (decide first (capacity_rows s)) (result_unwrap_or (fee_of s) 0) ≡ fee_where (decide first (capacity_rows s)) (input_total s - output_total s)
  totals-fee (Ok _) =
      ap (λ (r : Result ℕ ProtocolError). fee_where (decide (Ok tt) (capacity_rows s)) (result_unwrap_or r 0)) (totals-found (Ok tt))
      ∙ fee-given (decide (Ok tt) (capacity_rows s)) (input_total s - output_total s)
  totals-fee (Err e) = rw (decide-failed (capacity_rows s) e)
