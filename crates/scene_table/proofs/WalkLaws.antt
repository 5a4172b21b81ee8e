-- The walk's laws: its turns, and the turns of the loop over digits.
-- Assumes nothing.
use mathlib.Core.Path.{◌≡◌, refl, sym}
use mathlib.Core.Bool.{Bool, true, false, cond}
use mathlib.Core.List.{List}
use Prim.Native.Nat.{ℕ, zero, suc, ◌+◌, ◌-◌, ◌≤◌, ◌<◌}
use native.Mathlib.Omega.{arith}
use native.Mathlib.Nat.{add-zero}
use Rattle.std.specs.List.{list_all, range_with_len}
use Rattle.octets.specs.Lists.{every}
use Rattle.scene_table.specs.Lent.{record_offset, records_at}
use Rattle.scene_table.specs.RecordsWalk.{required, with_record, record_step, walk_records}
use Rattle.std.specs.Prelude.{Option, None}

-- a test that passes changes nothing
pub required-true : (k : Option ℕ) → required k true ≡ k
unfolding required
required-true k = refl

-- a turn of the loop over records
pub walk_turn : (table : List ℕ) (ok : ℕ → Bool) (size : ℕ → ℕ) (w n at i : ℕ) (k : Option ℕ) → i < n
    → walk_records table ok size w (n - i) at k ≡ walk_records table ok size w (n - (i + 1)) (at + w) (record_step table ok size k at)
unfolding walk_records
walk_turn table ok size w n at i k h = let e : n - i ≡ suc (n - (i + 1)) = omega arith in rw e

-- after the last turn nothing is left
pub walk_end : (table : List ℕ) (ok : ℕ → Bool) (size : ℕ → ℕ) (w n at i : ℕ) (k : Option ℕ) → n ≤ i → walk_records table ok size w (n - i) at k ≡ k
unfolding walk_records
walk_end table ok size w n at i k h = let e : n - i ≡ 0 = omega arith in rw e

-- behind a record that is not good nothing is
pub walk_none : (table : List ℕ) (ok : ℕ → Bool) (size : ℕ → ℕ) (w n at : ℕ) → walk_records table ok size w n at None ≡ None
unfolding walk_records record_step required with_record
walk_none table ok size w zero at = refl
walk_none table ok size w (suc n) at = go (ok at) (walk_none table ok size w n (at + w))
  where
    go : (b : Bool) → walk_records table ok size w n (at + w) None ≡ None
        → walk_records table ok size w n (at + w) (with_record (cond b None None) (record_offset table at) (size at)) ≡ None
    go true h = h
    go false h = h

pub ruleset walk_turns = (walk_turn, walk_end, walk_none)

-- a test of n digits
digits-from : (p : ℕ → Bool) (read : ℕ → ℕ) (at n from at' : ℕ) → at' ≡ at + from → list_all (λ i. p (read (at + i))) (range_with_len from n) ≡ every p (records_at read 1 n at')
unfolding every records_at
digits-from p read at zero from at' e = refl
digits-from p read at (suc n) from at' e = rw (e, digits-from p read at n (from + 1) (at + from + 1) (omega arith))

pub digits_all : (p : ℕ → Bool) (read : ℕ → ℕ) (at n : ℕ) → list_all (λ i. p (read (at + i))) (range_with_len 0 n) ≡ every p (records_at read 1 n at)
digits_all p read at n = digits-from p read at n 0 at (sym (add-zero at))
