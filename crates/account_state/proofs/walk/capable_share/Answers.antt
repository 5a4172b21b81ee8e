-- `account_state::walk::capable_share` meets its contract: by the capability bit. Assumes nothing.
use mathlib.Core.Path.{◌≡◌}
use mathlib.Core.Bool.{cond}
use Prim.Native.Nat.{ℕ, zero, suc, ◌*◌, ◌/◌, ◌%◌, ◌≤◌, ◌<◌}
use native.Mathlib.Nat.{div-zero, one-mul, zero-mul}
use native.Mathlib.Omega.{arith}
use lib.Dec.{eqb}
use Rattle.protocol.specs.Policy.{has_capability}
use Rattle.account_state.specs.Reading.{capable_share}
use Rattle.account_state.proofs.walk.capable_share.Goals as goal

-- a bit times a number
bit-times : (k n : ℕ) → k < 2 → (k * n ≡ cond (eqb k 1) n 0) × (k * n ≤ n)
bit-times zero n h = (zero-mul n, omega (arith, zero-mul n))
bit-times (suc zero) n h = (one-mul n, omega (arith, one-mul n))
bit-times (suc (suc k)) n h = absurd (omega arith)

-- no entry has the capability of no bit
pub returns-then-bit-eq0 : goal.returns-then-bit-eq0
unfolding capable_share has_capability
returns-then-bit-eq0 c = (rw (c.if-bit-eq0.true, div-zero), omega arith)

pub overflow_mul-result : goal.overflow_mul-result
overflow_mul-result c =
    let a = c.args in
    omega (arith, (bit-times (a.capabilities / a.bit % 2) a.weight (omega arith)).1, c.ranges.weight)

pub returns : goal.returns
unfolding capable_share has_capability
returns c =
    let a = c.args in
    let b = bit-times (a.capabilities / a.bit % 2) a.weight (omega arith) in
    (b.0, omega (arith, b.1, c.ranges.weight))
