-- An operation's capability is a bit above zero.
-- Assumes nothing.
use Rattle.std.specs.Prelude.{Err, Ok}
use mathlib.Core.Path.{◌≡◌}
use mathlib.Core.Bool.{Bool, true, false, cond}
use Prim.Native.Nat.{ℕ, ◌<◌}
use native.Mathlib.Omega.{arith}
use lib.Dec.{eqb}
use Rattle.protocol.specs.Policy.{capability_for}
use Rattle.protocol.specs.declared.error.ProtocolError.TheVariants.{InvalidOperation}

bit-of : (a b d : Bool) (bit : ℕ)
    → cond a (Ok 1) (cond b (Ok 2) (cond d (Ok 4) (Err InvalidOperation))) ≡ Ok bit → 0 < bit
bit-of true b d bit h = let e : ◌≡◌ {A = ℕ} 1 bit = cc in omega arith
bit-of false true d bit h = let e : ◌≡◌ {A = ℕ} 2 bit = cc in omega arith
bit-of false false true bit h = let e : ◌≡◌ {A = ℕ} 4 bit = cc in omega arith
bit-of false false false bit h = absurd (let e : ◌≡◌ {A = ℕ} 0 1 = cc in omega arith)

pub bit-above : (operation bit : ℕ) → capability_for operation ≡ Ok bit → 0 < bit
unfolding capability_for
bit-above operation bit h = bit-of (eqb operation 1) (eqb operation 2) (eqb operation 3) bit h

-- for the check's own search
pub ruleset bits = (bit-above)
