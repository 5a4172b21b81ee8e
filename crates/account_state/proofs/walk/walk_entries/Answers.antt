-- `account_state::walk::walk_entries` meets its contract: what is left to walk gives the whole.
-- Assumes nothing.
use mathlib.Core.Path.{◌≡◌, sym}
use Prim.Native.Nat.{ℕ, suc, ◌+◌, ◌-◌, ◌≤◌, ◌<◌}
use native.Mathlib.Nat.{sub-zero}
use native.Mathlib.Omega.{arith}
use lib.ListN.{length}
use Rattle.octets.proofs.Parts.{part-clip}
use Rattle.account_state.proofs.EntriesWalkLaws.{walking-first, walking-next, walking-light, walking-failed, walking-done, entry-inside}
use Rattle.account_state.proofs.walk.walk_entries.Goals as goal

pub loop-init : goal.loop-init
loop-init c =
    let s = c.args.state.now in
    let d = c.default-summary.ensures in
    rw (part-clip s 32 (length s - 32) (omega arith), sub-zero c.args.count) (walking-first s c.args.count c.default-summary.result c.requires.1 d.0 d.1.0 d.1.1)

-- one entry less is left
one : (count i : ℕ) → i < count → count - i ≡ suc (count - (i + 1))
one count i h = omega arith

pub returns-in_err-check_entry : goal.returns-in_err-check_entry
returns-in_err-check_entry c =
    let w = walking-failed _ _ _ _ _ _ _ (one c.args.count c.loop.counter (omega arith)) c.loop.invariant in
    grind (arith, w)

pub with_entry-summary-requires : goal.with_entry-summary-requires
with_entry-summary-requires c = walking-light _ _ _ _ _ _ _ (one c.args.count c.loop.counter (omega arith)) c.loop.invariant

pub loop-preserved : goal.loop-preserved
loop-preserved c =
    let e = c.loop.entry.now in
    let n = c.entry_length_of-len.result in
    let h : n ≤ length e = grind (arith, entry-inside) in
    let q = rw (c.weight_of.ensures, c.capabilities_of.ensures) at c.with_entry-summary.ensures.value in
    let w = walking-next _ _ _ _ _ _ _ (one c.args.count c.loop.counter (omega arith)) c.loop.invariant (sym c.in_ok-check_entry.ensures) _ q c.with_entry-summary.ensures.room in
    rw (part-clip e n (length e - n) (omega arith), c.entry_length_of-len.ensures, c.entry_slot_of.ensures) w

pub returns : goal.returns
returns c = sym (walking-done _ _ _ _ _ _ (omega arith) c.loop.invariant)
