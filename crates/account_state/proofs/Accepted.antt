-- A state, its header and each entry are accepted exactly where every check passes, and refused exactly with the first that fails.
-- Assumes nothing.
use Rattle.std.specs.Prelude.{Err, Ok}
use mathlib.Core.Path.{◌≡◌}
use mathlib.Core.List.{List}
use mathlib.Core.Logic.{◌↔◌}
use Prim.Native.Nat.{ℕ}
use lib.ListN.{drop}
use Rattle.protocol.specs.Rows.{AllPass, FirstFailed}
use Rattle.protocol.specs.declared.error.ProtocolError.{ProtocolError}
use Rattle.protocol.proofs.Answers.{then-accepts, then-refuses, then-given}
use Rattle.account_state.specs.Reading.{state_reading}
use Rattle.account_state.specs.State.{state_rows, state_fault, state_header_of, summary_of, read_state, entry_rows, entry_at, entry_cursor_behind, entry_step, state_header_rows, read_state_header}
use Rattle.account_state.specs.declared.header.StateHeader.{StateHeader}
use Rattle.account_state.specs.declared.entry.EntryCursor.{EntryCursor}
use Rattle.account_state.specs.declared.walk.StateSummary.{StateSummary}

-- accepted exactly where every check passes
pub state-accepts : (s : List ℕ) → (read_state s ≡ Ok (state_header_of s, summary_of (state_reading s).entries)) ↔ AllPass (state_rows s)
unfolding read_state state_fault state_reading
state-accepts s = then-accepts _ (state_rows s)

-- refused exactly with the first check that fails
pub state-refuses : (s : List ℕ) (e : ProtocolError) → (read_state s ≡ Err e) ↔ FirstFailed (state_rows s) e
unfolding read_state state_fault
state-refuses s e = then-refuses _ (state_rows s) e

-- the header, likewise: accepted exactly where every check of it passes
pub state-header-accepts : (s : List ℕ) → (read_state_header s ≡ Ok (state_header_of s)) ↔ AllPass (state_header_rows s)
unfolding read_state_header
state-header-accepts s = then-accepts _ (state_header_rows s)

-- refused exactly with the first that fails
pub state-header-refuses : (s : List ℕ) (e : ProtocolError) → (read_state_header s ≡ Err e) ↔ FirstFailed (state_header_rows s) e
unfolding read_state_header
state-header-refuses s e = then-refuses _ (state_header_rows s) e

-- and a step
module _ (s : List ℕ) (c : EntryCursor) where
  -- accepted exactly where every check of the entry passes
  pub entry-step-accepts : (entry_step s c ≡ Ok (entry_at s c.offset, entry_cursor_behind s c.offset)) ↔ AllPass (entry_rows (drop c.offset s) c.least)
  unfolding entry_step
  entry-step-accepts = then-accepts _ (entry_rows (drop c.offset s) c.least)

  -- refused exactly with the first that fails
  pub entry-step-refuses : (x : ProtocolError) → (entry_step s c ≡ Err x) ↔ FirstFailed (entry_rows (drop c.offset s) c.least) x
  unfolding entry_step
  entry-step-refuses x = then-refuses _ (entry_rows (drop c.offset s) c.least) x

-- what an answer says of the checks
pub valid-fault : (s : List ℕ) (h : StateHeader) (t : StateSummary) → read_state s ≡ Ok (h, t) → state_fault s ≡ Ok tt
unfolding read_state
valid-fault s h t e = (then-given _ (state_fault s) (h, t) e).0
