-- A state's session: its test by the flag and by each entry, an entry a turn.
-- Assumes nothing.
use Rattle.std.specs.Prelude.{Err, Ok}
use mathlib.Core.Path.{◌≡◌, refl, sym, ◌∙◌}
use mathlib.Core.Logic.{◌↔◌}
use mathlib.Core.Bool.{Bool, true, false, not, false≢true}
use mathlib.Core.List.{List, [], ◌∷◌, ◌++◌}
use Prim.Native.Nat.{ℕ, suc, ◌+◌, ◌<◌}
use lib.Dec.{eqb}
use lib.ListN.{drop}
use borrow.Author.Tests.{not-true}
use Rattle.octets.specs.Lists.{every}
use Rattle.octets.proofs.Truth.{and_both}
use Rattle.protocol.specs.Rows.{row, decide, ◌▷◌, Check}
use Rattle.protocol.specs.declared.error.ProtocolError.TheVariants.{InvalidSequence, SessionWithdrawn}
use Rattle.protocol.proofs.AllPass.{decide-append}
use Rattle.account_state.specs.Fields.{flags_of, sequence_of, session_enabled, entry_count_of, entry_length_of, entry_bytes_of}
use Rattle.account_state.specs.Reading.{EntryReading, StateReading, entry_of, entries_of, state_reading}
use Rattle.account_state.specs.State.{state_rows}
use Rattle.account_state.proofs.EntriesWalkLaws.{entries-first}
use Rattle.state_transition.specs.Session.{issues_session, session_free, NoneIssues, SessionFree}
use Rattle.state_transition.specs.Transition.{successor_rows}

-- no entry has the capability
abbrev none_issues : List EntryReading → Bool
none_issues = every (λ e. not (issues_session e))

-- the test passes exactly where neither is there
none_each : (es : List EntryReading) → none_issues es ≡ true → NoneIssues es
unfolding every
none_each [] h = tt
none_each (e ∷ es) h = let b = and_both (not (issues_session e)) (none_issues es) h in (not-true (issues_session e) b.0, none_each es b.1)

each_none : (es : List EntryReading) → NoneIssues es → none_issues es ≡ true
unfolding every
each_none [] h = refl
each_none (e ∷ es) h = rw h.0 (each_none es h.1)

pub session-free : (r : StateReading) → (session_free r ≡ true) ↔ SessionFree r
unfolding session_free
session-free r = (there, λ h. rw h.flag (each_none r.entries h.entries))
  where
    there : session_free r ≡ true → SessionFree r
    there h =
        let b = and_both (not (session_enabled r.flags)) (none_issues r.entries) h in
        record { flag = not-true (session_enabled r.flags) b.0; entries = none_each r.entries b.1 }

-- and fails where one is
pub session-carried : (r : StateReading) → (session_free r ≡ false) ↔ ¬ SessionFree r
session-carried r = (λ h f. false≢true (sym h ∙ (session-free r).1 f), go (session_free r) refl)
  where
    go : (b : Bool) → session_free r ≡ b → ¬ SessionFree r → b ≡ false
    go true h n = absurd (n ((session-free r).0 h))
    go false h n = refl

-- a successor without a session is decided by document 01's rows
pub successor-original : (current successor : List ℕ) → SessionFree (state_reading successor)
    → decide (Ok tt) (successor_rows current successor)
    ≡ decide (Ok tt) (state_rows successor ++ (row (eqb (sequence_of successor) (sequence_of current + 1)) InvalidSequence ∷ []))
unfolding successor_rows decide
successor-original current successor h =
    decide-append (Ok tt) (state_rows successor) _
    ∙ (rw ((session-free (state_reading successor)).1 h) (go (decide (Ok tt) (state_rows successor))) ∙ sym (decide-append (Ok tt) (state_rows successor) _))
  where
    go : (k : Check) → k ▷ row true SessionWithdrawn ▷ row (eqb (sequence_of successor) (sequence_of current + 1)) InvalidSequence
        ≡ k ▷ row (eqb (sequence_of successor) (sequence_of current + 1)) InvalidSequence
    go (Ok _) = refl
    go (Err e) = refl

-- the flag alone
pub free-flag : (s : List ℕ) → session_enabled (flags_of s) ≡ true → session_free (state_reading s) ≡ false
unfolding session_free state_reading
free-flag s h = rw h

-- with the flag clear, `left` entries from the bytes e on say what all say
pub record Looking (s : List ℕ) (left : ℕ) (e : List ℕ) : Type 0 where
  pub says : session_free (state_reading s) ≡ none_issues (entries_of left e)

pub look-first : (s : List ℕ) → session_enabled (flags_of s) ≡ false → Looking s (entry_count_of s) (entry_bytes_of s)
unfolding session_free state_reading
look-first s h = record { says = rw h }

-- an entry with the capability decides,
pub look_hit : (s : List ℕ) (left : ℕ) (e : List ℕ) → Looking s left e → 0 < left → issues_session (entry_of e) ≡ true
    → session_free (state_reading s) ≡ false
unfolding every
look_hit s left e l h p = l.says ∙ rw (entries-first e left h, p)

-- one without it leaves the rest,
pub look-next : (s : List ℕ) (left next : ℕ) (e : List ℕ) → Looking s left e → left ≡ suc next → issues_session (entry_of e) ≡ false
    → Looking s next (drop (entry_length_of e) e)
unfolding every entries_of
look-next s left next e l one p = record { says = l.says ∙ rw (one, p) }

-- and none is left
pub look-end : (s : List ℕ) (left : ℕ) (e : List ℕ) → Looking s left e → left ≡ 0 → session_free (state_reading s) ≡ true
unfolding every entries_of
look-end s left e l z = l.says ∙ rw z

-- for the check's own search
pub ruleset looks = (free-flag, look-first, look_hit, look-next, look-end)
