-- The reader of a state gives 44 exactly where it comes to an entry that passes document 01's checks and says an aux above the limit.
-- Assumes nothing.
use Rattle.std.specs.Prelude.{Err, Ok}
use mathlib.Core.Path.{◌≡◌, refl}
use mathlib.Core.Logic.{◌≢◌, ◌⊎◌, inl, inr, ⊎_elim, ◌↔◌}
use mathlib.Core.Bool.{Bool, true, false, cond}
use mathlib.Core.List.{List, [], ◌∷◌}
use Prim.Native.Nat.{ℕ, zero, suc, ◌+◌, ◌<◌}
use native.Mathlib.Nat.{add-zero, zero-add}
use native.Mathlib.Omega.{arith}
use borrow.Author.Tests.{leb-true, leb-false}
use lib.Dec.{leb}
use Rattle.protocol.specs.Rows.{Row, AllPass, ◌then◌, decide, check_number, Check}
use Rattle.protocol.specs.declared.error.ProtocolError.TheVariants.{AuxTooLong}
use Rattle.protocol.proofs.AllPass.{all-pass-append, all-pass-split}
use Rattle.protocol.proofs.Each.{Each, each-cond}
use Rattle.protocol.proofs.GivenNumber.{Other, others-not, given-either, given-between}
use Rattle.account_state.specs.Fields.{recovery_enabled, entry_count_of, entry_bytes_of, aux_length_of, aux_max_length}
use Rattle.account_state.specs.Reading.{state_entries}
use Rattle.account_state.specs.State.{state_header_rows, entry_layout_rows, entry_field_rows, original_entry_rows, aux_limit_row, entry_rows, entries_rows, recovery_threshold_rows, threshold_rows, state_end_rows, state_tail_rows, state_rows, state_fault, state_header_of, summary_of, read_state, entry_cursor_at}
use Rattle.account_state.specs.declared.header.StateHeader.{StateHeader}
use Rattle.account_state.specs.declared.walk.StateSummary.{StateSummary}
use Rattle.account_state.specs.AuxRefused.{AuxRefused}
use Rattle.account_state.proofs.Steps.{from, rows-unrolled}

-- rows with other numbers do not give it
none : (rs : List Row) → Each (Other 44) rs → check_number (decide (Ok tt) rs) ≢ 44
none = others-not 44 (omega arith)

-- no row of the header gives it,
header-other : (s : List ℕ) → Each (Other 44) (state_header_rows s)
unfolding state_header_rows
header-other s = search arith depth 20

-- none of an entry's before the limit,
original-other : (e : List ℕ) (least : ℕ) → Each (Other 44) (original_entry_rows e least)
unfolding original_entry_rows entry_layout_rows entry_field_rows
original-other e least = search arith depth 20

-- and none after the last entry
recovery-other : (flags threshold since weight : ℕ) → Each (Other 44) (recovery_threshold_rows flags threshold since weight)
unfolding recovery_threshold_rows
recovery-other flags threshold since weight = each-cond (Other 44) (recovery_enabled flags) _ _ (search arith) (search arith)

tail-other : (s : List ℕ) (n : ℕ) (e : List ℕ) → Each (Other 44) (state_tail_rows s n e)
unfolding state_tail_rows state_end_rows threshold_rows
tail-other s n e = search (arith, recovery-other) depth 12

-- the row of the limit alone
limit-44 : (aux : ℕ) → (check_number (decide (Ok tt) (aux_limit_row aux ∷ [])) ≡ 44) ↔ (aux_max_length < aux)
unfolding decide
limit-44 aux = go (leb aux aux_max_length) refl
  where
    go : (b : Bool) → leb aux aux_max_length ≡ b → (check_number {A = Unit} (cond b (Ok tt) (Err AuxTooLong)) ≡ 44) ↔ (aux_max_length < aux)
    go true h = (λ q. absurd (omega arith), λ l. absurd (omega (arith, leb-true aux aux_max_length h)))
    go false h = (λ q. leb-false aux aux_max_length h, λ l. refl)

-- an entry gives it exactly where its other rows pass and its aux is above the limit
entry-44 : (e : List ℕ) (least : ℕ)
    → (check_number (decide (Ok tt) (entry_rows e least)) ≡ 44) ↔ (AllPass (original_entry_rows e least) × (aux_max_length < aux_length_of e))
unfolding entry_rows
entry-44 e least =
    let b = given-between 44 (omega arith) (original_entry_rows e least) (aux_limit_row (aux_length_of e) ∷ []) []
    (none (original_entry_rows e least) (original-other e least)) (none [] tt) in
    let l = limit-44 (aux_length_of e) in
    (λ q. ((b.0 q).0, l.0 (b.0 q).1), λ h. b.1 (h.0, l.1 h.1))

module _ (s : List ℕ) where
  -- the least slot of the entry after k entries
  abbrev least : ℕ → ℕ
  least k = (entry_cursor_at s k).least

  -- of n entries from the one after k entries on, this one is the first that gives it
  record Long (n k : ℕ) : Type 0 where
    index : ℕ
    counted : index < n
    earlier : AllPass (entries_rows index (from s k) (least k))
    own : AllPass (original_entry_rows (from s (k + index)) (least (k + index)))
    above : aux_max_length < aux_length_of (from s (k + index))

  -- the first of them, or one of the others
  long-first : (n k : ℕ) → AllPass (original_entry_rows (from s k) (least k)) × (aux_max_length < aux_length_of (from s k)) → Long (suc n) k
  unfolding entries_rows
  long-first n k h =
      record { index = zero; counted = omega arith; earlier = tt; own = rw (add-zero k) h.0; above = rw (add-zero k) h.1 }

  long-later : (n k : ℕ) → AllPass (entry_rows (from s k) (least k)) × Long n (suc k) → Long (suc n) k
  long-later n k h =
      let l = h.1 in
      let i : ℕ = l.index in
      let e : k + suc i ≡ suc k + i = omega arith in
      record {
        index = suc i;
        counted = omega (arith, l.counted);
        earlier = rw (rows-unrolled s i k) (all-pass-append (entry_rows (from s k) (least k)) _ h.0 l.earlier);
        own = rw e l.own;
        above = rw e l.above;
      }

  long-split : (n k i : ℕ) → i < suc n → AllPass (entries_rows i (from s k) (least k))
      → AllPass (original_entry_rows (from s (k + i)) (least (k + i))) → aux_max_length < aux_length_of (from s (k + i))
      → (AllPass (original_entry_rows (from s k) (least k)) × (aux_max_length < aux_length_of (from s k))) ⊎ (AllPass (entry_rows (from s k) (least k)) × Long n (suc k))
  long-split n k zero c e o a = inl (rw (add-zero k) at o, rw (add-zero k) at a)
  long-split n k (suc i) c e o a =
      let q : k + suc i ≡ suc k + i = omega arith in
      let p = all-pass-split (entry_rows (from s k) (least k)) _ (rw (rows-unrolled s i k) at e) in
      inr (p.0, record { index = i; counted = omega arith; earlier = p.1; own = rw q at o; above = rw q at a })

  entries-44 : (n k : ℕ) → (check_number (decide (Ok tt) (entries_rows n (from s k) (least k))) ≡ 44) ↔ Long n k
  unfolding entries_rows decide
  entries-44 zero k = (λ q. absurd (omega arith), λ l. absurd (omega (arith, l.counted)))
  entries-44 (suc n) k =
      let e = given-either 44 (omega arith) (entry_rows (from s k) (least k)) (entries_rows n (from s (suc k)) (least (suc k))) in
      let f = entry-44 (from s k) (least k) in
      let r = entries-44 n (suc k) in (
        λ q. ⊎_elim (λ a. long-first n k (f.0 a)) (λ p. long-later n k (p.0, r.0 p.1)) (e.0 (rw (rows-unrolled s n k) at q)),
        λ l. rw (rows-unrolled s n k)
            (e.1 (⊎_elim (λ h. inl (f.1 h)) (λ p. inr (p.0, r.1 p.1)) (long-split n k l.index l.counted l.earlier l.own l.above))),
      )

  -- of the whole state
  pub rows-forty-four : (check_number (decide (Ok tt) (state_rows s)) ≡ 44) ↔ AuxRefused s
  unfolding state_rows entry_cursor_at
  rows-forty-four =
      let n = entry_count_of s in
      let b = given-between 44 (omega arith) (state_header_rows s) (entries_rows n (entry_bytes_of s) 0) (state_tail_rows s n (entry_bytes_of s))
      (none (state_header_rows s) (header-other s)) (none (state_tail_rows s n (entry_bytes_of s)) (tail-other s n (entry_bytes_of s))) in
      let r = entries-44 n 0 in (
        λ q.
            let l = r.0 (b.0 q).1 in
            record {
              header = (b.0 q).0;
              index = l.index;
              counted = l.counted;
              earlier = l.earlier;
              own = rw zero-add at l.own;
              above = rw zero-add at l.above;
            },
        λ h. b.1
            (h.header, r.1 (record { index = h.index; counted = h.counted; earlier = h.earlier; own = rw zero-add h.own; above = rw zero-add h.above })),
      )

  -- The theorem: the reader gives 44 exactly there.
  pub state-forty-four : (check_number (read_state s) ≡ 44) ↔ AuxRefused s
  unfolding read_state state_fault
  state-forty-four = go (decide (Ok tt) (state_rows s)) rows-forty-four
    where
      go : (k : Check) → (check_number k ≡ 44) ↔ AuxRefused s → (check_number {A = StateHeader × StateSummary} (k then Ok (state_header_of s, summary_of (state_entries s))) ≡ 44) ↔ AuxRefused s
      go (Ok _) h = h
      go (Err e) h = h
