-- A state that is laid out right fails the writer's rows exactly as what it says fails the writer's checks.
-- Assumes nothing.
use Rattle.std.specs.Prelude.{Err, Ok}
use mathlib.Core.Path.{◌≡◌, refl, sym, ap, ◌∙◌}
use mathlib.Core.Bool.{true}
use mathlib.Core.List.{List, [], ◌∷◌, ◌++◌}
use Prim.Native.Nat.{ℕ, ◌+◌, ◌≤◌}
use native.Mathlib.Omega.{arith}
use borrow.Author.Tests.{eq-eqb, le-leb, leb-true}
use lib.Dec.{leb, eqb}
use lib.ListN.{length, length-append}
use Rattle.octets.specs.Layout.{layout_bytes, layout_at, field_value}
use Rattle.octets.proofs.LayoutLaws.{length-numbers}
use Rattle.protocol.specs.Rows.{row, ◌▷◌, decide, Check}
use Rattle.protocol.specs.declared.error.ProtocolError.{ProtocolError}
use Rattle.protocol.specs.declared.error.ProtocolError.TheVariants.{InvalidState}
use Rattle.protocol.proofs.AllPass.{decide-append, decide-both, decide-failed, passed-all-pass}
use Rattle.account_state.specs.Fields.{aux_length_of, entry_length_of, key_length_of, abi_of, algorithm_of, capabilities_of, hash_type_of, state_header_length_of, state_magic_of, state_reserved_of, state_version_of, weight_of}
use Rattle.account_state.specs.Reading.{EntryReading, StateReading, EntryTyped, EntriesTyped, StateTyped, state_magic, entry_length_fields, entry_bytes, entries_bytes, state_header_fields, state_head, state_bytes, entry_of}
use Rattle.account_state.specs.State.{state_header_rows, entry_layout_rows, entry_field_rows, original_entry_rows, threshold_rows, summary_of, state_end_rows, state_tail_rows}
use Rattle.account_state.proofs.Inverse.{Keys}
use Rattle.account_state.proofs.Unique.{HeaderRead, length-entry-bytes, lengths_read, size-read, entry_read, rest_read, slot_read, entries-read, entries-behind, state-header-read, behind-head}
use Rattle.account_state_writer.specs.Checks.{head_checks, entry_checks, entries_checks, state_checks, written_checks}
use Rattle.account_state_writer.specs.Writer.{original_entries_rows, original_state_rows, written_rows}

-- a row that passes finds nothing
row-true : (c : Check) (e : ProtocolError) → c ▷ row true e ≡ c
row-true (Ok _) e = refl
row-true (Err x) e = refl

-- an entry at the front of bytes
module _ (e : EntryReading) (t : List ℕ) (y : EntryTyped e) (k : length e.key ≡ 32) where
  abbrev s : List ℕ
  s = entry_bytes e ++ t

  size : length (entry_bytes e) ≡ 80 + length e.aux
  size = let l = length-entry-bytes e y.code_hash in omega arith

  entry-checked : (c : Check) (least : ℕ) → decide c (original_entry_rows s least) ≡ decide c (entry_checks e least)
  unfolding original_entry_rows entry_layout_rows entry_field_rows entry_checks entry_of entry_length_fields layout_at decide
  entry-checked c least =
      let r = entry_read e t s y refl in
      let m : key_length_of s ≡ length e.key = ap (field_value 0) (lengths_read e t s y refl) in
      let a : aux_length_of s ≡ length e.aux = ap (field_value 1) (lengths_read e t s y refl) in
      let z : entry_length_of s ≡ 80 + length e.aux = size-read e t s y refl ∙ size in
      let l : length s ≡ 80 + length e.aux + length t = length-append (entry_bytes e) t ∙ ap (λ (n : ℕ). n + length t) size in
      let e₁ : leb 48 (length s) ≡ true = le-leb 48 (length s) (omega arith) in
      let e₂ : eqb (entry_length_of s) (48 + key_length_of s + aux_length_of s) ≡ true = eq-eqb (entry_length_of s) (48 + key_length_of s + aux_length_of s) (omega arith) in
      let e₃ : leb (entry_length_of s) (length s) ≡ true = le-leb (entry_length_of s) (length s) (omega arith) in
      let f₁ : algorithm_of s ≡ e.algorithm = ap (λ (x : EntryReading). x.algorithm) r in
      let f₂ : capabilities_of s ≡ e.capabilities = ap (λ (x : EntryReading). x.capabilities) r in
      let f₃ : weight_of s ≡ e.weight = ap (λ (x : EntryReading). x.weight) r in
      let f₄ : hash_type_of s ≡ e.hash_type = ap (λ (x : EntryReading). x.hash_type) r in
      let f₅ : abi_of s ≡ e.abi = ap (λ (x : EntryReading). x.abi) r in
      rw (e₁, e₂, e₃, m, a, slot_read e t y, f₁, f₂, f₃, f₄, f₅) (simp row-true)

-- entries one behind another
entries-checked : (es : List EntryReading) → EntriesTyped es → Keys es → (c : Check) (least : ℕ)
    → decide c (original_entries_rows (length es) (entries_bytes es) least) ≡ decide c (entries_checks es least)
unfolding original_entries_rows entries_bytes entries_checks
entries-checked [] y k c least = refl
entries-checked (e ∷ es) y k c least =
    let t = entries_bytes es in
    let s = entry_bytes e ++ t in
    decide-append c (original_entry_rows s least) _
    ∙ (rw (rest_read e t y.0, slot_read e t y.0, entry-checked e t y.0 k.0 c least) (entries-checked es y.1 k.1 _ (e.slot + 1))
    ∙ sym (decide-append c (entry_checks e least) _))

-- a state
module _ (r : StateReading) (y : StateTyped r) (k : Keys r.entries) (h : length (state_bytes r) ≤ 16384) where
  abbrev b : List ℕ
  b = state_bytes r

  abbrev n : ℕ
  n = length r.entries

  abbrev m : HeaderRead r
  m = state-header-read r y

  present : 32 ≤ length b
  unfolding state_bytes state_head state_header_fields
  present =
      let l : length (layout_bytes (state_head r)) ≡ 32 = length-numbers (state_head r) in
      rw (length-append, l) (omega arith)

  head-checked : decide (Ok tt) (state_header_rows b) ≡ decide (Ok tt) (head_checks r.flags n)
  unfolding state_header_rows head_checks decide
  head-checked =
      let e₁ : leb 32 (length b) ≡ true = le-leb 32 (length b) present in
      let e₂ : leb (length b) 16384 ≡ true = le-leb (length b) 16384 h in
      let e₃ : eqb (state_magic_of b) state_magic ≡ true = eq-eqb (state_magic_of b) state_magic m.magic in
      let e₄ : eqb (state_version_of b) 1 ≡ true = eq-eqb (state_version_of b) 1 m.version in
      let e₅ : eqb (state_header_length_of b) 32 ≡ true = eq-eqb (state_header_length_of b) 32 m.size in
      let e₆ : eqb (state_reserved_of b) 0 ≡ true = eq-eqb (state_reserved_of b) 0 m.reserved in
      rw (e₁, e₂, e₃, e₄, e₅, e₆, m.flags, m.count) (simp row-true)

  end-checked : (c : Check) → decide c (state_tail_rows b n (entries_bytes r.entries))
      ≡ decide c (threshold_rows r.flags r.spend r.rotate r.recovery r.since (summary_of r.entries))
  unfolding state_tail_rows state_end_rows decide
  end-checked c =
      rw (entries-behind r.entries y.entries, entries-read r.entries y.entries, m.flags, m.spend, m.rotate, m.recovery, m.since)
      (ap (λ (x : Check). decide x (threshold_rows r.flags r.spend r.rotate r.recovery r.since (summary_of r.entries))) (row-true c InvalidState))

  state-checked : decide (Ok tt) (original_state_rows b) ≡ decide (Ok tt) (state_checks r.flags r.spend r.rotate r.recovery r.since r.entries)
  unfolding original_state_rows state_checks
  state-checked =
      decide-append (Ok tt) (state_header_rows b) _
      ∙ (rw (head-checked, m.count, behind-head r)
      (decide-append (decide (Ok tt) (head_checks r.flags n)) (original_entries_rows n (entries_bytes r.entries) 0) _
      ∙ (rw (entries-checked r.entries y.entries k (decide (Ok tt) (head_checks r.flags n)) 0) (end-checked _)
      ∙ sym (decide-append (decide (Ok tt) (head_checks r.flags n)) (entries_checks r.entries 0) _)))
      ∙ sym (decide-append (Ok tt) (head_checks r.flags n) _))

  pub written-checked : decide (Ok tt) (written_rows r) ≡ decide (Ok tt) (written_checks r.flags r.spend r.rotate r.recovery r.since r.entries)
  unfolding written_rows written_checks
  written-checked =
      decide-append (Ok tt) (original_state_rows b) _
      ∙ (rw state-checked (sym (decide-append (Ok tt) (state_checks r.flags r.spend r.rotate r.recovery r.since r.entries) _)))

-- a head that passes says how many entries there are
pub head-limit : (flags count : ℕ) → decide (Ok tt) (head_checks flags count) ≡ Ok tt → count ≤ 16
unfolding head_checks
head-limit flags count h = leb-true count 16 (passed-all-pass _ h).1.1.0

-- for the check's own search
pub ruleset checking = (decide-both, decide-failed, head-limit)
