-- 02, change 10: "States with flag 2 or capability 0x0008 are still read": an accepted state to which they are added is accepted, with
-- the sequence, the thresholds and the weights for spend, rotate and recovery that it had.
-- Assumes nothing.
use mathlib.Core.Path.{◌≡◌, refl, sym, ap, ◌∙◌}
use mathlib.Core.Bool.{Bool, true, false, cond}
use mathlib.Core.List.{List, [], ◌∷◌, ◌++◌}
use Prim.Native.Nat.{ℕ, zero, suc, ◌+◌, ◌/◌, ◌%◌, ◌^◌, ◌≤◌, ◌<◌}
use native.Mathlib.Omega.{arith}
use borrow.Author.Tests.{leb-true, le-leb, eq-eqb, eqb-false}
use lib.Dec.{lit<, leb, eqb}
use lib.ListN.{length, take, drop, length-append}
use Rattle.octets.specs.Le.{Bytes}
use Rattle.octets.specs.Layout.{layout_bytes, layout_at, field_value}
use Rattle.octets.proofs.LayoutLaws.{length-numbers, layout-bytes}
use Rattle.octets.proofs.LeLaws.{bytes_take, bytes_drop, bytes-append}
use Rattle.protocol.specs.Policy.{has_capability}
use Rattle.protocol.specs.Rows.{Row, row, AllPass}
use Rattle.protocol.specs.declared.error.ProtocolError.TheVariants.{InvalidState}
use Rattle.protocol.proofs.AllPass.{all-pass-append, all-pass-split}
use Rattle.account_state.specs.Fields.{state_flags_known_mask, cap_known_mask, recovery_enabled, session_enabled, flags_of, entry_count_of, entry_bytes_of, entry_length_of, entry_slot_of, algorithm_of, capabilities_of, weight_of, hash_type_of, abi_of, key_length_of, aux_length_of}
use Rattle.account_state.specs.Reading.{EntryReading, StateReading, EntryTyped, EntriesTyped, StateTyped, entry_size, entry_head_fields, entry_length_fields, entry_bytes, entries_bytes, state_header_fields, state_head, state_bytes, entry_of, entries_of, state_reading, capable_share, capable_weight}
use Rattle.account_state.specs.State.{state_header_rows, entry_layout_rows, entry_field_rows, original_entry_rows, aux_limit_row, entry_rows, entries_rows, recovery_threshold_rows, threshold_rows, summary_of, state_end_rows, state_tail_rows, state_rows}
use Rattle.account_state.specs.Session.{with_session_flag, with_session_issue, with_capabilities, issuing_entries, session_added}
use Rattle.account_state.specs.declared.walk.StateSummary.{StateSummary}
use Rattle.account_state.proofs.Inverse.{state-back, state-typed}
use Rattle.account_state.proofs.Unique.{HeaderRead, length-entry-bytes, lengths_read, size-read, entry_read, rest_read, slot_read, entries-read, entries-behind, state-header-read, behind-head, state-read}

-- ---- the flags

-- the flags stay within the mask,
flag-within : (flag : Bool) (f : ℕ) → f ≤ state_flags_known_mask → with_session_flag flag f ≤ state_flags_known_mask
unfolding with_session_flag
flag-within false f h = h
flag-within true f h = go (session_enabled f) refl
  where
    go : (b : Bool) → session_enabled f ≡ b → cond b f (f + 2) ≤ state_flags_known_mask
    go true e = h
    go false e = omega (arith, eqb-false (f / 2 % 2) 1 e)

-- and within their byte
flag-typed : (flag : Bool) (f : ℕ) → f < 2 ^ 8 → with_session_flag flag f < 2 ^ 8
unfolding with_session_flag
flag-typed false f h = h
flag-typed true f h = go (session_enabled f) refl
  where
    go : (b : Bool) → session_enabled f ≡ b → cond b f (f + 2) < 2 ^ 8
    go true e = h
    go false e = omega (arith, eqb-false (f / 2 % 2) 1 e)

-- recovery is on or off as before
pub flag-recovery : (flag : Bool) (f : ℕ) → recovery_enabled (with_session_flag flag f) ≡ recovery_enabled f
unfolding with_session_flag
flag-recovery false f = refl
flag-recovery true f = go (session_enabled f)
  where
    go : (b : Bool) → recovery_enabled (cond b f (f + 2)) ≡ recovery_enabled f
    go true = refl
    go false = let e : (f + 2) / 1 % 2 ≡ f / 1 % 2 = omega arith in rw e

-- ---- the capabilities

-- they stay within the mask,
issue-within : (issues : Bool) (c : ℕ) → c ≤ cap_known_mask → with_session_issue issues c ≤ cap_known_mask
unfolding with_session_issue has_capability
issue-within false c h = h
issue-within true c h = go (eqb (c / 8 % 2) 1) refl
  where
    go : (b : Bool) → eqb (c / 8 % 2) 1 ≡ b → cond b c (c + 8) ≤ cap_known_mask
    go true e = h
    go false e = omega (arith, eqb-false (c / 8 % 2) 1 e)

-- and within their two bytes
issue-typed : (issues : Bool) (c : ℕ) → c < 2 ^ 16 → with_session_issue issues c < 2 ^ 16
unfolding with_session_issue has_capability
issue-typed false c h = h
issue-typed true c h = go (eqb (c / 8 % 2) 1) refl
  where
    go : (b : Bool) → eqb (c / 8 % 2) 1 ≡ b → cond b c (c + 8) < 2 ^ 16
    go true e = h
    go false e = omega (arith, eqb-false (c / 8 % 2) 1 e)

-- a bit that 8 is an even multiple of is as before
bit_kept : (bit : ℕ) → ((c : ℕ) → (c + 8) / bit % 2 ≡ c / bit % 2) → (issues : Bool) (c : ℕ)
    → has_capability (with_session_issue issues c) bit ≡ has_capability c bit
unfolding with_session_issue has_capability
bit_kept bit e false c = refl
bit_kept bit e true c = go (eqb (c / 8 % 2) 1)
  where
    go : (b : Bool) → eqb (cond b c (c + 8) / bit % 2) 1 ≡ eqb (c / bit % 2) 1
    go true = refl
    go false = rw (e c)

-- so the weights of the holders of such a bit are
weight-kept : (bit : ℕ) → ((c : ℕ) → (c + 8) / bit % 2 ≡ c / bit % 2) → (issues : ℕ → Bool) (es : List EntryReading)
    → capable_weight bit (issuing_entries issues es) ≡ capable_weight bit es
unfolding capable_weight issuing_entries with_capabilities capable_share
weight-kept bit e issues [] = refl
weight-kept bit e issues (x ∷ xs) = rw (bit_kept bit e (issues x.slot) x.capabilities, weight-kept bit e issues xs)

-- the weights for spend, rotate and recovery are as before
pub issuing-weights : (issues : ℕ → Bool) (es : List EntryReading) → summary_of (issuing_entries issues es) ≡ summary_of es
unfolding summary_of
issuing-weights issues es =
    rw (weight-kept 1 (λ c. omega arith) issues es, weight-kept 2 (λ c. omega arith) issues es, weight-kept 4 (λ c. omega arith) issues es)

-- ---- an entry

-- the rows of an entry that is laid out, by what it says and by the length n of what follows it
said_rows : EntryReading → ℕ → ℕ → List Row
said_rows e n least =
    row (leb 48 (entry_size e + n)) InvalidState
    ∷ row (eqb (entry_size e) (48 + length e.key + length e.aux)) InvalidState
    ∷ row (leb (entry_size e) (entry_size e + n)) InvalidState
    ∷ row (leb least e.slot) InvalidState
    ∷ (entry_field_rows
    (record {
      algorithm_id = e.algorithm;
      capabilities = e.capabilities;
      weight = e.weight;
      verifier_hash_type = e.hash_type;
      verifier_abi = e.abi;
      key_len = length e.key;
      aux_len = length e.aux;
    })
    ++ (aux_limit_row (length e.aux) ∷ []))

entry-said : (e : EntryReading) (t : List ℕ) (least : ℕ) → EntryTyped e → entry_rows (entry_bytes e ++ t) least ≡ said_rows e (length t) least
unfolding entry_rows original_entry_rows entry_layout_rows entry_field_rows entry_of entry_length_fields layout_at said_rows
entry-said e t least y =
    let s = entry_bytes e ++ t in
    let r = entry_read e t s y refl in
    let m : key_length_of s ≡ length e.key = ap (field_value 0) (lengths_read e t s y refl) in
    let a : aux_length_of s ≡ length e.aux = ap (field_value 1) (lengths_read e t s y refl) in
    let z : entry_length_of s ≡ entry_size e = size-read e t s y refl ∙ length-entry-bytes e y.code_hash in
    let l : length s ≡ entry_size e + length t = length-append (entry_bytes e) t ∙ ap (λ (n : ℕ). n + length t) (length-entry-bytes e y.code_hash) in
    let f₁ : algorithm_of s ≡ e.algorithm = ap (λ (x : EntryReading). x.algorithm) r in
    let f₂ : capabilities_of s ≡ e.capabilities = ap (λ (x : EntryReading). x.capabilities) r in
    let f₃ : weight_of s ≡ e.weight = ap (λ (x : EntryReading). x.weight) r in
    let f₄ : hash_type_of s ≡ e.hash_type = ap (λ (x : EntryReading). x.hash_type) r in
    let f₅ : abi_of s ≡ e.abi = ap (λ (x : EntryReading). x.abi) r in
    rw (l, z, m, a, slot_read e t y, f₁, f₂, f₃, f₄, f₅)

-- they pass with 0x0008 where they pass without
said-kept : (issues : Bool) (e : EntryReading) (n least : ℕ) → AllPass (said_rows e n least)
    → AllPass (said_rows (with_capabilities (with_session_issue issues e.capabilities) e) n least)
unfolding said_rows with_capabilities entry_field_rows
said-kept issues e n least h =
    let f = h.1.1.1.1 in
    let c : e.capabilities ≤ cap_known_mask = leb-true e.capabilities cap_known_mask f.1.0 in (
      h.0,
      (h.1.0, (h.1.1.0, (h.1.1.1.0, (f.0, (le-leb _ cap_known_mask (issue-within issues e.capabilities c), f.1.1))))),
    )

entry-typed : (c : ℕ) (e : EntryReading) → c < 2 ^ 16 → EntryTyped e → EntryTyped (with_capabilities c e)
unfolding with_capabilities
entry-typed c e h y =
    record {
      slot = y.slot;
      algorithm = y.algorithm;
      capabilities = h;
      weight = y.weight;
      hash_type = y.hash_type;
      abi = y.abi;
      code_hash = y.code_hash;
      size = y.size;
    }

-- ---- the entries

-- an entry with 0x0008 keeps its slot
slot_of : (issues : ℕ → Bool) (e : EntryReading) (t : List ℕ)
    → EntryTyped (with_capabilities (with_session_issue (issues e.slot) e.capabilities) e)
    → entry_slot_of (entry_bytes (with_capabilities (with_session_issue (issues e.slot) e.capabilities) e) ++ t) ≡ e.slot
unfolding with_capabilities
slot_of issues e t z = slot_read _ t z

module _ (issues : ℕ → Bool) where
  length-issuing : (es : List EntryReading) → length (issuing_entries issues es) ≡ length es
  unfolding issuing_entries
  length-issuing [] = refl
  length-issuing (e ∷ es) = ap suc (length-issuing es)

  entries-typed : (es : List EntryReading) → EntriesTyped es → EntriesTyped (issuing_entries issues es)
  unfolding issuing_entries
  entries-typed [] y = tt
  entries-typed (e ∷ es) y =
      (entry-typed _ e (issue-typed (issues e.slot) e.capabilities y.0.capabilities) y.0, entries-typed es y.1)

  length-kept : (es : List EntryReading) → EntriesTyped es → length (entries_bytes (issuing_entries issues es)) ≡ length (entries_bytes es)
  unfolding issuing_entries entries_bytes with_capabilities
  length-kept [] y = refl
  length-kept (e ∷ es) y =
      let i = with_capabilities (with_session_issue (issues e.slot) e.capabilities) e in
      let n : length (entry_bytes i) ≡ length (entry_bytes e) = length-entry-bytes i y.0.code_hash ∙ sym (length-entry-bytes e y.0.code_hash) in
      length-append (entry_bytes i) _ ∙ (rw (n, length-kept es y.1) (sym (length-append (entry_bytes e) (entries_bytes es))))

  entries-kept : (es : List EntryReading) (least : ℕ) → EntriesTyped es → AllPass (entries_rows (length es) (entries_bytes es) least)
      → AllPass (entries_rows (length es) (entries_bytes (issuing_entries issues es)) least)
  unfolding issuing_entries entries_bytes entries_rows
  entries-kept [] least y h = tt
  entries-kept (e ∷ es) least y h =
      let c = with_session_issue (issues e.slot) e.capabilities in
      let i = with_capabilities c e in
      let t = entries_bytes es in
      let u = entries_bytes (issuing_entries issues es) in
      let z : EntryTyped i = entry-typed c e (issue-typed (issues e.slot) e.capabilities y.0.capabilities) y.0 in
      let p = all-pass-split (entry_rows (entry_bytes e ++ t) least) _ h in
      let f : AllPass (said_rows e (length t) least) = rw (entry-said e t least y.0) at p.0 in
      let l : AllPass (entries_rows (length es) t (e.slot + 1)) = rw (rest_read e t y.0, slot_read e t y.0) at p.1 in
      all-pass-append (entry_rows (entry_bytes i ++ u) least) _
      (rw (entry-said i u least z, length-kept es y.1) (said-kept (issues e.slot) e (length t) least f))
      (rw (rest_read i u z, slot_of issues e u z) (entries-kept es (e.slot + 1) y.1 l))

  -- entries that are read from bytes are written as bytes
  issuing-bytes : (n : ℕ) (e : List ℕ) → Bytes e → Bytes (entries_bytes (issuing_entries issues (entries_of n e)))
  unfolding issuing_entries entries_bytes entries_of entry_bytes with_capabilities entry_of
  issuing-bytes zero e b = λ i. lit< tt
  issuing-bytes (suc n) e b =
      let x = with_capabilities (with_session_issue (issues (entry_slot_of e)) (capabilities_of e)) (entry_of e) in
      let part : (k at : ℕ) → Bytes (take k (drop at e)) = λ k at. bytes_take k (drop at e) (bytes_drop at e b) in
      let front = layout_bytes (entry_head_fields x) ++ x.code_hash in
      let f : Bytes front = bytes-append (layout_bytes (entry_head_fields x)) x.code_hash (layout-bytes (entry_head_fields x)) (part 32 12) in
      let l = bytes-append front (layout_bytes (entry_length_fields x)) f (layout-bytes (entry_length_fields x)) in
      let k = bytes-append (front ++ layout_bytes (entry_length_fields x)) x.key l (part (key_length_of e) 48) in
      bytes-append (entry_bytes x) _ (bytes-append (front ++ layout_bytes (entry_length_fields x) ++ x.key) x.aux k (part (aux_length_of e) (48 + key_length_of e)))
      (issuing-bytes n (drop (entry_length_of e) e) (bytes_drop (entry_length_of e) e b))

-- ---- the state

thresholds-kept : (flag : Bool) (f spend rotate recovery since : ℕ) (w : StateSummary)
    → threshold_rows (with_session_flag flag f) spend rotate recovery since w ≡ threshold_rows f spend rotate recovery since w
unfolding threshold_rows recovery_threshold_rows
thresholds-kept flag f spend rotate recovery since w = rw (flag-recovery flag f)

length-state : (r : StateReading) → length (state_bytes r) ≡ 32 + length (entries_bytes r.entries)
unfolding state_bytes state_head state_header_fields
length-state r =
    let n : length (layout_bytes (state_head r)) ≡ 32 = length-numbers (state_head r) in
    length-append (layout_bytes (state_head r)) (entries_bytes r.entries) ∙ ap (λ (k : ℕ). k + length (entries_bytes r.entries)) n

-- the rows after the last entry, by what the state says
tail-said : (r : StateReading) → StateTyped r
    → state_tail_rows (state_bytes r) (entry_count_of (state_bytes r)) (entry_bytes_of (state_bytes r))
    ≡ row (eqb 0 0) InvalidState ∷ threshold_rows r.flags r.spend r.rotate r.recovery r.since (summary_of r.entries)
unfolding state_tail_rows state_end_rows
tail-said r y =
    let m = state-header-read r y in
    rw (m.count, behind-head r, entries-behind r.entries y.entries, entries-read r.entries y.entries, m.flags, m.spend, m.rotate, m.recovery, m.since)

module _ (r : StateReading) (y : StateTyped r) (h : AllPass (state_rows (state_bytes r))) (flag : Bool) (issues : ℕ → Bool) where
  abbrev t : StateReading
  t = session_added flag issues r

  added-typed : StateTyped t
  unfolding session_added
  added-typed =
      record {
        numbers = record {
          flags = flag-typed flag r.flags y.numbers.flags;
          sequence = y.numbers.sequence;
          spend = y.numbers.spend;
          rotate = y.numbers.rotate;
          recovery = y.numbers.recovery;
          since = y.numbers.since;
        };
        count = rw (length-issuing issues r.entries) y.count;
        entries = entries-typed issues r.entries y.entries;
      }

  size-kept : length (state_bytes t) ≡ length (state_bytes r)
  unfolding session_added
  size-kept = length-state t ∙ (ap (32 +◌) (length-kept issues r.entries y.entries) ∙ sym (length-state r))

  abbrev before : HeaderRead r
  before = state-header-read r y

  abbrev after : HeaderRead t
  after = state-header-read t added-typed

  count_kept : entry_count_of (state_bytes t) ≡ length r.entries
  unfolding session_added
  count_kept = after.count ∙ length-issuing issues r.entries

  -- header, entries and what follows them
  parts : AllPass (state_header_rows (state_bytes r))
      × AllPass (entries_rows (entry_count_of (state_bytes r)) (entry_bytes_of (state_bytes r)) 0)
      × AllPass (state_tail_rows (state_bytes r) (entry_count_of (state_bytes r)) (entry_bytes_of (state_bytes r)))
  unfolding state_rows
  parts =
      let p = all-pass-split (state_header_rows (state_bytes r)) _ h in
      let q = all-pass-split (entries_rows (entry_count_of (state_bytes r)) (entry_bytes_of (state_bytes r)) 0) _ p.1 in
      (p.0, q.0, q.1)

  header-kept : AllPass (state_header_rows (state_bytes t))
  unfolding state_header_rows session_added
  header-kept =
      let p = parts.0 in
      let u = after in
      let c : entry_count_of (state_bytes t) ≡ entry_count_of (state_bytes r) = count_kept ∙ sym before.count in
      let f : r.flags ≤ state_flags_known_mask = rw before.flags at (leb-true (flags_of (state_bytes r)) state_flags_known_mask p.1.1.1.1.0) in (
        rw size-kept p.0,
        (rw size-kept p.1.0, (eq-eqb _ _ u.magic, (eq-eqb _ _ u.version, (rw u.flags (le-leb _ _ (flag-within flag r.flags f)), (eq-eqb _ _ u.size, (eq-eqb _ _ u.reserved, (rw c p.1.1.1.1.1.1.1.0, (rw c p.1.1.1.1.1.1.1.1.0, tt)))))))),
      )

  entries-rows : AllPass (entries_rows (entry_count_of (state_bytes t)) (entry_bytes_of (state_bytes t)) 0)
  unfolding session_added
  entries-rows =
      rw (count_kept, behind-head t) (entries-kept issues r.entries 0 y.entries (rw (before.count, behind-head r) at parts.1))

  tail-rows : AllPass (state_tail_rows (state_bytes t) (entry_count_of (state_bytes t)) (entry_bytes_of (state_bytes t)))
  unfolding session_added
  tail-rows =
      rw (tail-said t added-typed, thresholds-kept flag r.flags r.spend r.rotate r.recovery r.since, issuing-weights issues r.entries)
      (rw (tail-said r y) at parts.2)

  added-kept : AllPass (state_rows (state_bytes t))
  unfolding state_rows
  added-kept =
      all-pass-append (state_header_rows (state_bytes t)) _ header-kept
      (all-pass-append (entries_rows (entry_count_of (state_bytes t)) (entry_bytes_of (state_bytes t)) 0) _ entries-rows tail-rows)

module _ (s : List ℕ) (b : Bytes s) (h : AllPass (state_rows s)) (flag : Bool) (issues : ℕ → Bool) where
  -- The theorem: an accepted state with flag 2 set, or with capability 0x0008 added to some of its entries, or with both, is accepted.
  pub session-accepted : AllPass (state_rows (state_bytes (session_added flag issues (state_reading s))))
  session-accepted = added-kept (state_reading s) (state-typed s b h) (rw (state-back s b h) h) flag issues

  -- and reads as the state did, but for what was added
  pub session-read : state_reading (state_bytes (session_added flag issues (state_reading s))) ≡ session_added flag issues (state_reading s)
  session-read =
      state-read (session_added flag issues (state_reading s)) (added-typed (state_reading s) (state-typed s b h) (rw (state-back s b h) h) flag issues)

  -- it is bytes
  pub session-bytes : Bytes (state_bytes (session_added flag issues (state_reading s)))
  unfolding state_bytes session_added state_reading
  session-bytes =
      bytes-append (layout_bytes (state_head (session_added flag issues (state_reading s)))) _ (layout-bytes _)
      (issuing-bytes issues (entry_count_of s) (entry_bytes_of s) (bytes_drop 32 s b))
