-- 01: "an answer buffer of 148,992 bytes (enough for any)": with that many bytes the walk over the proofs of a witness lock, of at
-- most 131,072 bytes and 16 proofs, never gives 5. A request has 96 bytes, the proof, which stands in the witness lock, and the aux
-- of an entry of the current state; the proofs' slots rise, so no entry's aux comes twice.
-- Assumes nothing.
use Rattle.std.specs.Prelude.{Err, Ok}
use mathlib.Core.Path.{◌≡◌, refl}
use mathlib.Core.Logic.{◌≢◌}
use mathlib.Core.Bool.{Bool, true, false, cond}
use mathlib.Core.List.{List, [], ◌∷◌, ◌++◌}
use Prim.Native.Nat.{ℕ, zero, suc, ◌+◌, ◌*◌, ◌-◌, ◌≤◌}
use native.Mathlib.Omega.{arith}
use lib.Dec.{eqb, leb}
use lib.ListN.{length, drop, length-append, length-take, length-drop}
use borrow.Author.Tests.{leb-true, leb-false, eqb-true, le-leb, lt-leb}
use Rattle.octets.specs.Lists.{Rising}
use Rattle.octets.proofs.Arrays.{length-array}
use Rattle.protocol.specs.Errors.{error_number}
use Rattle.protocol.specs.Rows.{Row, decide, AllPass, check_number, Check}
use Rattle.protocol.specs.declared.error.ProtocolError.TheVariants.{BufferTooShort, VerifierFailure}
use Rattle.protocol.proofs.AllPass.{passed-all-pass, all-pass-split}
use Rattle.protocol.proofs.Each.{EachFailing, Refuses, failing-refuses}
use Rattle.account_state.specs.Fields.{aux_length_of, entry_count_of, entry_length_of, key_length_of, entry_slot_of}
use Rattle.account_state.specs.Reading.{EntryReading, entry_of, entries_of}
use Rattle.account_state.specs.State as state
use Rattle.quorum.specs.Slots.{no_entry, entry_for}
use Rattle.account_witness.specs.Fields.{proof_count_of, proof_length_at}
use Rattle.account_witness.specs.Reading.{ProofReading, proof_given, proof_slots}
use Rattle.account_witness.specs.Walk as witness
use Rattle.account_witness.proofs.WalkLaws.{proof-holds}
use Rattle.verifier_request.specs.Fields.{request_size}
use Rattle.verifier_request.specs.Writer.{request_total}
use Rattle.verifier_request.proofs.Form.{length-request}
use Rattle.protocol.specs.Limits.{answer_buffer_length}
use Rattle.decision.specs.Proofs.{Context, request_limit_rows, authenticator_rows, proof_rows, request_content, request_of, requests_of}
use Rattle.decision.specs.Walk.{WalkOutcome, walk_outcome, verdict, approved_weight, last_rows, unless_failed, walk_from, proofs_until_fault, walk_list, walk_lock}
use Rattle.decision.proofs.Listed.{listed-stops, listed-goes, listed-rising, ListBehind}

-- ---- what the requests of a list of proofs need

-- the bytes of the proofs
abbrev pub proofs_length : List ProofReading → ℕ
proofs_length [] = 0
proofs_length (p ∷ ps) = length p.bytes + proofs_length ps

-- the aux of the entries whose slots are at least `least`
abbrev pub aux_from : ℕ → List EntryReading → ℕ
aux_from least [] = 0
aux_from least (e ∷ es) = cond (leb least e.slot) (length e.aux) 0 + aux_from least es

-- an entry counts from a lower slot on where it counts from a higher one on
counted-less : (k l slot aux : ℕ) → k ≤ l → cond (leb l slot) aux 0 ≤ cond (leb k slot) aux 0
counted-less k l slot aux h = go (leb l slot) refl
  where
    go : (b : Bool) → leb l slot ≡ b → cond b aux 0 ≤ cond (leb k slot) aux 0
    go true q = let z = leb-true l slot q in rw (le-leb k slot (omega arith)) (omega arith)
    go false q = omega arith

-- no more aux from a higher slot on
aux-less : (k l : ℕ) (es : List EntryReading) → k ≤ l → aux_from l es ≤ aux_from k es
aux-less k l [] h = omega arith
aux-less k l (e ∷ es) h =
    let a = counted-less k l e.slot (length e.aux) h in
    let b = aux-less k l es h in
    omega arith

-- the entry of a slot, and those of higher slots, are among the entries from that slot on
aux-named : (s : ℕ) (es : List EntryReading) → length (entry_for s es).aux + aux_from (s + 1) es ≤ aux_from s es
unfolding entry_for no_entry
aux-named s [] = omega arith
aux-named s (e ∷ es) = go (eqb e.slot s) refl (aux-named s es)
  where
    go : (b : Bool) → eqb e.slot s ≡ b → length (entry_for s es).aux + aux_from (s + 1) es ≤ aux_from s es
        → length (cond b e (entry_for s es)).aux + aux_from (s + 1) (e ∷ es) ≤ aux_from s (e ∷ es)
    go true q later =
        let z = eqb-true e.slot s q in
        let here : leb s e.slot ≡ true = le-leb s e.slot (omega arith) in
        let above : leb (s + 1) e.slot ≡ false = lt-leb (s + 1) e.slot (omega arith) in
        let m = aux-less s (s + 1) es (omega arith) in
        rw (here, above) (omega arith)
    go false q later =
        let a = counted-less s (s + 1) e.slot (length e.aux) (omega arith) in
        omega arith

module _ (c : Context) (d : length c.digest ≡ 32) where
  -- a request is 96 bytes, then aux and proof
  request-length : (p : ProofReading) → length (request_of c p) ≡ request_size (length (entry_for p.slot c.entries).aux) (length p.bytes)
  unfolding request_of request_content request_total
  request-length p =
      length-request (request_content c.operation c.digest (entry_for p.slot c.entries) p)
      (record { digest = d; key = length-array 32 (entry_for p.slot c.entries).key })

  -- the requests of proofs whose slots rise: 96 bytes each, their proofs, and the aux of distinct entries
  pub requests-length : (ps : List ProofReading) (least : ℕ) → Rising least (proof_slots ps)
      → length (requests_of c ps) ≤ 96 * length ps + aux_from least c.entries + proofs_length ps
  unfolding requests_of
  requests-length [] least r = omega arith
  requests-length (p ∷ ps) least r =
      let n = length-append (request_of c p) (requests_of c ps) in
      let k = request-length p in
      let rest = requests-length ps (p.slot + 1) r.1 in
      let a = aux-named p.slot c.entries in
      let b = aux-less least p.slot c.entries r.0 in
      omega arith

-- ---- a buffer with room for all requests is not too short

-- where no row that can fail first has the number n, what is found has not
without-found : (n : ℕ) (rs : List Row) → 0 ≢ n → EachFailing (λ e. error_number e ≢ n) rs → check_number (decide (Ok tt) rs) ≢ n
without-found n rs z w = go (decide (Ok tt) rs) (failing-refuses (λ e. error_number e ≢ n) rs w)
  where
    go : (k : Check) → Refuses (λ e. error_number e ≢ n) k → check_number k ≢ n
    go (Ok _) h = z
    go (Err e) h = h

-- a request that has room is not refused with 5
room-kept : (size left : ℕ) → size ≤ left → leb size left ≡ false → error_number BufferTooShort ≢ 5
room-kept size left h q = absurd (let z = leb-false size left q in omega arith)

-- so its proof's rows find another number, or nothing
rows-room : (c : Context) (used : ℕ) (p : ProofReading)
    → request_size (length (entry_for p.slot c.entries).aux) (length p.bytes) ≤ c.room - used
    → check_number (decide (Ok tt) (proof_rows c used p)) ≢ 5
unfolding proof_rows authenticator_rows request_limit_rows
rows-room c used p h =
    let size = request_size (length (entry_for p.slot c.entries).aux) (length p.bytes) in
    without-found 5 (proof_rows c used p) (λ z. omega arith)
    (λ _ z. omega arith, λ _. (λ _ z. omega arith, λ _. (λ _ z. omega arith, λ _. (λ _ z. omega arith, λ _. (λ _ z. omega arith, λ _. (λ _ z. omega arith, λ _. (room-kept size (c.room - used) h, λ _. tt)))))))

-- nor does a turn, where neither its rows nor what comes after them do
turn-room : (k : Check) (i : ℕ) (made : List ℕ) (onward : WalkOutcome) → check_number k ≢ 5 → check_number onward.found ≢ 5
    → check_number (unless_failed k i made onward).found ≢ 5
unfolding unless_failed
turn-room (Ok _) i made onward k o = o
turn-room (Err e) i made onward k o = k

-- what follows the proofs is 22, 28 or nothing
end-room : (clean : Bool) (weight threshold : ℕ) → check_number (decide (Ok tt) (last_rows clean weight threshold)) ≢ 5
unfolding last_rows
end-room clean weight threshold =
    without-found 5 (last_rows clean weight threshold) (λ z. omega arith) (λ _ z. omega arith, λ _. (λ _ z. omega arith, λ _. (λ _ z. omega arith, λ _. tt)))

-- a walk whose buffer has room for the requests of all proofs that are left never gives 5
pub walk-room : (c : Context) → length c.digest ≡ 32 → (clean : Bool) (i weight : ℕ) (made : List ℕ) (ps : List ProofReading)
    → length made + length (requests_of c ps) ≤ c.room → check_number (walk_from c clean i weight made ps).found ≢ 5
unfolding walk_from requests_of
walk-room c d clean i weight made [] h = end-room clean weight c.threshold
walk-room c d clean i weight made (p ∷ ps) h =
    let n = length-append (request_of c p) (requests_of c ps) in
    let m = length-append made (request_of c p) in
    let k = request-length c d p in
    turn-room (decide (Ok tt) (proof_rows c (length made) p)) i made _
    (rows-room c (length made) p (omega arith))
    (go (eqb (verdict c i) 2) _ (walk-room c d clean (i + 1) (weight + approved_weight c i p) (made ++ request_of c p) ps (omega arith)))
  where
    go : (b : Bool) (o : WalkOutcome) → check_number o.found ≢ 5
        → check_number (cond b (walk_outcome (Err VerifierFailure) (i + 1) (made ++ request_of c p)) o).found ≢ 5
    go true o h = λ z. omega arith
    go false o h = h

-- ---- what the proofs of a witness lock and the entries of a state hold

module _ (lock : List ℕ) where
  -- no more proofs are listed than the lock counts
  pub listed-few : (n at least : ℕ) → length (proofs_until_fault lock n at least).proofs ≤ n
  unfolding proofs_until_fault
  listed-few zero at least = omega arith
  listed-few (suc n) at least = go (decide (Ok tt) (witness.proof_layout_rows lock at least)) refl (listed-few n _ _)
    where
      go : (k : Check) → decide (Ok tt) (witness.proof_layout_rows lock at least) ≡ k → length (ListBehind lock n at least).proofs ≤ n
          → length (proofs_until_fault lock (suc n) at least).proofs ≤ suc n
      go (Ok _) h rest = rw (listed-goes lock n at least h) (omega arith)
      go (Err e) h rest = rw (listed-stops lock n at least e h) (omega arith)

  -- their bytes stand in the lock behind the offset where they begin
  pub listed-length : (n at least : ℕ) → proofs_length (proofs_until_fault lock n at least).proofs ≤ length lock - at
  unfolding proofs_until_fault proof_given witness.proof_at
  listed-length zero at least = omega arith
  listed-length (suc n) at least = go (decide (Ok tt) (witness.proof_layout_rows lock at least)) refl (listed-length n _ _)
    where
      go : (k : Check) → decide (Ok tt) (witness.proof_layout_rows lock at least) ≡ k
          → proofs_length (ListBehind lock n at least).proofs ≤ length lock - (at + 8 + proof_length_at lock at)
          → proofs_length (proofs_until_fault lock (suc n) at least).proofs ≤ length lock - at
      go (Ok _) h rest =
          let z = (proof-holds lock at least (passed-all-pass (witness.proof_layout_rows lock at least) h)).inside in
          let t = length-take (proof_length_at lock at) (drop (at + 8) lock) in
          rw (listed-goes lock n at least h) (omega arith)
      go (Err e) h rest = rw (listed-stops lock n at least e h) (omega arith)

-- the aux of entries whose rows pass stands in their bytes
entries-aux : (n : ℕ) (e : List ℕ) (least : ℕ) → AllPass (state.entries_rows n e least) → aux_from 0 (entries_of n e) ≤ length e
unfolding entries_of entry_of state.entries_rows state.entry_rows state.original_entry_rows state.entry_layout_rows
entries-aux zero e least h = omega arith
entries-aux (suc n) e least h =
    let z = all-pass-split (state.entry_rows e least) _ h in
    let sum = eqb-true (entry_length_of e) _ z.0.1.0 in
    let inside = leb-true (entry_length_of e) (length e) z.0.1.1.0 in
    let rest = entries-aux n (drop (entry_length_of e) e) _ z.1 in
    let d = length-drop (entry_length_of e) e in
    let t = length-take (aux_length_of e) (drop (48 + key_length_of e) e) in
    rw (le-leb 0 (entry_slot_of e) (omega arith)) (omega arith)

-- the rows of a state: its header's, and those of its entries
state-rows : (s : List ℕ) → AllPass (state.state_rows s) → AllPass (state.state_header_rows s) × AllPass (state.entries_rows (entry_count_of s) (drop 32 s) 0)
unfolding state.state_rows
state-rows s h =
    let z = all-pass-split (state.state_header_rows s) _ h in
    (z.0, (all-pass-split (state.entries_rows (entry_count_of s) (drop 32 s) 0) _ z.1).0)

-- a state whose rows pass has at most 16,384 bytes, and so has the aux of its entries
pub state-aux : (s : List ℕ) → AllPass (state.state_rows s) → aux_from 0 (entries_of (entry_count_of s) (drop 32 s)) ≤ 16384
unfolding state.state_header_rows
state-aux s h =
    let z = state-rows s h in
    let short = leb-true (length s) 16384 z.0.1.0 in
    let a = entries-aux (entry_count_of s) (drop 32 s) 0 z.1 in
    let d = length-drop 32 s in
    omega arith

-- 96 · 16 + 16,384 + 131,072 = 148,992
pub witness-room : (c : Context) (lock : List ℕ) → length c.digest ≡ 32 → aux_from 0 c.entries ≤ 16384
    → length lock ≤ 131072 → proof_count_of lock ≤ 16 → answer_buffer_length ≤ c.room → check_number (walk_lock c lock).found ≢ 5
unfolding walk_lock walk_list
witness-room c lock d a l n r =
    let ps = (proofs_until_fault lock (proof_count_of lock) 16 0).proofs in
    let requests = requests-length c d ps 0 (listed-rising lock (proof_count_of lock) 16 0) in
    let few = listed-few lock (proof_count_of lock) 16 0 in
    let bytes = listed-length lock (proof_count_of lock) 16 0 in
    walk-room c d (proofs_until_fault lock (proof_count_of lock) 16 0).clean 0 0 [] ps (omega arith)
