-- Each request that is made is accepted by the request reader, and is read as what it was made from.
-- Assumes nothing.
use mathlib.Core.Path.{◌≡◌, refl}
use mathlib.Core.Bool.{Bool, true, false, cond}
use mathlib.Core.List.{List, [], ◌∷◌}
use Prim.Native.Nat.{ℕ, zero, suc, ◌+◌, ◌-◌, ◌^◌, ◌<◌}
use native.Mathlib.Omega.{arith}
use lib.Dec.{eqb}
use lib.ListN.{length, drop}
use borrow.Author.Tests.{eqb-true}
use Rattle.octets.specs.Le.{Bytes}
use Rattle.octets.proofs.Arrays.{array_whole}
use Rattle.octets.proofs.LeLaws.{bytes_drop, bytes_take}
use Rattle.protocol.specs.Policy.{is_operation, capability_for}
use Rattle.protocol.specs.Rows.{AllPass}
use Rattle.account_state.specs.Fields.{aux_length_of, entry_count_of, entry_length_of, key_length_of}
use Rattle.account_state.specs.Reading.{EntryReading, entry_of, entries_of, state_reading, EntriesTyped}
use Rattle.account_state.specs.State.{state_rows}
use Rattle.account_state.proofs.Inverse.{Keys, state-typed, state-keys}
use Rattle.quorum.specs.Slots.{known_slot, entry_for}
use Rattle.quorum.specs.Operation.{has_bit, capable}
use Rattle.account_witness.specs.Reading.{ProofReading, witness_proofs}
use Rattle.verifier_request.specs.Reading.{RequestTyped}
use Rattle.verifier_request.specs.Writer as writer
use Rattle.verifier_request.proofs.RequestTheorem.{request-accepted}
use Rattle.scene_table.specs.Scene.{Cell}
use Rattle.decision.specs.Proofs.{Context, context_for, request_limit_rows, authenticator_rows, proof_rows, request_content, request_of}
use Rattle.decision.specs.Requests.{EntryFits, EntriesFit, ContextFits, RequestRead, RequestsRead}
use Rattle.decision.specs.Decision.{EachPasses, ProofsPass}

-- the entries of an accepted state fit
entries_fit : (n : ℕ) (e : List ℕ) → Bytes e → EntriesTyped (entries_of n e) → Keys (entries_of n e) → EntriesFit (entries_of n e)
unfolding entries_of entry_of
entries_fit zero e b t k = tt
entries_fit (suc n) e b t k =
    let a = bytes_take (aux_length_of e) (drop (48 + key_length_of e) e) (bytes_drop (48 + key_length_of e) e b) in
    (record { typed = t.0; key = k.0; aux = a }, entries_fit n (drop (entry_length_of e) e) (bytes_drop (entry_length_of e) e b) t.1 k.1)

-- an accepted state and a digest of 32 bytes settle so
pub state-context-fits : (state : List ℕ) (deps : List Cell) (digits : List ℕ) (operation : ℕ) (digest : List ℕ) (room : ℕ) → Bytes state
    → AllPass (state_rows state) → length digest ≡ 32 → ContextFits (context_for state deps digits operation digest room)
unfolding context_for state_reading
state-context-fits state deps digits operation digest room b h l =
    record {
      entries = entries_fit (entry_count_of state) (drop 32 state) (bytes_drop 32 state b) (state-typed state b h).entries (state-keys state b h);
      digest = l;
    }

-- the entry of a known slot is one of them
known-fits : (slot : ℕ) (es : List EntryReading) → EntriesFit es → known_slot slot es ≡ true
    → EntryFits (entry_for slot es) × ((entry_for slot es).slot ≡ slot)
unfolding known_slot entry_for
known-fits slot [] f h = absurd (let z : ◌≡◌ {A = ℕ} 0 1 = cc in omega arith)
known-fits slot (e ∷ es) f h = go (eqb e.slot slot) refl h (known-fits slot es f.1)
  where
    go : (b : Bool) → eqb e.slot slot ≡ b → cond b true (known_slot slot es) ≡ true
        → (known_slot slot es ≡ true → EntryFits (entry_for slot es) × ((entry_for slot es).slot ≡ slot))
        → EntryFits (cond b e (entry_for slot es)) × ((cond b e (entry_for slot es)).slot ≡ slot)
    go true q h later = (f.0, eqb-true e.slot slot q)
    go false q h later = later h

-- only the operations 1 to 3 have a capability
capable-operation : (o capabilities : ℕ) → capable o capabilities ≡ true → (is_operation o ≡ true) × (o < 2 ^ 8)
unfolding capable has_bit capability_for is_operation
capable-operation o capabilities h = go (eqb o 1) (eqb o 2) (eqb o 3) refl refl refl
  where
    go : (a b c : Bool) → eqb o 1 ≡ a → eqb o 2 ≡ b → eqb o 3 ≡ c → (is_operation o ≡ true) × (o < 2 ^ 8)
    go true b c p q r = let e = eqb-true o 1 p in (rw p, omega arith)
    go false true c p q r = let e = eqb-true o 2 q in (rw (p, q), omega arith)
    go false false true p q r = let e = eqb-true o 3 r in (rw (p, q, r), omega arith)
    go false false false p q r = absurd (let z = rw (p, q, r) at h in let y : ◌≡◌ {A = ℕ} 0 1 = cc in omega arith)

-- the request of an entry whose rows pass is within the limits of the request writer
pub request-limits : (operation : ℕ) (digest : List ℕ) (deps : List Cell) (e : EntryReading) (p : ProofReading) (left : ℕ)
    → AllPass (authenticator_rows operation deps e (length p.bytes) left) → AllPass (writer.request_writer_rows (request_content operation digest e p))
unfolding authenticator_rows request_limit_rows request_content writer.request_writer_rows writer.request_writer_limit_rows
request-limits operation digest deps e p left h =
    ((capable-operation operation e.capabilities h.0).0, (h.1.1.1.1.0, (h.1.1.0, tt)))

-- a proof whose rows pass has a request that is read so
pub request-read : (c : Context) (used : ℕ) (p : ProofReading) → ContextFits c → AllPass (proof_rows c used p) → RequestRead c p
unfolding proof_rows authenticator_rows request_of request_content
request-read c used p f h =
    let e = entry_for p.slot c.entries in
    let r = request_content c.operation c.digest e p in
    let z = known-fits p.slot c.entries f.entries h.0 in
    let o = capable-operation c.operation e.capabilities h.1.0 in
    let slot : p.slot < 2 ^ 16 = rw z.1 at z.0.typed.slot in
    let t : RequestTyped r = record {
      algorithm = z.0.typed.algorithm;
      slot = slot;
      operation = o.1;
      profile = z.0.aux 0;
      digest = f.digest;
      key = rw (array_whole 32 (entry_for p.slot c.entries).key z.0.key) z.0.key;
    } in
    let y = request-accepted r t (request-limits c.operation c.digest c.deps e p (c.room - used) h.1) in
    record { accepted = y.0; reading = y.1; key = array_whole 32 e.key z.0.key }

-- where each proof's rows pass, each one's request is
pub requests-read : (c : Context) (i used : ℕ) (ps : List ProofReading) → ContextFits c → EachPasses c i used ps → RequestsRead c ps
requests-read c i used [] f pass = tt
requests-read c i used (p ∷ ps) f pass = (request-read c used p f pass.0, requests-read c (i + 1) (used + length (request_of c p)) ps f pass.2)

-- so all requests of a witness lock whose proofs pass
pub witness-requests-read : (c : Context) (lock : List ℕ) → ContextFits c → ProofsPass c lock → RequestsRead c (witness_proofs lock)
witness-requests-read c lock f h = requests-read c 0 0 (witness_proofs lock) f h.each
