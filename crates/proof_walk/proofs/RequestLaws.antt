-- The rows and the request of one proof: by the entry that was found, and how long the request is.
-- Assumes nothing.
use Rattle.std.specs.Prelude.{Ok, Option, is_some}
use mathlib.Core.Path.{◌≡◌, refl, sym, ap, ◌∙◌}
use mathlib.Core.Bool.{Bool}
use mathlib.Core.List.{List, [], ◌∷◌}
use Prim.Native.Nat.{ℕ, suc, ◌≤◌}
use native.Mathlib.Nat.{sub-zero}
use native.Mathlib.Omega.{arith}
use lib.Dec.{eqb}
use lib.ListN.{length}
use borrow.Author.Tests.{ne_eqb, leb-true}
use Rattle.octets.proofs.Arrays.{length-array}
use Rattle.octets.proofs.LeLaws.{number-one}
use Rattle.protocol.specs.Rows.{decide}
use Rattle.protocol.specs.Write.{write_answer, after_write}
use Rattle.protocol.proofs.Back.{write-room}
use Rattle.protocol.proofs.AllPass.{passed-all-pass}
use Rattle.account_state.specs.Fields.{hash_type_of, code_hash_of, weight_of}
use Rattle.account_state.specs.Reading.{EntryReading, entry_of}
use Rattle.quorum.specs.Slots.{entry_for}
use Rattle.quorum.specs.Places.{entry_place, entry_in}
use Rattle.quorum.proofs.PlaceLaws.{place-known, place-entry}
use Rattle.account_witness.specs.Reading.{ProofReading}
use Rattle.verifier_request.specs.Reading.{request_bytes}
use Rattle.verifier_request.specs.Writer.{request_total, request_writer_fault, request_written, request_stored}
use Rattle.verifier_request.proofs.Form.{length-request}
use Rattle.scene_table.specs.Scene.{Cell}
use Rattle.scene_table.specs.Lent.{scene_in}
use Rattle.cell_search.specs.declared.cells.Source.TheVariants.{CellDep}
use Rattle.cell_search.specs.Search.{cells_of, matches, search_of, cell_search, is_one}
use Rattle.decision.specs.Proofs.{context_for, verifier_field, verifiers, request_limit_rows, authenticator_rows, proof_rows, request_content, request_of}
use Rattle.decision.specs.Walk.{answered}
use Rattle.decision.proofs.RequestsRead.{request-limits}
use Rattle.proof_walk.specs.Answer.{scene_deps, walk_context}
use Rattle.proof_walk.specs.Steps.{proof_with, found_rows}

-- just one index
one_found : (indices : List ℕ) → is_one (search_of indices) ≡ eqb (length indices) 1
unfolding search_of
one_found [] = refl
one_found (k ∷ []) = refl
one_found (k ∷ j ∷ ks) = sym (ne_eqb (suc (suc (length ks))) 1 (λ e. omega arith))

-- what the search for an entry's verifier says
pub verifier_resolved : (table store entry : List ℕ)
    → is_one (cell_search (verifier_field (hash_type_of entry)) (code_hash_of entry) (cells_of CellDep (scene_in table store)))
    ≡ eqb (length (verifiers (entry_of entry) (scene_deps table store))) 1
unfolding entry_of verifiers cells_of scene_deps cell_search
verifier_resolved table store entry =
    one_found (matches (verifier_field (hash_type_of entry)) (code_hash_of entry) (scene_in table store).deps)

-- a profile is the first byte of aux
pub ruleset numbers = (number-one)

-- where every row passes the request writer refuses nothing: its answer is the request's length, which fits, and the request
-- stands at the front
module _ (known : Bool) (operation : ℕ) (digest : List ℕ) (deps : List Cell) (e : EntryReading) (p : ProofReading) (room : ℕ)
    (d : length digest ≡ 32) (h : decide (Ok tt) (found_rows known operation deps e (length p.bytes) room) ≡ Ok tt) where
  request-long : length (request_bytes (request_content operation digest e p)) ≡ request_total (request_content operation digest e p)
  unfolding request_content
  request-long = length-request (request_content operation digest e p) (record { digest = d; key = length-array 32 e.key })

  request-fits : request_total (request_content operation digest e p) ≤ room
  unfolding found_rows authenticator_rows request_limit_rows request_content request_total
  request-fits = leb-true _ _ (passed-all-pass _ h).1.1.1.1.1.1.0

  request-passes : request_writer_fault (request_content operation digest e p) room ≡ Ok tt
  unfolding found_rows request_writer_fault
  request-passes = write-room _ _ _ (request-limits operation digest deps e p room (passed-all-pass _ h).1) request-fits

  made-fits : length (request_bytes (request_content operation digest e p)) ≤ room
  made-fits = rw request-long request-fits

  module _ (out : List ℕ) (r : room ≡ length out) where
    pub made-written : request_written (request_content operation digest e p) out ≡ Ok (length (request_bytes (request_content operation digest e p)))
    unfolding request_written write_answer
    made-written = rw (← r, request-passes, request-long)

    made-stored : request_stored (request_content operation digest e p) out ≡ answered out (request_bytes (request_content operation digest e p))
    unfolding request_stored after_write answered
    made-stored = rw (← r, request-passes)

-- rows, request and weight by the entry that is found
module _ (table store state : List ℕ) (operation : ℕ) (digest : List ℕ) (room slot : ℕ) (bytes : List ℕ) where
  pub rows_found : proof_rows (walk_context table store state operation digest room) 0 (proof_with slot bytes)
      ≡ found_rows (is_some (entry_place slot state)) operation (scene_deps table store) (entry_of (entry_in state (entry_place slot state))) (length bytes) room
  unfolding proof_rows walk_context context_for found_rows
  rows_found = rw (place-known, place-entry, sub-zero)

  pub request_found : request_of (walk_context table store state operation digest room) (proof_with slot bytes)
      ≡ request_bytes (request_content operation digest (entry_of (entry_in state (entry_place slot state))) (proof_with slot bytes))
  unfolding request_of walk_context context_for
  request_found = rw place-entry

  pub weight_found : (entry_for slot (walk_context table store state operation digest room).entries).weight
      ≡ weight_of (entry_in state (entry_place slot state))
  unfolding walk_context context_for entry_of
  weight_found = ap (λ (e : EntryReading). e.weight) (sym (place-entry slot state))

  -- so a request whose rows pass is written
  module _ (d : length digest ≡ 32) (h : decide (Ok tt) (proof_rows (walk_context table store state operation digest room) 0 (proof_with slot bytes)) ≡ Ok tt) where
    found-pass : decide (Ok tt) (found_rows (is_some (entry_place slot state)) operation (scene_deps table store) (entry_of (entry_in state (entry_place slot state))) (length bytes) room) ≡ Ok tt
    found-pass = ap (decide (Ok tt)) (sym rows_found) ∙ h

    pub request_room : length (request_of (walk_context table store state operation digest room) (proof_with slot bytes)) ≤ room
    request_room = rw request_found (made-fits _ operation digest _ _ (proof_with slot bytes) room d found-pass)

    pub request_writes : (out : List ℕ) → room ≡ length out
        → request_written (request_content operation digest (entry_of (entry_in state (entry_place slot state))) (proof_with slot bytes)) out
        ≡ Ok (length (request_of (walk_context table store state operation digest room) (proof_with slot bytes)))
    request_writes out r = rw request_found (made-written _ operation digest _ _ (proof_with slot bytes) room d found-pass out r)

    pub request_stands : (out : List ℕ) → room ≡ length out
        → request_stored (request_content operation digest (entry_of (entry_in state (entry_place slot state))) (proof_with slot bytes)) out
        ≡ answered out (request_of (walk_context table store state operation digest room) (proof_with slot bytes))
    request_stands out r = rw request_found (made-stored _ operation digest _ _ (proof_with slot bytes) room d found-pass out r)

-- the rows by an entry that was found already
pub found_rows_lem : (table store state : List ℕ) (operation : ℕ) (digest : List ℕ) (room slot : ℕ) (bytes : List ℕ) (place : Option ℕ)
    → place ≡ entry_place slot state
    → found_rows (is_some place) operation (scene_deps table store) (entry_of (entry_in state place)) (length bytes) room
    ≡ proof_rows (walk_context table store state operation digest room) 0 (proof_with slot bytes)
found_rows_lem table store state operation digest room slot bytes place f = rw f (sym (rows_found table store state operation digest room slot bytes))

pub ruleset requests = (rows_found, weight_found, request_writes, request_stands)
