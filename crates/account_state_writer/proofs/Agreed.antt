-- Slices that agree: the state that they say has the length that they say, and the writer's rows come down to the state's own.
-- Assumes nothing.
use Rattle.std.specs.Prelude.{Err, Ok}
use mathlib.Core.Path.{◌≡◌, refl, ap, ◌∙◌}
use mathlib.Core.List.{List, ◌∷◌, [], ◌++◌, append_assoc}
use Prim.Native.Nat.{ℕ, ◌+◌, ◌*◌, ◌≤◌, ◌<◌}
use native.Mathlib.Omega.{arith}
use borrow.Author.Tests.{leb-true, eqb-true}
use lib.Dec.{leb}
use lib.Seq.{sets}
use lib.ListN.{length, drop, get_or, length-append}
use Rattle.octets.specs.Le.{Bytes}
use Rattle.octets.proofs.Stores.{sets-front}
use Rattle.protocol.specs.Rows.{row, ◌then◌, decide, AllPass, Check}
use Rattle.protocol.specs.Write.{write_fault, write_answer, after_write}
use Rattle.protocol.specs.declared.error.ProtocolError.{ProtocolError}
use Rattle.protocol.specs.declared.error.ProtocolError.TheVariants.{BufferTooShort}
use Rattle.protocol.proofs.AllPass.{decide-append, decide-failed, all-pass-passed}
use Rattle.account_state.specs.Reading.{EntryReading, StateReading, StateNumbersTyped, StateTyped, state_head, state_bytes, entries_bytes}
use Rattle.account_state.specs.declared.header.StateHeader.{StateHeader}
use Rattle.account_state.proofs.Inverse.{Keys}
use Rattle.account_state_writer.specs.Slices.{lent_count}
use Rattle.account_state_writer.specs.Writer.{entries_from, needed_bytes, state_total, slice_rows, written_rows, state_writer_rows, valid_written, valid_stored, state_written, state_stored}
use Rattle.account_state_writer.specs.Lent.{state_lent, found}
use Rattle.account_state_writer.proofs.Lent.{length-head, length-all, length-entries-from, entries-typed}
use Rattle.account_state_writer.proofs.Checked.{written-checked}

-- what the rows say
pub record Agreed (fields bytes : List ℕ) : Type 0 where
  pub needed : needed_bytes (lent_count fields) fields ≡ length bytes
  pub count : lent_count fields ≤ 255
  pub total : 32 + 14 * lent_count fields + length bytes ≤ 16384

pub agreed : (fields bytes : List ℕ) → AllPass (slice_rows fields bytes) → Agreed fields bytes
unfolding slice_rows state_total
agreed fields bytes h =
    record { needed = eqb-true _ _ h.1.0; count = leb-true _ _ h.1.1.0; total = leb-true _ _ h.1.1.1.0 }

-- the length of the state
pub length-state : (r : StateReading) → length (state_bytes r) ≡ 32 + length (entries_bytes r.entries)
unfolding state_bytes state_head
length-state r = rw (length-append, length-head)

-- a state that is found right is written, any other is not
answer-then : (k : Check) (n : ℕ) → k then Ok n ≡ write_answer k n
unfolding write_answer
answer-then (Ok _) n = refl
answer-then (Err e) n = refl

-- what is found of a state of the right types, and then the room, is what its rows and the room find
module _ (h : StateHeader) (es : List EntryReading) (y : StateTyped (state_lent h es)) (k : Keys es) (m : length (state_bytes (state_lent h es)) ≤ 16384) (out : List ℕ) where
  abbrev r : StateReading
  r = state_lent h es

  found-rows : found h es (length out) ≡ write_fault (written_rows r) (length (state_bytes r)) (length out)
  unfolding found write_fault state_lent decide
  found-rows =
      let e = written-checked r y k m in
      rw (length-state r, decide-append (Ok tt) (written_rows r) (row (leb (32 + length (entries_bytes es)) (length out)) BufferTooShort ∷ []), e)

  pub found-valid : (found h es (length out) then Ok (32 + length (entries_bytes es)) ≡ valid_written r out)
      × (after_write (found h es (length out)) (state_bytes r) out ≡ valid_stored r out)
  unfolding valid_written valid_stored state_lent
  found-valid = (rw (found-rows, length-state r) (answer-then _ _), rw found-rows)

-- a refusal of the slices is the writer's
pub slices-failed : (r : StateReading) (fields bytes : List ℕ) (total room : ℕ) (e : ProtocolError) → decide (Ok tt) (slice_rows fields bytes) ≡ Err e
    → write_fault (state_writer_rows r fields bytes) total room ≡ Err e
unfolding write_fault state_writer_rows
slices-failed r fields bytes total room e h =
    ap (decide (Ok tt)) (append_assoc (slice_rows fields bytes) (written_rows r) _)
    ∙ (decide-append (Ok tt) (slice_rows fields bytes) _ ∙ rw h (decide-failed _ e))

-- else the state decides
pub slices-passed : (r : StateReading) (fields bytes : List ℕ) (total room : ℕ) → decide (Ok tt) (slice_rows fields bytes) ≡ Ok tt
    → write_fault (state_writer_rows r fields bytes) total room ≡ write_fault (written_rows r) total room
unfolding write_fault state_writer_rows
slices-passed r fields bytes total room h =
    ap (decide (Ok tt)) (append_assoc (slice_rows fields bytes) (written_rows r) _)
    ∙ (decide-append (Ok tt) (slice_rows fields bytes) _ ∙ rw h)

-- what is written is what the writer's definition says
pub agreed-written : (r : StateReading) (fields bytes out : List ℕ) → decide (Ok tt) (slice_rows fields bytes) ≡ Ok tt → length (state_bytes r) ≡ state_total fields bytes
    → (valid_written r out ≡ state_written r fields bytes out) × (valid_stored r out ≡ state_stored r fields bytes out)
unfolding valid_written valid_stored state_written state_stored
agreed-written r fields bytes out h n =
    (rw (n, slices-passed r fields bytes (state_total fields bytes) (length out) h), rw (n, slices-passed r fields bytes (state_total fields bytes) (length out) h))

-- so a refusal of the slices is what is answered, and nothing is written
pub refused-written : (r : StateReading) (fields bytes out : List ℕ) (e : ProtocolError) → decide (Ok tt) (slice_rows fields bytes) ≡ Err e
    → (Err e ≡ state_written r fields bytes out) × (out ≡ state_stored r fields bytes out)
unfolding state_written state_stored write_answer after_write
refused-written r fields bytes out e h =
    (rw (slices-failed r fields bytes (state_total fields bytes) (length out) e h), rw (slices-failed r fields bytes (state_total fields bytes) (length out) e h))

-- so what is found is what the writer's definition says of slices that agree
module _ (h : StateHeader) (fields bytes : List ℕ) (rows : AllPass (slice_rows fields bytes)) (numbers : StateNumbersTyped (state_lent h (entries_from (lent_count fields) fields bytes)))
    (f : (i : ℕ) → get_or fields i 0 < 65536) (b : Bytes bytes) where
  abbrev said : StateReading
  said = state_lent h (entries_from (lent_count fields) fields bytes)

  abbrev agree : Agreed fields bytes
  agree = agreed fields bytes rows

  total : length (state_bytes said) ≡ state_total fields bytes
  unfolding state_lent state_total
  total =
      let e = length-all (lent_count fields) fields bytes (omega (arith, agree.needed)) in
      length-state said ∙ omega (arith, e, agree.needed)

  pub encoded : (out : List ℕ) → (found h said.entries (length out) then Ok (32 + length (entries_bytes said.entries)) ≡ state_written said fields bytes out)
      × (after_write (found h said.entries (length out)) (state_bytes said) out ≡ state_stored said fields bytes out)
  unfolding state_lent state_total
  encoded out =
      let z = entries-typed (lent_count fields) fields bytes f b (omega (arith, agree.needed)) (omega (arith, agree.total)) in
      let y : StateTyped said =
      record {
        numbers = numbers;
        count = rw (length-entries-from (lent_count fields) fields bytes) (omega (arith, agree.count));
        entries = z.0;
      } in
      let v = found-valid h said.entries y z.1 (rw total agree.total) out in
      let w = agreed-written said fields bytes out (all-pass-passed (slice_rows fields bytes) rows) total in
      (v.0 ∙ w.0, v.1 ∙ w.1)

-- without a refusal the bytes are stored from the front
pub stored-front : (h : StateHeader) (es : List EntryReading) (out after : List ℕ) → 32 + length (entries_bytes es) ≤ length out
    → after ≡ sets out 0 (state_bytes (state_lent h es)) → after ≡ state_bytes (state_lent h es) ++ drop (length (state_bytes (state_lent h es))) out
unfolding state_lent
stored-front h es out after room e = e ∙ sets-front out (state_bytes (state_lent h es)) (rw (length-state (state_lent h es)) room)

-- for the check's own search
pub ruleset writing = (stored-front)
