-- A writer whose refusals do not occur writes its bytes, or refuses with 5 a buffer that is too short.
-- Assumes nothing.
use Rattle.std.specs.Prelude.{Err, Ok}
use mathlib.Core.Path.{◌≡◌, ◌∙◌}
use mathlib.Core.List.{List, [], ◌∷◌}
use Prim.Native.Nat.{ℕ, ◌≤◌, ◌<◌}
use native.Mathlib.Omega.{arith}
use borrow.Author.Tests.{le-leb, lt-leb, leb-true}
use lib.Dec.{leb}
use lib.ListN.{length}
use Rattle.protocol.specs.Rows.{Row, row, ◌▷◌, decide, AllPass}
use Rattle.protocol.specs.Write.{write_fault, write_answer, after_write}
use Rattle.protocol.specs.Reading.{WritesBack}
use Rattle.protocol.specs.declared.error.ProtocolError.TheVariants.{BufferTooShort}
use Rattle.protocol.proofs.AllPass.{decide-append, all-pass-passed, passed-all-pass, all-pass-split}

-- every row passes: the room decides
pub write-room : (rows : List Row) (total room : ℕ) → AllPass rows → total ≤ room → write_fault rows total room ≡ Ok tt
unfolding write_fault decide ◌▷◌
write-room rows total room h l = decide-append (Ok tt) rows _ ∙ rw (all-pass-passed rows h, le-leb total room l)

pub write-short : (rows : List Row) (total room : ℕ) → AllPass rows → room < total → write_fault rows total room ≡ Err BufferTooShort
unfolding write_fault decide ◌▷◌
write-short rows total room h l = decide-append (Ok tt) rows _ ∙ rw (all-pass-passed rows h, lt-leb total room l)

-- where a writer passes, every row does and there is room
pub write-passed : (rows : List Row) (total room : ℕ) → write_fault rows total room ≡ Ok tt → AllPass rows × (total ≤ room)
unfolding write_fault
write-passed rows total room h =
    let z = all-pass-split rows (row (leb total room) BufferTooShort ∷ []) (passed-all-pass _ h) in
    (z.0, leb-true total room z.1.0)

pub writes-back : (rows : List Row) (bytes : List ℕ) (total : ℕ) (s : List ℕ) → AllPass rows → bytes ≡ s → total ≡ length s
    → WritesBack (λ (out : List ℕ). write_answer (write_fault rows total (length out)) total) (λ (out : List ℕ). after_write (write_fault rows total (length out)) bytes out) s
unfolding write_answer after_write
writes-back rows bytes total s h b t =
    record {
      room = λ out l. (rw (write-room rows total (length out) h (omega arith), t), rw (write-room rows total (length out) h (omega arith), b));
      short = λ out l. (rw (write-short rows total (length out) h (omega arith)), rw (write-short rows total (length out) h (omega arith)));
    }
