-- What a writer has answered and left, by what its checks found, for every format: it refuses exactly with the first check that fails.
-- Assumes nothing.
use Rattle.std.specs.Prelude.{Err, Ok, Result}
use mathlib.Core.Path.{◌≡◌, refl, sym, ◌∙◌}
use mathlib.Core.List.{List, [], ◌∷◌, ◌++◌}
use mathlib.Core.Logic.{◌↔◌}
use Prim.Native.Nat.{ℕ, ◌≤◌}
use lib.Dec.{leb}
use lib.ListN.{length}
use lib.Seq.{sets}
use Rattle.octets.proofs.Stores.{sets-front}
use Rattle.protocol.specs.Rows.{Row, row, FirstFailed, Check}
use Rattle.protocol.specs.Write.{write_fault, write_answer, after_write}
use Rattle.protocol.specs.declared.error.ProtocolError.{ProtocolError}
use Rattle.protocol.specs.declared.error.ProtocolError.TheVariants.{BufferTooShort}
use Rattle.protocol.proofs.Answers.{answer-refuses}
use Rattle.protocol.proofs.Back.{write-passed}

-- what the checks found, by the answer
abbrev write_found : Result ℕ ProtocolError → Check
write_found (Ok n) = (Ok tt)
write_found (Err e) = Err e

-- which is what it was made from
write-found : (total : ℕ) (k : Check) → write_found (write_answer k total) ≡ k
unfolding write_answer
write-found total (Ok _) = refl
write-found total (Err e) = refl

-- refused exactly with the first check that fails, the one for the room last
pub write-refuses : (rows : List Row) (total room : ℕ) (e : ProtocolError)
    → (write_answer (write_fault rows total room) total ≡ Err e) ↔ FirstFailed (rows ++ (row (leb total room) BufferTooShort ∷ [])) e
unfolding write_fault write_answer
write-refuses rows total room e = answer-refuses (λ k. write_answer k total) write_found (write-found total) (rows ++ (row (leb total room) BufferTooShort ∷ [])) e

module _ (rows : List Row) (total : ℕ) (out : List ℕ) (k : Check) (found : k ≡ write_fault rows total (length out)) where
  -- a refusal is the answer, and the buffer is as it was
  pub write-refused : (bytes : List ℕ) (e : ProtocolError) → k ≡ Err e
      → (Err e ≡ write_answer (write_fault rows total (length out)) total) × (out ≡ after_write (write_fault rows total (length out)) bytes out)
  unfolding write_answer after_write
  write-refused bytes e h = (rw (sym found ∙ h), rw (sym found ∙ h))

  -- without one there is room,
  pub write-fits : k ≡ Ok tt → total ≤ length out
  write-fits h = (write-passed rows total (length out) (sym found ∙ h)).1

  -- and once the bytes are stored from the front the answer is their length
  pub write_done : (bytes after : List ℕ) → k ≡ Ok tt → length bytes ≡ total → after ≡ sets out 0 bytes
      → (Ok total ≡ write_answer (write_fault rows total (length out)) total) × (after ≡ after_write (write_fault rows total (length out)) bytes out)
  unfolding write_answer after_write
  write_done bytes after h n stored =
      (rw (sym found ∙ h), rw (sym found ∙ h) (stored ∙ sets-front out bytes (rw n (write-fits h))))
