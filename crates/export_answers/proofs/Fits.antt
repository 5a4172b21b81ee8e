-- A refusal keeps its number and the buffer; else bytes that fit are stored, and others give 5.
-- Assumes nothing.
use mathlib.Core.Path.{◌≡◌, sym, ◌∙◌}
use mathlib.Core.List.{List}
use Prim.Native.Nat.{ℕ, ◌≤◌, ◌<◌}
use lib.ListN.{length}
use lib.Seq.{sets}
use borrow.Author.Tests.{le-leb, lt-leb, ne_eqb}
use Rattle.protocol.specs.Errors.{error_number}
use Rattle.protocol.specs.declared.error.ProtocolError.{ProtocolError}
use Rattle.protocol.proofs.ErrorNumbers.{not-0}
use Rattle.export_answers.specs.Stored.{stored_number, stored_after, stored_length, StoresBytes, StoresPart}

-- bytes for which there is room
pub bytes_fit : (bytes out : List ℕ) → length bytes ≤ length out → StoresBytes 0 bytes out 0 (sets out 0 bytes)
unfolding stored_number stored_after
bytes_fit bytes out h = let e = le-leb (length bytes) (length out) h in (rw e, rw e)

-- bytes for which there is none
pub bytes-short : (bytes out : List ℕ) → length out < length bytes → StoresBytes 0 bytes out 5 out
unfolding stored_number stored_after
bytes-short bytes out h = let e = lt-leb (length bytes) (length out) h in (rw e, rw e)

-- a refusal, whatever the bytes
pub part-refused : (number : ℕ) → (number ≡ 0 → ⊥) → (bytes out : List ℕ) (len : ℕ) → StoresPart number bytes out len number out len
unfolding stored_number stored_after stored_length
part-refused number h bytes out len = let e = ne_eqb number 0 h in ((rw e, rw (e, e)), rw (e, e))

pub bytes_refused : (e : ProtocolError) (bytes out : List ℕ) → StoresBytes (error_number e) bytes out (error_number e) out
bytes_refused e bytes out = (part-refused (error_number e) (not-0 e) bytes out 0).0

-- the length by the number r that is returned
module _ (number : ℕ) (bytes : List ℕ) (room len r : ℕ) (e : r ≡ stored_number number bytes room) where
  pub length-stored : r ≡ 0 → length bytes ≡ stored_length number bytes room len
  unfolding stored_length
  length-stored z = rw (sym e ∙ z)

  pub length-kept : (r ≡ 0 → ⊥) → len ≡ stored_length number bytes room len
  unfolding stored_length
  length-kept z = rw (sym e, ne_eqb r 0 z)
