-- Witness locks of at most 16 proofs: each that is accepted has exactly one reading, and the readers give that one. Where one is
-- accepted, and that a refusal is 22, is in Accepted; that the steps hand out the reading's proofs in order, in Steps.
-- Assumes nothing.
use Rattle.std.specs.Prelude.{Ok}
use mathlib.Core.Path.{◌≡◌, refl, sym, ap, ◌∙◌}
use mathlib.Core.List.{List}
use Prim.Native.Nat.{ℕ}
use Rattle.octets.specs.Le.{Bytes}
use Rattle.protocol.specs.Rows.{AllPass}
use Rattle.protocol.specs.Reading.{OneReading}
use Rattle.account_witness.specs.declared.header.AccountWitnessHeader.{AccountWitnessHeader}
use Rattle.account_witness.specs.Header.{witness_header_of, read_witness_header}
use Rattle.account_witness.specs.Witness.{witness_rows, read_witness}
use Rattle.account_witness.specs.Reading.{witness_bytes, witness_reading, WitnessTyped, WitnessHeaderGives, WitnessGives}
use Rattle.account_witness.proofs.Accepted.{witness-header-answered, witness-answered}
use Rattle.account_witness.proofs.Inverse.{witness-back, witness-typed, length-proofs}
use Rattle.account_witness.proofs.Unique.{witness-read}
use Rattle.account_witness.proofs.Steps.{witness-steps, witness-steps-end}

-- exactly one reading
pub witness-one : (s : List ℕ) → Bytes s → AllPass (witness_rows s) → OneReading WitnessTyped witness_bytes s (witness_reading s)
witness-one s b h =
    record {
      typed = witness-typed s b h;
      written = witness-back s b h;
      unique = λ q t e. sym (witness-read q t) ∙ ap witness_reading e;
    }

-- the fields at the front of the bytes are the reading's
header_of : (s : List ℕ) → WitnessHeaderGives s (witness_header_of s)
unfolding witness_header_of witness_reading
header_of s = record { operation = refl; sequence = refl; count = sym (length-proofs s _ 16) }

-- the header that the header's reader hands out has the reading's fields
pub witness-header-gives : (s : List ℕ) (h : AccountWitnessHeader) → read_witness_header s ≡ Ok h → WitnessHeaderGives s h
witness-header-gives s h e = rw (sym (witness-header-answered s h e).1) (header_of s)

-- a witness lock that the reader accepts passes every check, and what the readers hand out is its one reading
pub witness-given : (s : List ℕ) (h : AccountWitnessHeader) → read_witness s ≡ Ok h → AllPass (witness_rows s) × WitnessGives s h
unfolding witness_header_of
witness-given s h e =
    let z = witness-answered s h e in
    (z.0, rw (sym z.1) (record { header = header_of s; proofs = witness-steps s z.0; ended = witness-steps-end s z.0 }))
