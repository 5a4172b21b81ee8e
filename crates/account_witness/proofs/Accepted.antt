-- Each reader accepts exactly where every row passes, and refuses exactly with the first row that fails; every refusal is 22.
-- Assumes nothing.
use Rattle.std.specs.Prelude.{Err, Ok}
use mathlib.Core.Path.{◌≡◌, refl}
use mathlib.Core.List.{List}
use mathlib.Core.Logic.{◌↔◌}
use Prim.Native.Nat.{ℕ, zero, suc}
use Rattle.protocol.specs.Errors.{error_number}
use Rattle.protocol.specs.Rows.{decide, AllPass, FirstFailed}
use Rattle.protocol.specs.declared.error.ProtocolError.{ProtocolError}
use Rattle.protocol.proofs.AllPass.{passed-all-pass}
use Rattle.protocol.proofs.Answers.{then-accepts, then-refuses, then-given, then-refused}
use Rattle.protocol.proofs.Each.{Each, each_append, each-failed}
use Rattle.account_witness.specs.Fields.{proof_count_of}
use Rattle.account_witness.specs.declared.header.AccountWitnessHeader.{AccountWitnessHeader}
use Rattle.account_witness.specs.declared.walk.Proof.{Proof}
use Rattle.account_witness.specs.declared.walk.ProofCursor.{ProofCursor}
use Rattle.account_witness.specs.Header.{witness_header_rows, witness_header_of, read_witness_header}
use Rattle.account_witness.specs.Walk.{proof_layout_rows, proof_at, proof_cursor_behind, proof_step, proofs_layout_rows}
use Rattle.account_witness.specs.Witness.{witness_rows, witness_fault, read_witness}

-- the refusal is 22
abbrev Is22 : ProtocolError → Type 0
Is22 e = error_number e ≡ 22

-- so it is for each row of the header, of a proof, of the proofs, and of all
header-only : (s : List ℕ) → Each Is22 (witness_header_rows s)
unfolding witness_header_rows
header-only s = (refl, (refl, (refl, (refl, (refl, (refl, tt))))))

proof-only : (s : List ℕ) (off least : ℕ) → Each Is22 (proof_layout_rows s off least)
unfolding proof_layout_rows
proof-only s off least = (refl, (refl, (refl, (refl, (refl, tt)))))

proofs-only : (s : List ℕ) (n off least : ℕ) → Each Is22 (proofs_layout_rows s n off least)
unfolding proofs_layout_rows
proofs-only s zero off least = (refl, tt)
proofs-only s (suc n) off least = each_append Is22 (proof_layout_rows s off least) _ (proof-only s off least) (proofs-only s n _ _)

witness-only : (s : List ℕ) → Each Is22 (witness_rows s)
unfolding witness_rows
witness-only s = each_append Is22 (witness_header_rows s) _ (header-only s) (refl, proofs-only s (proof_count_of s) 16 0)

-- The header is accepted exactly where every row passes
pub witness-header-accepts : (s : List ℕ) → (read_witness_header s ≡ Ok (witness_header_of s)) ↔ AllPass (witness_header_rows s)
unfolding read_witness_header
witness-header-accepts s = then-accepts (witness_header_of s) (witness_header_rows s)

-- refused exactly with the first that fails,
pub witness-header-refuses : (s : List ℕ) (e : ProtocolError) → (read_witness_header s ≡ Err e) ↔ FirstFailed (witness_header_rows s) e
unfolding read_witness_header
witness-header-refuses s e = then-refuses (witness_header_of s) (witness_header_rows s) e

-- which is 22
pub witness-header-22 : (s : List ℕ) (e : ProtocolError) → read_witness_header s ≡ Err e → error_number e ≡ 22
unfolding read_witness_header
witness-header-22 s e h =
    each-failed Is22 (witness_header_rows s) e (header-only s) (then-refused (witness_header_of s) _ e h)

-- a header that is given is the one at the front of the bytes
pub witness-header-answered : (s : List ℕ) (h : AccountWitnessHeader) → read_witness_header s ≡ Ok h → AllPass (witness_header_rows s) × (witness_header_of s ≡ h)
unfolding read_witness_header
witness-header-answered s h e =
    let z = then-given (witness_header_of s) (decide (Ok tt) (witness_header_rows s)) h e in
    (passed-all-pass (witness_header_rows s) z.0, z.1)

-- a step, likewise
module _ (s : List ℕ) (c : ProofCursor) where
  abbrev Next : Proof × ProofCursor
  Next = (proof_at s c.offset, proof_cursor_behind s c.offset)

  -- accepted exactly where every row passes
  pub proof-step-accepts : (proof_step s c ≡ Ok (proof_at s c.offset, proof_cursor_behind s c.offset)) ↔ AllPass (proof_layout_rows s c.offset c.least)
  unfolding proof_step
  proof-step-accepts = then-accepts Next (proof_layout_rows s c.offset c.least)

  -- refused exactly with the first that fails,
  pub proof-step-refuses : (e : ProtocolError) → (proof_step s c ≡ Err e) ↔ FirstFailed (proof_layout_rows s c.offset c.least) e
  unfolding proof_step
  proof-step-refuses e = then-refuses Next (proof_layout_rows s c.offset c.least) e

  -- which is 22
  pub proof-step-22 : (e : ProtocolError) → proof_step s c ≡ Err e → error_number e ≡ 22
  unfolding proof_step
  proof-step-22 e h =
      each-failed Is22 (proof_layout_rows s c.offset c.least) e (proof-only s c.offset c.least) (then-refused Next _ e h)

-- the whole, likewise: accepted exactly where every row passes
pub witness-accepts : (s : List ℕ) → (read_witness s ≡ Ok (witness_header_of s)) ↔ AllPass (witness_rows s)
unfolding read_witness witness_fault
witness-accepts s = then-accepts (witness_header_of s) (witness_rows s)

-- refused exactly with the first that fails,
pub witness-refuses : (s : List ℕ) (e : ProtocolError) → (read_witness s ≡ Err e) ↔ FirstFailed (witness_rows s) e
unfolding read_witness witness_fault
witness-refuses s e = then-refuses (witness_header_of s) (witness_rows s) e

-- which is 22
pub witness-22 : (s : List ℕ) (e : ProtocolError) → read_witness s ≡ Err e → error_number e ≡ 22
unfolding read_witness witness_fault
witness-22 s e h =
    each-failed Is22 (witness_rows s) e (witness-only s) (then-refused (witness_header_of s) _ e h)

-- a header that is given is the one at the front of the bytes
pub witness-answered : (s : List ℕ) (h : AccountWitnessHeader) → read_witness s ≡ Ok h → AllPass (witness_rows s) × (witness_header_of s ≡ h)
unfolding read_witness witness_fault
witness-answered s h e =
    let z = then-given (witness_header_of s) (decide (Ok tt) (witness_rows s)) h e in
    (passed-all-pass (witness_rows s) z.0, z.1)
