-- 01, Public-key proof: "1, key length, signature length (u16), both not 0, both parts, no more (36)." Its checks, and what
-- its reader answers.
use Rattle.std.specs.Prelude.{ℕ, ◌+◌, List, [], ◌∷◌, eqb, leb, ltb, length, Ok, Result}
use Rattle.protocol.specs.declared.error.ProtocolError.{ProtocolError}
use Rattle.octets.specs.Le.{number_at}
use Rattle.protocol.specs.Rows.{Row, row, ◌then◌, decide, Check}
use Rattle.protocol.specs.declared.error.ProtocolError.TheVariants.{InvalidProof}
use Rattle.public_key_proof.specs.declared.reader.PublicKeyProof.{PublicKeyProof}

-- the fields before the two parts
abbrev pub public_key_proof_version_of : List ℕ → ℕ
public_key_proof_version_of s = number_at s 0 1

abbrev pub public_key_length_of : List ℕ → ℕ
public_key_length_of s = number_at s 1 2

abbrev pub signature_length_of : List ℕ → ℕ
signature_length_of s = number_at s 3 2

-- where the key begins, behind them
abbrev pub public_key_offset : ℕ
public_key_offset = 5

unfoldable pub public_key_proof_rows : List ℕ → List Row
public_key_proof_rows s =
    row (leb public_key_offset (length s)) InvalidProof
    ∷ row (eqb (public_key_proof_version_of s) 1) InvalidProof
    ∷ row (ltb 0 (public_key_length_of s)) InvalidProof
    ∷ row (ltb 0 (signature_length_of s)) InvalidProof
    ∷ row (eqb (public_key_offset + public_key_length_of s + signature_length_of s) (length s)) InvalidProof
    ∷ []

unfoldable pub public_key_proof_fault : List ℕ → Check
public_key_proof_fault s = decide (Ok tt) (public_key_proof_rows s)

-- the places of the key and the signature
unfoldable pub public_key_proof_places : List ℕ → PublicKeyProof
public_key_proof_places s =
    record {
      public_key = public_key_offset;
      public_key_len = public_key_length_of s;
      signature = public_key_offset + public_key_length_of s;
      signature_len = signature_length_of s;
    }

unfoldable pub read_public_key_proof : List ℕ → Result PublicKeyProof ProtocolError
read_public_key_proof s = public_key_proof_fault s then Ok (public_key_proof_places s)
