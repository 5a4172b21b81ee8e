-- A reading of a public-key proof and its written form: 01, "A reading holds every field but fixed bytes, lengths and counts,
-- a place in the input counting as the bytes there; its written form is the layout filled from it."
use Rattle.std.specs.Prelude.{ℕ, List, [], ◌∷◌, ◌++◌, length, take, drop}
use Rattle.octets.specs.Layout.{Field, layout_bytes}
use Rattle.public_key_proof.specs.declared.reader.PublicKeyProof.{PublicKeyProof}
use Rattle.public_key_proof.specs.Reader.{public_key_proof_places}

pub record PublicKeyProofReading : Type 0 where
  pub public_key : List ℕ
  pub signature : List ℕ

abbrev pub public_key_proof_with : List ℕ → List ℕ → PublicKeyProofReading
public_key_proof_with public_key signature = record { public_key = public_key; signature = signature }

-- a reading has no number and no part of a fixed size, so every reading is typed
abbrev pub PublicKeyProofTyped : PublicKeyProofReading → Type 0
PublicKeyProofTyped r = Unit {0}

-- bytes 0 to 4: "1, key length, signature length (u16)"
unfoldable pub public_key_proof_head : PublicKeyProofReading → List Field
public_key_proof_head r =
    record { width = 1; value = 1 }
    ∷ record { width = 2; value = length r.public_key }
    ∷ record { width = 2; value = length r.signature }
    ∷ []

-- the written form
unfoldable pub public_key_proof_bytes : PublicKeyProofReading → List ℕ
public_key_proof_bytes r = layout_bytes (public_key_proof_head r) ++ r.public_key ++ r.signature

-- what the places of an answer say of the bytes s: a place counts as the bytes there
unfoldable pub public_key_proof_given : List ℕ → PublicKeyProof → PublicKeyProofReading
public_key_proof_given s p =
    public_key_proof_with (take p.public_key_len (drop p.public_key s)) (take p.signature_len (drop p.signature s))

-- the reading of s
unfoldable pub public_key_proof_reading : List ℕ → PublicKeyProofReading
public_key_proof_reading s = public_key_proof_given s (public_key_proof_places s)
