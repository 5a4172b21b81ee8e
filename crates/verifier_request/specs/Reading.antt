-- A reading of a request and its written form: 01, "A reading holds every field but fixed bytes, lengths and counts, a place
-- in the input counting as the bytes there; its written form is the layout filled from it."
use Rattle.std.specs.Prelude.{ℕ, ◌^◌, ◌<◌, ◌≡◌, List, [], ◌∷◌, ◌++◌, length, take, drop}
use Rattle.octets.specs.Layout.{Field, layout_bytes}
use Rattle.verifier_request.specs.declared.reader.RequestFields.{RequestFields}
use Rattle.verifier_request.specs.Reader.{request_magic, request_fields_of}

pub record RequestReading : Type 0 where
  pub algorithm : ℕ
  pub slot : ℕ
  pub operation : ℕ
  pub profile : ℕ
  pub digest : List ℕ
  pub key : List ℕ
  pub aux : List ℕ
  pub proof : List ℕ

abbrev pub request_with : ℕ → ℕ → ℕ → ℕ → List ℕ → List ℕ → List ℕ → List ℕ → RequestReading
request_with algorithm slot operation profile digest key aux proof =
    record {
      algorithm = algorithm;
      slot = slot;
      operation = operation;
      profile = profile;
      digest = digest;
      key = key;
      aux = aux;
      proof = proof;
    }

-- numbers fit their fields, and the digest and the key have their size
pub record RequestTyped (r : RequestReading) : Type 0 where
  pub algorithm : r.algorithm < 2 ^ 16
  pub slot : r.slot < 2 ^ 16
  pub operation : r.operation < 2 ^ 8
  pub profile : r.profile < 2 ^ 8
  pub digest : length r.digest ≡ 32
  pub key : length r.key ≡ 32

-- bytes 0 to 15: "`CKVR`, 1, 0, 96 (u16), algorithm, slot (u16), operation, profile, two zeros"
unfoldable pub request_head : ℕ → ℕ → ℕ → ℕ → List Field
request_head algorithm slot operation profile =
    record { width = 4; value = request_magic }
    ∷ record { width = 1; value = 1 }
    ∷ record { width = 1; value = 0 }
    ∷ record { width = 2; value = 96 }
    ∷ record { width = 2; value = algorithm }
    ∷ record { width = 2; value = slot }
    ∷ record { width = 1; value = operation }
    ∷ record { width = 1; value = profile }
    ∷ record { width = 2; value = 0 }
    ∷ []

-- bytes 80 to 95: "aux and proof lengths (u32), eight zeros"
unfoldable pub request_lengths : ℕ → ℕ → List Field
request_lengths aux proof =
    record { width = 4; value = aux } ∷ record { width = 4; value = proof } ∷ record { width = 8; value = 0 } ∷ []

-- the written form
unfoldable pub request_bytes : RequestReading → List ℕ
request_bytes r =
    layout_bytes (request_head r.algorithm r.slot r.operation r.profile)
    ++ r.digest
    ++ r.key
    ++ layout_bytes (request_lengths (length r.aux) (length r.proof))
    ++ r.aux
    ++ r.proof

-- what the fields of an answer say of the bytes s: a place counts as the bytes there
unfoldable pub request_given : List ℕ → RequestFields → RequestReading
request_given s f =
    request_with
    f.algorithm_id
    f.slot
    f.operation
    f.verifier_profile
    (take 32 (drop f.authorization_digest s))
    (take 32 (drop f.key_id s))
    (take f.aux_len (drop f.aux s))
    (take f.proof_len (drop f.proof s))

-- the reading of s
unfoldable pub request_reading : List ℕ → RequestReading
request_reading s = request_given s (request_fields_of s)
