-- 01, From these files: "`VerifierRequest` holds slices: places by value first; then its reader keeps the request's bytes in
-- the struct it hands out." What that struct has: the request's bytes, and what was read in them.
use Rattle.std.specs.Prelude.{ℕ, Bool, ◌&&◌, List, eqb, Err, Ok, Result}
use Rattle.protocol.specs.declared.error.ProtocolError.{ProtocolError}
use Rattle.std.specs.Borrow.{Bor}
use Rattle.octets.specs.declared.place.Place.{Place}
use Rattle.octets.specs.Lists.{same}
use Rattle.octets.specs.Places.{bytes_at}
use Rattle.protocol.specs.Rows.{check_number}
use Rattle.verifier_request.specs.declared.reader.RequestFields.{RequestFields}
use Rattle.verifier_request.specs.Reader.{read_request}
use Rattle.verifier_request.specs.Reading.{RequestReading, request_with}
use Rattle.held_request.specs.declared.places.RequestPlaces.{RequestPlaces}
use Rattle.held_request.specs.declared.VerifierRequest.{VerifierRequest}

-- of a request that was read: the digest and the key have 32 bytes each
abbrev pub read_places : RequestFields → RequestPlaces
read_places f =
    record {
      algorithm_id = f.algorithm_id;
      slot = f.slot;
      operation = f.operation;
      verifier_profile = f.verifier_profile;
      authorization_digest = record { start = f.authorization_digest; len = 32 };
      key_id = record { start = f.key_id; len = 32 };
      aux = record { start = f.aux; len = f.aux_len };
      proof = record { start = f.proof; len = f.proof_len };
    }

unfoldable pub request_places_of : Result RequestFields ProtocolError → Result RequestPlaces ProtocolError
request_places_of (Ok f) = Ok (read_places f)
request_places_of (Err e) = Err e

-- the struct that the reader hands out for these bytes
abbrev pub parsed : Bor (List ℕ) → VerifierRequest
parsed s = record { request = s; places = request_places_of (read_request s.now) }

abbrev pub nowhere : Place
nowhere = record { start = 0; len = 0 }

-- the numbers and places that its functions hand out of: 0, and no byte, where the request was refused
unfoldable pub places_or_none : Result RequestPlaces ProtocolError → RequestPlaces
places_or_none (Ok p) = p
places_or_none (Err e) =
    record {
      algorithm_id = 0;
      slot = 0;
      operation = 0;
      verifier_profile = 0;
      authorization_digest = nowhere;
      key_id = nowhere;
      aux = nowhere;
      proof = nowhere;
    }

-- those of these bytes
abbrev pub places_in : List ℕ → RequestPlaces
places_in s = places_or_none (request_places_of (read_request s))

-- what its functions hand out, together
unfoldable pub held_reading : List ℕ → RequestPlaces → RequestReading
held_reading s p =
    request_with
    p.algorithm_id
    p.slot
    p.operation
    p.verifier_profile
    (bytes_at s p.authorization_digest)
    (bytes_at s p.key_id)
    (bytes_at s p.aux)
    (bytes_at s p.proof)

-- the bytes are a request for this digest: nothing was refused, and the digest found is this one
unfoldable pub is_for : List ℕ → List ℕ → Bool
is_for s digest =
    eqb (check_number (request_places_of (read_request s))) 0 && same (bytes_at s (places_in s).authorization_digest) digest
