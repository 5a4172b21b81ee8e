-- What is said of the requests that are made: the request reader accepts each, and reads it as what it was made from.
use Rattle.std.specs.Prelude.{◌≡◌, List, [], ◌∷◌, length}
use Rattle.octets.specs.Le.{Bytes}
use Rattle.octets.specs.Lists.{array_of}
use Rattle.protocol.specs.Rows.{AllPass}
use Rattle.account_state.specs.Reading.{EntryReading, EntryTyped}
use Rattle.quorum.specs.Slots.{entry_for}
use Rattle.account_witness.specs.Reading.{ProofReading}
use Rattle.verifier_request.specs.Reader.{request_rows}
use Rattle.verifier_request.specs.Reading as request
use Rattle.decision.specs.Proofs.{Context, request_content, request_of}

-- an entry as an accepted state has it: of its types, with a key of 32 bytes, and with bytes in aux
pub record EntryFits (e : EntryReading) : Type 0 where
  pub typed : EntryTyped e
  pub key : length e.key ≡ 32
  pub aux : Bytes e.aux

abbrev pub EntriesFit : List EntryReading → Type 0
EntriesFit [] = Unit {0}
EntriesFit (e ∷ es) = EntryFits e × EntriesFit es

-- what is settled before the first proof fits the request's fields
pub record ContextFits (c : Context) : Type 0 where
  pub entries : EntriesFit c.entries
  pub digest : length c.digest ≡ 32

-- the request of a proof passes every check of the request reader, and is read as what it was made from
pub record RequestRead (c : Context) (p : ProofReading) : Type 0 where
  pub accepted : AllPass (request_rows (request_of c p))
  pub reading : request.request_reading (request_of c p) ≡ request_content c.operation c.digest (entry_for p.slot c.entries) p
  -- its key is the entry's
  pub key : array_of 32 (entry_for p.slot c.entries).key ≡ (entry_for p.slot c.entries).key

-- so each one's; 01: "its proof's place in the witness lock, which is its place in the answer too"
abbrev pub RequestsRead : Context → List ProofReading → Type 0
RequestsRead c [] = Unit {0}
RequestsRead c (p ∷ ps) = RequestRead c p × RequestsRead c ps
