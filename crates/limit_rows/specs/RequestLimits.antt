-- The request and the public-key proof: 01, "Request" and "Public-key proof", computed from the definitions.
use Rattle.std.specs.Prelude.{ℕ, ◌+◌, ◌≡◌, List, [], ◌∷◌, ◌++◌, map, length, replicate, Ok}
use Rattle.octets.specs.Le.{to_le}
use Rattle.octets.specs.Lists.{tabulate}
use Rattle.protocol.specs.Rows.{decide, check_number}
use Rattle.verifier_request.specs.Reader.{read_request}
use Rattle.verifier_request.specs.Reading.{request_reading}
use Rattle.verifier_request.specs.Writer.{request_writer_limit_rows}
use Rattle.public_key_proof.specs.Reader.{read_public_key_proof}
use Rattle.public_key_proof.specs.Reading.{public_key_proof_with, public_key_proof_reading}
use Rattle.public_key_proof.specs.Writer.{public_key_proof_writer_rows}

-- the first 96 bytes, `CKV` and a letter: ABI, byte 5, header length, operation, bytes 14 and 15, the lengths of
-- aux and proof, bytes 88 and 95
unfoldable pub request_front : ℕ → ℕ → ℕ → ℕ → ℕ → ℕ → ℕ → ℕ → ℕ → ℕ → ℕ → List ℕ
request_front letter abi reserved len operation zero14 zero15 aux proof zero88 zero95 =
    (67 ∷ 75 ∷ 86 ∷ letter ∷ abi ∷ reserved ∷ len ∷ 0 ∷ 0 ∷ 0 ∷ 0 ∷ 0 ∷ operation ∷ 0 ∷ zero14 ∷ zero15 ∷ [])
    ++ replicate 64 0
    ++ to_le 4 aux
    ++ to_le 4 proof
    ++ (zero88 ∷ [])
    ++ replicate 6 0
    ++ (zero95 ∷ [])

abbrev read_number : List ℕ → ℕ
read_number s = check_number (read_request s)

-- by the lengths of aux and proof, which stand in the rest
abbrev by_lengths : ℕ → ℕ → List ℕ → ℕ
by_lengths aux proof rest = read_number (request_front 82 1 0 96 1 0 0 aux proof 0 0 ++ rest)

abbrev by_letter : ℕ → ℕ
by_letter letter = read_number (request_front letter 1 0 96 1 0 0 0 0 0 0)

abbrev by_abi : ℕ → ℕ
by_abi abi = read_number (request_front 82 abi 0 96 1 0 0 0 0 0 0)

abbrev by_byte5 : ℕ → ℕ
by_byte5 reserved = read_number (request_front 82 1 reserved 96 1 0 0 0 0 0 0)

abbrev by_header_length : ℕ → ℕ
by_header_length len = read_number (request_front 82 1 0 len 1 0 0 0 0 0 0)

abbrev by_operation : ℕ → ℕ
by_operation operation = read_number (request_front 82 1 0 96 operation 0 0 0 0 0 0)

-- by bytes 14, 15, 88 and 95
abbrev by_zeros : ℕ → ℕ → ℕ → ℕ → ℕ
by_zeros zero14 zero15 zero88 zero95 = read_number (request_front 82 1 0 96 1 zero14 zero15 0 0 zero88 zero95)

-- the request's writer, by operation and the lengths of aux and proof
abbrev writer_number : ℕ → ℕ → ℕ → ℕ
writer_number operation aux proof = check_number (decide (Ok tt) (request_writer_limit_rows operation aux proof))

-- a request whose bytes differ, so that each field is read at its place
unfoldable pub request_places : List ℕ
request_places =
    (67 ∷ 75 ∷ 86 ∷ 82 ∷ 1 ∷ 0 ∷ 96 ∷ 0 ∷ 4 ∷ 5 ∷ 6 ∷ 7 ∷ 3 ∷ 8 ∷ 0 ∷ 0 ∷ [])
    ++ tabulate (λ i. i + 9) 64
    ++ (2 ∷ 0 ∷ 0 ∷ 0 ∷ 3 ∷ 0 ∷ 0 ∷ 0 ∷ [])
    ++ replicate 8 0
    ++ (73 ∷ 74 ∷ 75 ∷ 76 ∷ 77 ∷ [])

abbrev key_proof_number : List ℕ → ℕ
key_proof_number s = check_number (read_public_key_proof s)

abbrev key_writer_number : List ℕ → List ℕ → ℕ
key_writer_number key signature = check_number (decide (Ok tt) (public_key_proof_writer_rows (public_key_proof_with key signature)))

pub record RequestLimits : Type 0 where
  -- "length 96 to 69,728 (35)"; "The reader takes an empty aux."
  pub of-95 : (s : List ℕ) → length s ≡ 95 → read_number s ≡ 35
  pub of-96 : by_lengths 0 0 [] ≡ 0
  pub of-69728 : (rest : List ℕ) → length rest ≡ 69632 → by_lengths 4096 65536 rest ≡ 0
  pub of-69729 : (s : List ℕ) → length s ≡ 69729 → read_number s ≡ 35
  -- "aux above 4,096 or proof above 65,536 (35), total (35)"
  pub aux-4096 : (rest : List ℕ) → length rest ≡ 4096 → by_lengths 4096 0 rest ≡ 0
  pub aux-4097 : (rest : List ℕ) → length rest ≡ 4097 → by_lengths 4097 0 rest ≡ 35
  pub proof-65536 : (rest : List ℕ) → length rest ≡ 65536 → by_lengths 0 65536 rest ≡ 0
  pub proof-65537 : (rest : List ℕ) → length rest ≡ 65537 → by_lengths 0 65537 rest ≡ 35
  pub totals : by_lengths 1 1 (0 ∷ []) ∷ by_lengths 1 1 (0 ∷ 0 ∷ []) ∷ by_lengths 1 1 (0 ∷ 0 ∷ 0 ∷ []) ∷ [] ≡ 35 ∷ 0 ∷ 35 ∷ []
  -- "magic (35), ABI (32), byte 5 and header length (35), operation (37), zeros (35)"
  pub letters : map by_letter (81 ∷ 82 ∷ []) ≡ 35 ∷ 0 ∷ []
  pub abi : map by_abi (0 ∷ 1 ∷ 2 ∷ []) ≡ 32 ∷ 0 ∷ 32 ∷ []
  pub byte-5 : map by_byte5 (0 ∷ 1 ∷ []) ≡ 0 ∷ 35 ∷ []
  pub header-length : map by_header_length (95 ∷ 96 ∷ 97 ∷ []) ≡ 35 ∷ 0 ∷ 35 ∷ []
  pub operations : map by_operation (0 ∷ 1 ∷ 2 ∷ 3 ∷ 4 ∷ []) ≡ 37 ∷ 0 ∷ 0 ∷ 0 ∷ 37 ∷ []
  pub zeros : by_zeros 1 0 0 0 ∷ by_zeros 0 1 0 0 ∷ by_zeros 0 0 1 0 ∷ by_zeros 0 0 0 1 ∷ [] ≡ replicate 4 35
  -- "`CKVR`, 1, 0, 96 (u16), algorithm, slot (u16), operation, profile, two zeros, digest, key (32 bytes each), aux and proof lengths
  -- (u32), eight zeros"
  pub places-read : read_number request_places ≡ 0
  pub places : request_reading request_places ≡ record { algorithm = 0x0504; slot = 0x0706; operation = 3; profile = 8; digest = tabulate (λ i. i + 9) 32; key = tabulate (λ i. i + 41) 32; aux = 73 ∷ 74 ∷ []; proof = 75 ∷ 76 ∷ 77 ∷ [] }
  -- the writer: "Operation outside 1 to 3 is 37 in them", and the same limits
  pub written-operations : writer_number 0 1 1 ∷ writer_number 1 1 1 ∷ writer_number 3 1 1 ∷ writer_number 4 1 1 ∷ [] ≡ 37 ∷ 0 ∷ 0 ∷ 37 ∷ []
  pub written-lengths : writer_number 1 4096 65536 ∷ writer_number 1 4097 0 ∷ writer_number 1 0 65537 ∷ [] ≡ 0 ∷ 35 ∷ 35 ∷ []
  -- Public-key proof: "1, key length, signature length (u16), both not 0, both parts, no more (36)"
  pub key-version : key_proof_number (0 ∷ 1 ∷ 0 ∷ 1 ∷ 0 ∷ 7 ∷ 8 ∷ []) ∷ key_proof_number (2 ∷ 1 ∷ 0 ∷ 1 ∷ 0 ∷ 7 ∷ 8 ∷ []) ∷ [] ≡ 36 ∷ 36 ∷ []
  pub key-empty : key_proof_number (1 ∷ 0 ∷ 0 ∷ 1 ∷ 0 ∷ 7 ∷ []) ∷ key_proof_number (1 ∷ 1 ∷ 0 ∷ 0 ∷ 0 ∷ 7 ∷ []) ∷ [] ≡ 36 ∷ 36 ∷ []
  pub key_more : key_proof_number (1 ∷ 1 ∷ 0 ∷ 1 ∷ 0 ∷ 7 ∷ 8 ∷ 9 ∷ []) ≡ 36
  pub key-high : key_proof_number (1 ∷ 1 ∷ 1 ∷ 1 ∷ 0 ∷ 7 ∷ 8 ∷ []) ∷ key_proof_number (1 ∷ 1 ∷ 0 ∷ 1 ∷ 1 ∷ 7 ∷ 8 ∷ []) ∷ [] ≡ 36 ∷ 36 ∷ []
  pub key-places : public_key_proof_reading (1 ∷ 1 ∷ 0 ∷ 2 ∷ 0 ∷ 7 ∷ 8 ∷ 9 ∷ []) ≡ public_key_proof_with (7 ∷ []) (8 ∷ 9 ∷ [])
  -- "The public-key proof writer gives 39 where a part exceeds 65,535 bytes."
  pub parts-65535 : (key signature : List ℕ) → length key ≡ 65535 → length signature ≡ 65535 → key_writer_number key signature ≡ 0
  pub key-65536 : (key : List ℕ) → length key ≡ 65536 → key_writer_number key (1 ∷ []) ≡ 39
  pub signature-65536 : (signature : List ℕ) → length signature ≡ 65536 → key_writer_number (1 ∷ []) signature ≡ 39
