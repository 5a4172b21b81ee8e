-- The words that each exported reader stores, and its promise: the answer's number, and the words in the buffer. A refusal has
-- none.
use Rattle.std.specs.Prelude.{ℕ, List, [], ◌∷◌, ◌++◌, Result}
use Rattle.protocol.specs.declared.args.AccountLockArgs.{AccountLockArgs}
use Rattle.protocol.specs.declared.error.ProtocolError.{ProtocolError}
use Rattle.account_state.specs.declared.header.StateHeader.{StateHeader}
use Rattle.account_state.specs.declared.walk.StateSummary.{StateSummary}
use Rattle.account_state.specs.declared.entry.EntryCursor.{EntryCursor}
use Rattle.account_state.specs.declared.entry.AuthenticatorEntry.{AuthenticatorEntry}
use Rattle.account_witness.specs.declared.header.AccountWitnessHeader.{AccountWitnessHeader}
use Rattle.account_witness.specs.declared.walk.Proof.{Proof}
use Rattle.account_witness.specs.declared.walk.ProofCursor.{ProofCursor}
use Rattle.verifier_request.specs.declared.reader.RequestFields.{RequestFields}
use Rattle.public_key_proof.specs.declared.reader.PublicKeyProof.{PublicKeyProof}
use Rattle.protocol.specs.Rows.{check_number}
use Rattle.export_answers.specs.Words.{word_bytes}
use Rattle.export_answers.specs.Stored.{StoresBytes, answer_bytes}

-- the promise of a reader, by the words of what it reads
abbrev pub StoresWords : {A : Type 0} → (A → List ℕ) → Result A ProtocolError → List ℕ → ℕ → List ℕ → Type 0
StoresWords words answer out r after = StoresBytes (check_number answer) (answer_bytes (λ a. word_bytes (words a)) answer) out r after

unfoldable pub args_words : AccountLockArgs → List ℕ
args_words a = a.version ∷ a.account_id ∷ []

-- the bit that the operation needs
unfoldable pub capability_words : ℕ → List ℕ
capability_words bit = bit ∷ []

-- a state header's seven numbers, in the order of its fields
unfoldable pub header_words : StateHeader → List ℕ
header_words h =
    h.flags
    ∷ h.sequence
    ∷ h.spend_threshold
    ∷ h.rotate_threshold
    ∷ h.recovery_threshold
    ∷ h.authenticator_count
    ∷ h.recovery_since
    ∷ []

unfoldable pub state_words : StateHeader × StateSummary → List ℕ
state_words (h, t) = header_words h ++ (t.spend_weight ∷ t.rotate_weight ∷ t.recovery_weight ∷ [])

-- an entry, and the cursor behind it
unfoldable pub step_words : AuthenticatorEntry × EntryCursor → List ℕ
step_words (e, c) =
    e.slot
    ∷ e.algorithm_id
    ∷ e.capabilities
    ∷ e.weight
    ∷ e.verifier_hash_type
    ∷ e.verifier_abi
    ∷ e.verifier_code_hash
    ∷ e.key_id
    ∷ e.key_len
    ∷ e.aux
    ∷ e.aux_len
    ∷ c.offset
    ∷ c.least
    ∷ []

-- a witness lock's header, whether its proofs were read too or not
unfoldable pub witness_words : AccountWitnessHeader → List ℕ
witness_words h = h.operation ∷ h.proof_count ∷ h.state_sequence ∷ []

-- a proof, and the cursor behind it
unfoldable pub proof_step_words : Proof × ProofCursor → List ℕ
proof_step_words (p, c) = p.slot ∷ p.start ∷ p.len ∷ c.offset ∷ c.least ∷ []

unfoldable pub request_words : RequestFields → List ℕ
request_words f =
    f.algorithm_id
    ∷ f.slot
    ∷ f.operation
    ∷ f.verifier_profile
    ∷ f.authorization_digest
    ∷ f.key_id
    ∷ f.aux
    ∷ f.aux_len
    ∷ f.proof
    ∷ f.proof_len
    ∷ []

unfoldable pub proof_words : PublicKeyProof → List ℕ
proof_words p = p.public_key ∷ p.public_key_len ∷ p.signature ∷ p.signature_len ∷ []
