-- 01, main.rs: "Digest input: `CKB_ACCOUNT_LOCK_V1`, operation, account id, sequence (u64), hash of the state, sighash."
use Rattle.std.specs.Prelude.{ℕ, List, [], ◌∷◌, ◌++◌, Ok, Result}
use Rattle.octets.specs.Le.{to_le}
use Rattle.blake2b.specs.State.{ckb_hash}
use Rattle.protocol.specs.Policy.{operation_rows}
use Rattle.protocol.specs.Rows.{◌then◌, decide}
use Rattle.protocol.specs.declared.error.ProtocolError.{ProtocolError}

-- `CKB_ACCOUNT_LOCK_V1`
unfoldable pub auth_domain : List ℕ
auth_domain = 67 ∷ 75 ∷ 66 ∷ 95 ∷ 65 ∷ 67 ∷ 67 ∷ 79 ∷ 85 ∷ 78 ∷ 84 ∷ 95 ∷ 76 ∷ 79 ∷ 67 ∷ 75 ∷ 95 ∷ 86 ∷ 49 ∷ []

-- the first four parts of the input
unfoldable pub digest_head : ℕ → List ℕ → ℕ → List ℕ
digest_head operation account sequence = auth_domain ++ (operation ∷ []) ++ account ++ to_le 8 sequence

-- the input, and its hash
unfoldable pub digest_input : ℕ → List ℕ → ℕ → List ℕ → List ℕ → List ℕ
digest_input operation account sequence state sighash = digest_head operation account sequence ++ ckb_hash state ++ sighash

unfoldable pub digest_of : ℕ → List ℕ → ℕ → List ℕ → List ℕ → List ℕ
digest_of operation account sequence state sighash = ckb_hash (digest_input operation account sequence state sighash)

-- a digest, or the refusal of the operation
unfoldable pub authorization_of : ℕ → List ℕ → ℕ → List ℕ → List ℕ → Result (List ℕ) ProtocolError
authorization_of operation account sequence state sighash =
    decide (Ok tt) (operation_rows operation) then Ok (digest_of operation account sequence state sighash)
