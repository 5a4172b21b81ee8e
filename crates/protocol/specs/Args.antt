-- 01, Args: "33 bytes, 0x01 and the account id. Length 32 or 34 is 20; then a wrong first byte is 32."
use Rattle.std.specs.Prelude.{ℕ, List, [], ◌∷◌, eqb, length, take, drop, Err, Ok, Result}
use Rattle.protocol.specs.declared.error.ProtocolError.{ProtocolError}
use Rattle.protocol.specs.declared.args.AccountLockArgs.{AccountLockArgs}
use Rattle.octets.specs.Le.{number_at}
use Rattle.protocol.specs.Errors.{error_number}
use Rattle.protocol.specs.Rows.{Row, row, decide, ◌then◌}
use Rattle.protocol.specs.declared.error.ProtocolError.TheVariants.{InvalidArgs, UnsupportedVersion}

abbrev pub args_version_of : List ℕ → ℕ
args_version_of s = number_at s 0 1

unfoldable pub args_rows : List ℕ → List Row
args_rows s = row (eqb (length s) 33) InvalidArgs ∷ row (eqb (args_version_of s) 1) UnsupportedVersion ∷ []

-- the account id stands at place 1
unfoldable pub read_args : List ℕ → Result AccountLockArgs ProtocolError
read_args s = decide (Ok tt) (args_rows s) then Ok (record { version = 1; account_id = 1 })

-- the reading: the account id. Its written form:
unfoldable pub args_bytes : List ℕ → List ℕ
args_bytes account = 1 ∷ account

unfoldable pub account_of : List ℕ → List ℕ
account_of s = take 32 (drop 1 s)
