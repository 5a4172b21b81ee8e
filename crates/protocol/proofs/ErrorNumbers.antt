-- No refusal has the number 0, which is an acceptance's.
-- Assumes nothing.
use mathlib.Core.Path.{◌≡◌, refl}
use mathlib.Core.Bool.{true}
use Prim.Native.Nat.{◌≤◌}
use native.Mathlib.Omega.{arith}
use borrow.Author.Tests.{leb-true}
use lib.Dec.{leb}
use Rattle.protocol.specs.Errors.{error_number}
use Rattle.protocol.specs.declared.error.ProtocolError.{ProtocolError}
use Rattle.protocol.specs.declared.error.ProtocolError.TheVariants.{SceneTooLong, InvalidLine, InvalidField, TooManyLines, BufferTooShort, StoreTooShort, SlicesDisagree, InvalidArgs, InvalidState, InvalidWitness, StateNotFound, DuplicateState, StateConsumedOnSpend, InvalidTransition, InvalidSequence, ThresholdUnsatisfied, InvalidCapability, InvalidVerifierRef, VerifierFailure, UnsupportedVersion, UnsupportedAlgorithm, RecoveryLocked, InvalidRequest, InvalidProof, InvalidOperation, UnsatisfiableThreshold, LengthOverflow, HashMismatch, InvalidSince, AuxTooLong, OutputsExceedInputs, SessionWithdrawn}

-- every refusal has a number of at least 1
numbered : (e : ProtocolError) → leb 1 (error_number e) ≡ true
numbered SceneTooLong = refl
numbered InvalidLine = refl
numbered InvalidField = refl
numbered TooManyLines = refl
numbered BufferTooShort = refl
numbered StoreTooShort = refl
numbered SlicesDisagree = refl
numbered InvalidArgs = refl
numbered InvalidState = refl
numbered InvalidWitness = refl
numbered StateNotFound = refl
numbered DuplicateState = refl
numbered StateConsumedOnSpend = refl
numbered InvalidTransition = refl
numbered InvalidSequence = refl
numbered ThresholdUnsatisfied = refl
numbered InvalidCapability = refl
numbered InvalidVerifierRef = refl
numbered VerifierFailure = refl
numbered UnsupportedVersion = refl
numbered UnsupportedAlgorithm = refl
numbered RecoveryLocked = refl
numbered InvalidRequest = refl
numbered InvalidProof = refl
numbered InvalidOperation = refl
numbered UnsatisfiableThreshold = refl
numbered LengthOverflow = refl
numbered HashMismatch = refl
numbered InvalidSince = refl
numbered AuxTooLong = refl
numbered OutputsExceedInputs = refl
numbered SessionWithdrawn = refl

-- so none has 0
pub not-0 : (e : ProtocolError) → error_number e ≡ 0 → ⊥
not-0 e z =
    let n : 1 ≤ error_number e = leb-true _ _ (numbered e) in
    omega arith
