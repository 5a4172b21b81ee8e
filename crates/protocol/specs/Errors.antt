-- The number of each refusal: error.rs has 20 to 39 ("Error numbers are 20 to 39."), document 01's table "Where each refusal is
-- raised" the port's own, 1 to 7, and document 02 those from 40 on: "40 where a hash differs", "42 where either number has a
-- reserved bit", "44 in each entry", "48 where outputs exceed inputs", "49, after
-- the successor's own checks".
use Rattle.std.specs.Prelude.{ℕ}
use Rattle.protocol.specs.declared.error.ProtocolError.{ProtocolError}
use Rattle.protocol.specs.declared.error.ProtocolError.TheVariants.{SceneTooLong, InvalidLine, InvalidField, TooManyLines, BufferTooShort, StoreTooShort, SlicesDisagree, InvalidArgs, InvalidState, InvalidWitness, StateNotFound, DuplicateState, StateConsumedOnSpend, InvalidTransition, InvalidSequence, ThresholdUnsatisfied, InvalidCapability, InvalidVerifierRef, VerifierFailure, UnsupportedVersion, UnsupportedAlgorithm, RecoveryLocked, InvalidRequest, InvalidProof, InvalidOperation, UnsatisfiableThreshold, LengthOverflow, HashMismatch, InvalidSince, AuxTooLong, OutputsExceedInputs, SessionWithdrawn}

abbrev pub error_number : ProtocolError → ℕ
error_number SceneTooLong = 1
error_number InvalidLine = 2
error_number InvalidField = 3
error_number TooManyLines = 4
error_number BufferTooShort = 5
error_number StoreTooShort = 6
error_number SlicesDisagree = 7
error_number InvalidArgs = 20
error_number InvalidState = 21
error_number InvalidWitness = 22
error_number StateNotFound = 23
error_number DuplicateState = 24
error_number StateConsumedOnSpend = 25
error_number InvalidTransition = 26
error_number InvalidSequence = 27
error_number ThresholdUnsatisfied = 28
error_number InvalidCapability = 29
error_number InvalidVerifierRef = 30
error_number VerifierFailure = 31
error_number UnsupportedVersion = 32
error_number UnsupportedAlgorithm = 33
error_number RecoveryLocked = 34
error_number InvalidRequest = 35
error_number InvalidProof = 36
error_number InvalidOperation = 37
error_number UnsatisfiableThreshold = 38
error_number LengthOverflow = 39
error_number HashMismatch = 40
error_number InvalidSince = 42
error_number AuxTooLong = 44
error_number OutputsExceedInputs = 48
error_number SessionWithdrawn = 49
