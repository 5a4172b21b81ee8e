-- The limits, masks, magic numbers, field values and places of documents 01 and 02, as rows of one theorem about the definitions: what
-- is accepted at a limit and refused beside it, and what is read of bytes that differ. A row that names a length is for every list of
-- that length. A number that is changed in the code and in its definition alike fails here.
use Rattle.limit_rows.specs.ArgsLimits.{ArgsLimits}
use Rattle.limit_rows.specs.StateLimits.{StateLimits}
use Rattle.limit_rows.specs.WitnessLimits.{WitnessLimits}
use Rattle.limit_rows.specs.RequestLimits.{RequestLimits}
use Rattle.limit_rows.specs.WriterLimits.{WriterLimits}
use Rattle.limit_rows.specs.MoleculeLimits.{MoleculeLimits}
use Rattle.limit_rows.specs.HashLimits.{HashLimits}
use Rattle.limit_rows.specs.SceneLimits.{SceneLimits}
use Rattle.limit_rows.specs.TransitionLimits.{TransitionLimits}
use Rattle.limit_rows.specs.SinceLimits.{SinceLimits}
use Rattle.limit_rows.specs.ProofLimits.{ProofLimits}
use Rattle.limit_rows.specs.LockLimits.{LockLimits}

pub record LimitRows : Type 0 where
  pub args : ArgsLimits
  pub state : StateLimits
  pub witness : WitnessLimits
  pub request : RequestLimits
  pub writers : WriterLimits
  pub molecule : MoleculeLimits
  pub hash : HashLimits
  pub scene : SceneLimits
  pub transition : TransitionLimits
  pub since : SinceLimits
  pub proofs : ProofLimits
  pub lock : LockLimits
