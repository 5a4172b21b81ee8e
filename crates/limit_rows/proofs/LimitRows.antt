-- `limit-rows` (specs/LimitRows): each row computed from the definitions. Assumes nothing.
use Rattle.limit_rows.proofs.ArgsLimits.{args-limits}
use Rattle.limit_rows.proofs.StateLimits.{state-limits}
use Rattle.limit_rows.proofs.WitnessLimits.{witness-limits}
use Rattle.limit_rows.proofs.RequestLimits.{request-limits}
use Rattle.limit_rows.proofs.WriterLimits.{writer-limits}
use Rattle.limit_rows.proofs.MoleculeLimits.{molecule-limits}
use Rattle.limit_rows.proofs.HashLimits.{hash-limits}
use Rattle.limit_rows.proofs.SceneLimits.{scene-limits}
use Rattle.limit_rows.proofs.TransitionLimits.{transition-limits}
use Rattle.limit_rows.proofs.SinceLimits.{since-limits}
use Rattle.limit_rows.proofs.ProofLimits.{proof-limits}
use Rattle.limit_rows.proofs.LockLimits.{lock-limits}
use Rattle.limit_rows.specs.LimitRows.{LimitRows}

pub limit-rows : LimitRows
limit-rows =
    record {
      args = args-limits;
      state = state-limits;
      witness = witness-limits;
      request = request-limits;
      writers = writer-limits;
      molecule = molecule-limits;
      hash = hash-limits;
      scene = scene-limits;
      transition = transition-limits;
      since = since-limits;
      proofs = proof-limits;
      lock = lock-limits;
    }
