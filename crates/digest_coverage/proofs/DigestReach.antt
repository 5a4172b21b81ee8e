-- 02, change 12: what a digest covers, in one statement.
-- Assumes nothing.
use Rattle.digest_coverage.specs.DigestReach.{DigestReach}
use Rattle.digest_coverage.proofs.InputTheorem.{sighash-covers}
use Rattle.digest_coverage.proofs.EqualDigests.{inputs-cover, covers-exactly}
use Rattle.digest_coverage.proofs.LockField.{lock-field-free}
use Rattle.digest_coverage.proofs.Border.{border-unmarked, border-differs}
use Rattle.digest_coverage.proofs.BorderDigest.{border-one-digest}

pub digest-reach : DigestReach
digest-reach = record {
  sighash = sighash-covers;
  border = λ s more h some extra. (border-unmarked s more h, border-differs s more h some extra, λ d e a b. border-one-digest s more d e a b h.group);
  digest = inputs-cover;
  exactly = covers-exactly;
  lock_field = lock-field-free;
}
