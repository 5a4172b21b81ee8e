-- Demand 3, the answer: what stands in the buffer where every earlier row passes.
use Rattle.std.specs.Prelude.{ℕ, ◌≡◌, true, List, ◌++◌, length, drop}
use Rattle.molecule.specs.Canonical.{canonical_of}
use Rattle.blake2b.specs.State.{ckb_hash}
use Rattle.authorization.specs.Digest.{digest_input}
use Rattle.authorization.specs.Sighash.{sighash_input}
use Rattle.scene_table.specs.Lent.{scene_in}
use Rattle.group_sighash.specs.Witnesses.{first_witness, other_witnesses}
use Rattle.account_state.specs.Fields.{sequence_of}
use Rattle.account_witness.specs.Reading.{witness_proofs}
use Rattle.decision.specs.Proofs.{requests_of}
use Rattle.decision.specs.Walk.{answered}
use Rattle.decision.specs.Requests.{RequestsRead}
use Rattle.account_lock.specs.Lock.{account, operation, witness_lock, current, context_of, lock_of}

-- 01: "Each request is written into the rest of the answer buffer, behind
-- the last one. Bytes after that total are unchanged."
pub record Answers (table store before : List ℕ) : Type 0 where
  -- one request for each proof, in order, and the old bytes behind them
  pub count : (lock_of table store (length before)).count ≡ length (witness_proofs (witness_lock (scene_in table store)))
  pub buffer : answered before (lock_of table store (length before)).made
      ≡ requests_of (context_of (scene_in table store) (length before)) (witness_proofs (witness_lock (scene_in table store)))
      ++ drop (length (requests_of (context_of (scene_in table store) (length before)) (witness_proofs (witness_lock (scene_in table store))))) before
  -- the request reader reads each as what it was made from
  pub read : RequestsRead (context_of (scene_in table store) (length before)) (witness_proofs (witness_lock (scene_in table store)))
  -- and the digest in each is the lock's
  pub carried : (context_of (scene_in table store) (length before)).digest ≡ (lock_of table store (length before)).digest
  -- the digest is reached, and is CKB's hash of document 01's input
  pub reached : (lock_of table store (length before)).reached ≡ true
  pub digest : (lock_of table store (length before)).digest
      ≡ ckb_hash (digest_input (operation (scene_in table store)) (account (scene_in table store)) (sequence_of (current (scene_in table store)))
      (current (scene_in table store))
      (ckb_hash (sighash_input (scene_in table store).transaction (canonical_of (first_witness (scene_in table store))) (other_witnesses (scene_in table store)))))
