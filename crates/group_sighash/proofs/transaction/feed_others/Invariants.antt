-- `group_sighash::transaction::feed_others` meets its contract: what is fed and what is left give the whole. Assumes nothing.
use mathlib.Core.Path.{◌≡◌}
use Rattle.blake2b.specs.State.{fed_all}
use Rattle.authorization.specs.Sighash.{hashed_witnesses}
use Rattle.scene_table.specs.Lent.{scene_in}
use Rattle.group_sighash.specs.Witnesses.{other_witnesses}
use Rattle.group_sighash.specs.Hashed.{hashed_from}
use Rattle.group_sighash.proofs.transaction.feed_others.Given as goal

abbrev pub invariant-loop-i : goal.invariant-loop-i
invariant-loop-i l = fed_all l.initial.fed (hashed_witnesses (other_witnesses (scene_in l.scene.table l.scene.store)))
    ≡ fed_all l.fed (hashed_witnesses (hashed_from l.scene.table l.scene.store l.i))
