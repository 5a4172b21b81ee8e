-- `group_sighash::witnesses::check_others` meets its contract: those before fit. Assumes nothing.
use mathlib.Core.Path.{◌≡◌}
use Rattle.octets.specs.Lists.{every}
use Rattle.scene_table.specs.Lent.{scene_in}
use Rattle.group_sighash.specs.Witnesses.{other_witnesses, witness_fits}
use Rattle.group_sighash.specs.Hashed.{hashed_from}
use Rattle.group_sighash.proofs.witnesses.check_others.Given as goal

abbrev pub invariant-loop-i : goal.invariant-loop-i
invariant-loop-i l = every witness_fits (other_witnesses (scene_in l.scene.table l.scene.store)) ≡ every witness_fits (hashed_from l.scene.table l.scene.store l.i)
