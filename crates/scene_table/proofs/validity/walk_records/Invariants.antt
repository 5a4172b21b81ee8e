-- `scene_table::validity::walk_records` meets its contract: what is left to walk gives the whole. Assumes nothing.
use Rattle.std.proofs.Common.{◌≡◌, ◌+◌, ◌-◌, ◌*◌, Some}
use Rattle.scene_table.specs.RecordsWalk.{walk_records, record_ok, record_size, record_width}
use Rattle.scene_table.proofs.validity.walk_records.Given as goal

abbrev pub invariant-loop-i : goal.invariant-loop-i
invariant-loop-i l = walk_records l.table (record_ok l.table l.form) (record_size l.table l.form) (record_width l.form) l.n l.first (Some l.fn.used) ≡ walk_records l.table (record_ok l.table l.form) (record_size l.table l.form) (record_width l.form) (l.n - l.i) (l.first + record_width l.form * l.i) (Some l.end)
