-- `molecule-limits` (specs/MoleculeLimits): each row computed from the definitions. Assumes nothing.
use Rattle.std.specs.Prelude.{refl}
use Rattle.octets.specs.Le.{to_le, from_le, number_at}
use Rattle.octets.specs.Lists.{joined}
use Rattle.octets.specs.Layout.{layout_bytes}
use Rattle.octets.specs.Places.{bytes_at}
use Rattle.protocol.specs.Rows.{◌▷◌, decide}
use Rattle.molecule.specs.Molecule.{bytes_vector, offsets_from, head_size, table_head, table_bytes}
use Rattle.molecule.specs.Table3.{table_rows, table_fields_of, read_table, between, field1, field2, field3}
use Rattle.molecule.specs.Bytes.{bytes_rows, bytes_place_from, read_bytes, witness_lock_rows, read_witness_lock, script_args_rows, read_script_args, bytes_in}
use Rattle.molecule.specs.Canonical.{canonical_of}
use Rattle.limit_rows.specs.MoleculeLimits.{MoleculeLimits, table_with, three_fields}

pub molecule-limits : MoleculeLimits
unfolding to_le from_le number_at joined layout_bytes bytes_at decide bytes_vector offsets_from head_size table_head table_bytes table_rows table_fields_of read_table between field1 field2 field3 bytes_rows bytes_place_from read_bytes witness_lock_rows read_witness_lock script_args_rows read_script_args bytes_in canonical_of table_with three_fields
molecule-limits =
    record {
      of-15 = λ s h. rw h;
      total = refl;
      first = refl;
      offsets = refl;
      places = refl;
      fields = refl;
      lock = refl;
      args = refl;
      locks = refl;
      lock-length = refl;
      args-length = refl;
      canonical = refl;
    }
