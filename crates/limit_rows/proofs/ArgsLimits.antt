-- `args-limits` (specs/ArgsLimits): each row computed from the definitions. Assumes nothing.
use Rattle.std.specs.Prelude.{refl}
use Rattle.octets.specs.Le.{from_le, number_at}
use Rattle.octets.specs.Lists.{tabulate}
use Rattle.protocol.specs.Rows.{◌▷◌, decide}
use Rattle.protocol.specs.Args.{args_rows, read_args, account_of}
use Rattle.protocol.specs.Policy.{is_operation, operation_rows, capability_for, has_capability}
use Rattle.limit_rows.specs.ArgsLimits.{ArgsLimits}

pub args-limits : ArgsLimits
unfolding from_le number_at tabulate decide args_rows read_args account_of is_operation operation_rows capability_for has_capability
args-limits =
    record {
      of-33 = λ id h. rw h;
      of-34 = λ s h. rw h;
      first-byte-0 = λ id h. rw h;
      account = refl;
      operations = refl;
      spend = refl;
      rotate = refl;
      recovery = refl;
      others = refl;
    }
