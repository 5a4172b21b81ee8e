-- `since-limits` (specs/SinceLimits): each row computed from the definitions. Assumes nothing.
use Rattle.std.specs.Prelude.{refl}
use Rattle.protocol.specs.Rows.{◌▷◌, decide}
use Rattle.since.specs.Epoch.{epoch_of, epoch_well_formed, divisor, parts, epoch_leb}
use Rattle.since.specs.Since.{since_fields, in_epochs, well_formed, value_leb, reached}
use Rattle.state_transition.specs.Transition.{wait_rows}
use Rattle.limit_rows.specs.SinceLimits.{SinceLimits}

pub since-limits : SinceLimits
unfolding decide epoch_of epoch_well_formed divisor parts epoch_leb since_fields in_epochs well_formed value_leb reached wait_rows
since-limits =
    record {
      fields = refl;
      epoch = refl;
      reserved = refl;
      highest = refl;
      metrics = refl;
      indices = refl;
      either = refl;
      no-wait = refl;
      disagree = refl;
      blocks = refl;
      seconds = refl;
      numbers = refl;
      fractions = refl;
      zero = refl;
    }
