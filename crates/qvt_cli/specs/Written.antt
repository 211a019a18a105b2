-- Whether a call may have written a file.
use Rattle.std.specs.Prelude.{◌≡◌, ◌≢◌, ◌⊎◌, Some}
use Rattle.qvt_base.specs.Outside.{Held, FilesSeen}
use Rattle.qvt_outcome.specs.declared.status.Status.{Status}
use Rattle.qvt_outcome.specs.declared.status.Status.TheVariants as status

-- it answers that it is done, or the files hold no longer what they held
abbrev pub HasWritten : Status → Held → FilesSeen → Type 0
HasWritten answer held now = (answer ≡ status.Done) ⊎ (now.held ≢ Some held)
