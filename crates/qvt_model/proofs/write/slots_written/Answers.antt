use Rattle.std.proofs.Common.{◌∙◌, ap}
use Rattle.serde_json.specs.Data.{object}
use Rattle.serde_json.proofs.Views.{view-Object}
use Rattle.qvt_model.proofs.write.slots_written.Goals as goal

pub returns : goal.returns
returns c = view-Object c.in_ok-members_written.field-0 ∙ ap object c.in_ok-members_written.ensures
