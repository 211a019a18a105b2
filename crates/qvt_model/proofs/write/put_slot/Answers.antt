use Rattle.std.proofs.Common.{◌∙◌, ap}
use Rattle.serde_json.specs.Data.{put}
use Rattle.serde_json.specs.View.{view, members_view}
use Rattle.serde_json.proofs.Views.{members_view-insert_entry}
use Rattle.qvt_model.proofs.write.put_slot.Goals as goal

pub returns : goal.returns
returns c =
    ap members_view c.in-Ok-insert.ensures.entries ∙ members_view-insert_entry c.args.members.now.entries c.in-Ok.key c.args.value
    ∙ ap (λ name. put name (view c.args.value) (members_view c.args.members.now.entries)) c.in-Ok.ensures.ok
