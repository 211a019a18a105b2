use Rattle.std.proofs.Common.{◌≡◌, drop}
use Rattle.serde_json.specs.Data.{no_members}
use Rattle.serde_json.specs.View.{members_view}
use Rattle.qvt_model.specs.Writing.{members_onto}
use Rattle.qvt_model.proofs.write.members_written.Given as goal

abbrev pub invariant-loop-feature : goal.invariant-loop-feature
invariant-loop-feature l =
    members_onto l.store l.places l.owner.0 (members_view l.members.entries) (drop l.feature-index l.feature-items) ≡ members_onto l.store l.places l.owner.0 no_members l.feature-items
