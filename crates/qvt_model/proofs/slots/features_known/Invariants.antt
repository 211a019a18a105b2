use Rattle.std.proofs.Common.{◌≡◌}
use Rattle.serde_json.specs.View.{members_view}
use Rattle.qvt_model.specs.Reading.{features_known}
use Rattle.qvt_model.proofs.slots.features_known.Given as goal

abbrev pub invariant-loop-name : goal.invariant-loop-name
invariant-loop-name l = features_known l.metas l.class l.id (members_view l.name-iterator) ≡ features_known l.metas l.class l.id (members_view l.initial.name-iterator)
