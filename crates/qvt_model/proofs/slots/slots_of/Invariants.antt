use Rattle.std.proofs.Common.{◌≡◌}
use Rattle.std.specs.List.{AllByRecursion}
use Rattle.serde_json.specs.View.{members_view}
use Rattle.qvt_json.proofs.Each.{with_front}
use Rattle.qvt_model.specs.Reading.{slots_of}
use Rattle.qvt_model.specs.WellFormed.{IsPlainSlot}
use Rattle.qvt_model.proofs.slots.slots_of.Given as goal

abbrev pub invariant-loop-name : goal.invariant-loop-name
invariant-loop-name l = record {
  slots : with_front l.slots (slots_of l.dictionary l.places l.class l.id (members_view l.name-iterator)) ≡ slots_of l.dictionary l.places l.class l.id (members_view l.initial.name-iterator);
  plain : AllByRecursion IsPlainSlot l.slots;
}
