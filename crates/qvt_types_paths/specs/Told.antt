-- Refusals that are told of a node.
use Rattle.std.specs.Prelude.{Bool, List, [], ◌∷◌, if◌then◌else◌}
use Rattle.qvt_base.specs.declared.numbers.Place.{Place}
use Rattle.qvt_types_data.specs.declared.refusal.TypingRefusal.{TypingRefusal}
use Rattle.qvt_types_data.specs.declared.refusal.RefusalKind.{RefusalKind}

abbrev pub told_if : Bool → RefusalKind → Place → List TypingRefusal
told_if is_wrong kind at = if is_wrong then record { kind = kind; place = at } ∷ [] else []
