use Rattle.std.proofs.Common.{◌≡◌, ◌∷◌, [], map, take}
use Rattle.qvt_types_classes.specs.declared.declared.Property.{Property}
use Rattle.qvt_types_classes.proofs.keyed.known_names.Given as goal

abbrev pub invariant-loop-property : goal.invariant-loop-property
invariant-loop-property l = l.known ≡ [] ∷ map (λ (p : Property). p.name) (take l.property-index l.properties)
