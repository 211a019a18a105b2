use Rattle.std.proofs.Common.{◌≡◌, map, take}
use Rattle.qvt_metas.specs.Added.{place_in}
use Rattle.qvt_types_classes.specs.declared.declared.Property.{Property}
use Rattle.qvt_types_classes.proofs.keyed.keys_of.Given as goal

abbrev pub invariant-loop-property : goal.invariant-loop-property
invariant-loop-property l = l.keys ≡ map (λ (p : Property). place_in l.initial.known p.name) (take l.property-index l.properties)
