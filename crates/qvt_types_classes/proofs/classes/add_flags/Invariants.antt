use Rattle.std.proofs.Common.{◌≡◌, ◌++◌, map, take}
use Rattle.qvt_types_classes.specs.declared.declared.Property.{Property}
use Rattle.qvt_types_classes.proofs.classes.add_flags.Given as goal

abbrev pub invariant-loop-property : goal.invariant-loop-property
invariant-loop-property l = l.flags ≡ l.initial.flags ++ map (λ (p : Property). p.typed) (take l.property-index l.properties)
