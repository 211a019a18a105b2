use Rattle.std.proofs.Common.{◌≡◌, drop, option_map}
use Rattle.qvt_metas.specs.Added.{numbered}
use Rattle.qvt_metamodel.specs.Checks.{first_from, repeated_feature, ClassAndName}
use Rattle.qvt_meta.proofs.same_feature.same_feature.Given as goal

abbrev pub invariant-loop-at : goal.invariant-loop-at
invariant-loop-at l = first_from {F = ClassAndName} (λ i k. option_map (λ name. (k.name, name)) (repeated_feature (numbered l.meta) i)) l.at (drop l.at l.meta.classes) ≡ first_from {F = ClassAndName} (λ i k. option_map (λ name. (k.name, name)) (repeated_feature (numbered l.meta) i)) 0 l.meta.classes
