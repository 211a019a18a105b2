use Rattle.std.proofs.Common.{◌≡◌, drop, map}
use Rattle.qvt_metamodel.specs.Checks.{unknown}
use Rattle.qvt_meta_checks.proofs.checks.unknown_kind.Given as goal

abbrev pub invariant-loop-feature : goal.invariant-loop-feature
invariant-loop-feature l = unknown l.types (map (λ f. f.kind) (drop l.feature-index l.features)) ≡ unknown l.types (map (λ f. f.kind) l.features)
