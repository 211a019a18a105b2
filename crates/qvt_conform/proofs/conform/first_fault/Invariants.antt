use Rattle.std.proofs.Common.{◌≡◌, drop}
use Rattle.qvt_conform.specs.Lacking.{features_fault_by}
use Rattle.qvt_conform.proofs.conform.first_fault.Given as goal

abbrev pub invariant-loop-feature : goal.invariant-loop-feature
invariant-loop-feature l = features_fault_by l.metas l.links l.place l.object (drop l.feature-index l.feature-items) ≡ features_fault_by l.metas l.links l.place l.object l.feature-items
