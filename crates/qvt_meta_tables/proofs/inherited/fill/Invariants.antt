use Rattle.std.proofs.Common.{take}
use Rattle.qvt_meta_tables.specs.Placed.{HasJust}
use Rattle.qvt_meta_tables.proofs.inherited.fill.Given as goal

abbrev pub invariant-loop-feature : goal.invariant-loop-feature
invariant-loop-feature l = HasJust l.set (take l.feature-index l.features)
