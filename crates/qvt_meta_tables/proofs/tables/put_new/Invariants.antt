use Rattle.std.proofs.Common.{◌≡◌, List, ◌++◌, drop, take}
use Rattle.qvt_base.specs.declared.numbers.FeatureNo.{FeatureNo}
use Rattle.qvt_metamodel.specs.Metamodels.{each_once}
use Rattle.qvt_meta_tables.specs.Placed.{AreIn}
use Rattle.qvt_meta_tables.proofs.tables.put_new.Given as goal

abbrev pub invariant-loop-feature : goal.invariant-loop-feature
invariant-loop-feature l =
    (gs : List FeatureNo) → AreIn l.initial.placed gs
    → (each_once gs l.own ≡ take l.feature-index l.own ++ each_once (gs ++ take l.feature-index l.own) (drop l.feature-index l.own)) × AreIn l.placed (gs ++ take l.feature-index l.own)
