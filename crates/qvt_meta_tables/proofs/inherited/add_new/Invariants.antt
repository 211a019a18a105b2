use Rattle.std.proofs.Common.{◌≡◌, List, ◌++◌, drop}
use Rattle.qvt_base.specs.declared.numbers.FeatureNo.{FeatureNo}
use Rattle.qvt_metamodel.specs.Metamodels.{each_once}
use Rattle.qvt_meta_tables.specs.Placed.{HasJust}
use Rattle.qvt_meta_tables.proofs.inherited.add_new.Given as goal

abbrev pub invariant-loop-feature : goal.invariant-loop-feature
invariant-loop-feature l = record {
  list : (gs : List FeatureNo) → HasJust l.first gs → l.list ++ each_once (gs ++ l.list) (drop l.feature-index l.features) ≡ l.initial.list ++ each_once (gs ++ l.initial.list) l.features;
  later : HasJust l.later l.list;
}
