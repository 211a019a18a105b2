use Rattle.std.proofs.Common.{◌≡◌, List, ◌++◌, [], drop, slice_index_or}
use Rattle.std.specs.Prelude.{IfSome}
use Rattle.std.specs.List.{flat_map}
use Rattle.qvt_base.specs.declared.numbers.FeatureNo.{FeatureNo}
use Rattle.qvt_metamodel.specs.Metamodels.{each_once}
use Rattle.qvt_metamodel.specs.Lists.{all_lists}
use Rattle.qvt_meta_tables.specs.Placed.{HasJust}
use Rattle.qvt_meta_tables.proofs.inherited.joined.Given as goal

abbrev pub invariant-loop-class : goal.invariant-loop-class
invariant-loop-class l = record {
  list : (gs : List FeatureNo) → HasJust l.first gs → IfSome l.known (λ k. gs ≡ slice_index_or (all_lists l.lists) k [])
      → l.list ++ each_once (gs ++ l.list) (flat_map (λ s. slice_index_or (all_lists l.lists) s.0 []) (drop l.class-index l.classes)) ≡ each_once gs (flat_map (λ s. slice_index_or (all_lists l.lists) s.0 []) l.classes);
  later : HasJust l.later l.list;
}
