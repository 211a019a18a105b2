use Rattle.std.proofs.Common.{◌≡◌, [], drop, slice_index_or}
use Rattle.std.specs.List.{flat_map}
use Rattle.qvt_metamodel.specs.Metamodels.{each_once}
use Rattle.qvt_metamodel.specs.Lists.{all_lists}
use Rattle.qvt_meta_tables.proofs.inherited.beyond_all.Given as goal

abbrev pub invariant-loop-class : goal.invariant-loop-class
invariant-loop-class l = l.count ≡ 0
    → each_once (slice_index_or (all_lists l.lists) l.superclass []) (flat_map (λ s. slice_index_or (all_lists l.lists) s.0 []) (drop l.class-index l.others))
    ≡ each_once (slice_index_or (all_lists l.lists) l.superclass []) (flat_map (λ s. slice_index_or (all_lists l.lists) s.0 []) l.others)
