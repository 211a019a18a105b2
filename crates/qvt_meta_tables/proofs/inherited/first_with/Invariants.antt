use Rattle.std.proofs.Common.{◌≡◌, [], drop, slice_index_or}
use Rattle.std.specs.List.{flat_map}
use Rattle.qvt_metamodel.specs.Lists.{all_lists}
use Rattle.qvt_meta_tables.proofs.inherited.first_with.Given as goal

abbrev pub invariant-loop-at : goal.invariant-loop-at
invariant-loop-at l = flat_map (λ s. slice_index_or (all_lists l.lists) s.0 []) l.classes ≡ flat_map (λ s. slice_index_or (all_lists l.lists) s.0 []) (drop l.at l.classes)
