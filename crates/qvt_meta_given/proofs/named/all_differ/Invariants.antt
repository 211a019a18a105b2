use Rattle.std.proofs.Common.{◌≡◌, drop}
use Rattle.std.specs.List.{list_all}
use Rattle.qvt_metamodel.specs.Lists.{all_lists}
use Rattle.qvt_meta_given.specs.Given.{are_named_apart}
use Rattle.qvt_meta_given.proofs.named.all_differ.Given as goal

abbrev pub invariant-loop-class : goal.invariant-loop-class
invariant-loop-class l = list_all (are_named_apart l.features) (drop l.class (all_lists l.lists)) ≡ list_all (are_named_apart l.features) (drop l.first (all_lists l.lists))
