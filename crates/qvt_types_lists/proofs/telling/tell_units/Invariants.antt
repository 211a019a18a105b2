use Rattle.std.proofs.Common.{◌≡◌, ◌++◌, map, drop}
use Rattle.qvt_tree_types.specs.Module.{unit_view}
use Rattle.qvt_types_groups.specs.Units.{lists_told}
use Rattle.qvt_types_lists.proofs.telling.tell_units.Given as goal

abbrev pub invariant-loop-number : goal.invariant-loop-number
invariant-loop-number l =
    l.log ++ lists_told l.listing.given.now l.listing.metas.now l.listing.names.now l.listing.units.now l.lists l.number (map unit_view (drop l.number l.written))
    ≡ l.initial.log ++ lists_told l.listing.given.now l.listing.metas.now l.listing.names.now l.listing.units.now l.lists 0 (map unit_view l.written)
