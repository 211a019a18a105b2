use Rattle.std.proofs.Common.{◌≡◌, map, take}
use Rattle.std.specs.List.{flat_map}
use Rattle.qvt_meaning.specs.Numbered.{in_unit}
use Rattle.qvt_types_nodes.specs.Module.{typed_unit_view}
use Rattle.qvt_program_exprs.specs.Listing.{listing}
use Rattle.qvt_program_exprs.proofs.units.all_exprs.Given as goal

abbrev pub invariant-loop-node : goal.invariant-loop-node
invariant-loop-node l = listing l.all ≡ flat_map in_unit (map typed_unit_view (take l.node-index l.node-items))
