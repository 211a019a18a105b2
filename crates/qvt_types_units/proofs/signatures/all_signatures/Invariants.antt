use Rattle.std.proofs.Common.{◌≡◌, ◌++◌, map, drop}
use Rattle.qvt_tree_types.specs.Module.{unit_view}
use Rattle.qvt_types_units.specs.Signatures.{signatures_from, signatures}
use Rattle.qvt_types_units.proofs.signatures.all_signatures.Given as goal

abbrev pub invariant-loop-unit : goal.invariant-loop-unit
invariant-loop-unit l = l.list ++ signatures_from l.metas l.names l.mappings (map unit_view (drop l.unit-index l.units)) ≡ signatures l.metas l.names (map unit_view l.units)
