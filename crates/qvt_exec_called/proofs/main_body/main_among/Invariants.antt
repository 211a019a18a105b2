use Rattle.std.proofs.Common.{◌≡◌, drop, map}
use Rattle.qvt_types_nodes.specs.Module.{typed_unit_view}
use Rattle.qvt_meaning.specs.Run.{main_in}
use Rattle.qvt_exec_called.proofs.main_body.main_among.Given as goal

abbrev pub invariant-loop-unit : goal.invariant-loop-unit
invariant-loop-unit l = main_in (map typed_unit_view l.units) ≡ main_in (map typed_unit_view (drop l.unit-index l.units))
