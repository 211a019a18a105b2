use Rattle.std.proofs.Common.{◌≡◌, map, take}
use Rattle.qvt_types_groups.specs.Numbers.{unit_at}
use Rattle.qvt_types_program.specs.Mappings.{traced}
use Rattle.qvt_types_program.proofs.tables.mapping_names.Given as goal

abbrev pub invariant-loop-number : goal.invariant-loop-number
invariant-loop-number l = l.names ≡ map (λ n. traced l.units.metas (unit_at l.units.units n)) (take l.number-index l.mappings)
