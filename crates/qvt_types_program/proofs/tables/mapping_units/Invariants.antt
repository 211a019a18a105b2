use Rattle.std.proofs.Common.{◌≡◌, ◌++◌, drop}
use Rattle.qvt_types_groups.specs.Numbers.{is_mapping, numbers_where}
use Rattle.qvt_types_program.proofs.tables.mapping_units.Given as goal

abbrev pub invariant-loop-number : goal.invariant-loop-number
invariant-loop-number l = l.mappings ++ numbers_where (λ u. is_mapping u.sort) l.number (drop l.number l.signatures) ≡ numbers_where (λ u. is_mapping u.sort) 0 l.signatures
