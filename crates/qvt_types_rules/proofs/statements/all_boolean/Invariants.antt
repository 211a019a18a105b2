use Rattle.std.proofs.Common.{◌≡◌, drop}
use Rattle.std.specs.List.{list_all}
use Rattle.qvt_types_data.specs.declared.ty.Ty.TheVariants.{Boolean}
use Rattle.qvt_types_words.specs.Types.{conforms}
use Rattle.qvt_types_rules.proofs.statements.all_boolean.Given as goal

abbrev pub invariant-loop-ty : goal.invariant-loop-ty
invariant-loop-ty l = list_all (λ t. conforms l.x.heads.units.now.metas t Boolean) (drop l.ty-index l.types) ≡ list_all (λ t. conforms l.x.heads.units.now.metas t Boolean) l.types
