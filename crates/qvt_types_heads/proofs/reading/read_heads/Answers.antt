use Rattle.std.proofs.Common.{◌∙◌}
use Rattle.qvt_tree_types.specs.Module.{module_view}
use Rattle.qvt_types_heads.proofs.Told.{read_so}
use Rattle.qvt_types_heads.proofs.reading.read_heads.Goals as goal

pub returns-clause-told : goal.returns-clause-told
returns-clause-told c =
    read_so c.args.given.now (module_view c.args.module.now) _ c.args.log.now c.declared.new.log c.tell_units.new.log c.in_ok-declarations.ensures.told c.in_ok-tell_units.ensures
    (c.lent.ensures ∙ c.in_ok-declarations.ensures.heads)
