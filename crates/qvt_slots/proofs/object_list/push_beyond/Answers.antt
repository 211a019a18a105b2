use Rattle.std.proofs.Common.{◌∙◌, ◌++◌, ap, List}
use Rattle.qvt_base.specs.declared.numbers.Oid.{Oid}
use Rattle.qvt_slots.specs.Numbers.{objects_past}
use Rattle.qvt_slots.proofs.Numbered.{past_is_beyond}
use Rattle.qvt_slots.proofs.object_list.push_beyond.Goals as goal

pub returns-clause-ok : goal.returns-clause-ok
returns-clause-ok c = c.in-Ok.ensures.ok ∙ ap (λ (os : List Oid). c.args.list.now ++ objects_past os c.args.values.now) c.in_ok-held.ensures
    ∙ ap (λ (os : List Oid). c.args.list.now ++ os) (past_is_beyond c.args.others.now c.args.values.now)
