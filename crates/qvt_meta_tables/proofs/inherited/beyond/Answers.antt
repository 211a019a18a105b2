use Rattle.std.proofs.Common.{◌≡◌, ◌∙◌, ◌++◌, [], ap, drop, take, subst, slice_index_or}
use Rattle.std.specs.Prelude.{IfSome}
use Rattle.qvt_metamodel.specs.Metamodels.{each_once}
use Rattle.qvt_metamodel.specs.Lists.{all_lists}
use Rattle.qvt_meta_tables.proofs.Once.{once_beyond}
use Rattle.qvt_meta_tables.proofs.inherited.beyond.Goals as goal

pub returns-in-Some : goal.returns-in-Some
returns-in-Some c = λ gs more of.
    ap (each_once (gs ++ more)) (c.split_at.ensures.back ∙ ap (drop c.shared.result) c.at-features.ensures)
    ∙ once_beyond gs more (slice_index_or (all_lists c.args.lists.now) c.args.class []) c.shared.result
    (ap (take c.shared.result) (subst (λ o. IfSome o (λ k. gs ≡ slice_index_or (all_lists c.args.lists.now) k [])) c.in-Some.is of) ∙ c.shared.ensures.same)
