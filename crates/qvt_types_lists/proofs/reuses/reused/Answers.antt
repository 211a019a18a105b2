use Rattle.std.proofs.Common.{◌∙◌, ◌++◌}
use Rattle.std.specs.List.{flat_map}
use Rattle.qvt_tree_types.specs.declared.types.PathTree.{PathTree}
use Rattle.qvt_types_groups.specs.Reuse.{numbers_of, listed}
use Rattle.qvt_types_lists.proofs.Told.{three}
use Rattle.qvt_types_lists.proofs.reuses.reused.Goals as goal

pub returns : goal.returns
returns c =
    let named = λ (path : PathTree). numbers_of (listed c.args.metas.now c.args.names.now c.args.units.now path.names) in
    three named c.args.mapping.now.inherits c.args.mapping.now.merges c.args.mapping.now.disjuncts _ _ _
    (c.in_ok-add_listed.ensures ∙ (λ i. c.new-numbers.ensures i ++ flat_map named (c.as_slice.ensures i)))
    (c.in_ok-add_listed-2.ensures ∙ (λ i. c.add_listed.new.numbers ++ flat_map named (c.as_slice-2.ensures i)))
    (c.in_ok-add_listed-3.ensures ∙ (λ i. c.add_listed-2.new.numbers ++ flat_map named (c.as_slice-3.ensures i)))
