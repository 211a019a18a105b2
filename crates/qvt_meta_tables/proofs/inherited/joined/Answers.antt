use Rattle.std.proofs.Common.{◌∙◌, ◌++◌, ◌+◌, [], ap, sym, drop, slice_index_or}
use Rattle.std.specs.List.{flat_map}
use Rattle.std.proofs.lemmas.List.{append-nil, drop_more}
use Rattle.qvt_metamodel.specs.Metamodels.{among_features, each_once}
use Rattle.qvt_metamodel.specs.Lists.{all_lists}
use Rattle.qvt_meta_tables.proofs.Once.{behind_part}
use Rattle.qvt_meta_tables.proofs.inherited.joined.Goals as goal

pub loop-class-init : goal.loop-class-init
loop-class-init c = record {
  list = λ gs just of.
      ap (λ l. l ++ each_once (gs ++ l) (flat_map (λ s. slice_index_or (all_lists c.args.lists.now) s.0 []) c.args.classes.now)) c.new-list.ensures
      ∙ ap (λ l. each_once l (flat_map (λ s. slice_index_or (all_lists c.args.lists.now) s.0 []) c.args.classes.now)) (append-nil gs);
  later = λ n. c.clear.ensures n ∙ sym (ap (among_features n) c.new-list.ensures);
}

pub loop-class-preserved : goal.loop-class-preserved
loop-class-preserved c = record {
  list = λ gs just of. behind_part gs _ c.loop-class.list c.add_new.new.list _ _ (flat_map (λ s. slice_index_or (all_lists c.args.lists.now) s.0 []) (drop (c.loop-class.class-index + 1) c.args.classes.now))
      (c.loop-class.invariant.list gs just of)
      (ap (flat_map (λ s. slice_index_or (all_lists c.args.lists.now) s.0 [])) (drop_more c.args.classes.now c.loop-class.class-index _ c.loop-class-test.true))
      (c.in_ok-add_new.ensures.list gs just ∙ ap (λ fs. c.loop-class.list ++ fs) (c.beyond.ensures gs c.loop-class.list of));
  later = c.in_ok-add_new.ensures.later;
}
