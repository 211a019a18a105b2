use Rattle.std.proofs.Common.{◌∙◌, ◌++◌, [], ap, sym, length, get_or, arith, subst}
use Rattle.std.specs.Prelude.{slice_index}
use Rattle.std.specs.List.{flat_map}
use Rattle.std.proofs.lemmas.List.{length-set, length-replicate}
use Rattle.qvt_metamodel.specs.Metamodels.{each_once}
use Rattle.qvt_metamodel.specs.Lists.{all_lists}
use Rattle.qvt_meta_tables.specs.Placed.{AreNoted}
use Rattle.qvt_meta_tables.proofs.Filling.{lists_next, lists_all, replicate-at}
use Rattle.qvt_meta_tables.proofs.Once.{noted_next, none_noted}
use Rattle.qvt_meta_tables.proofs.tables.lists_of.Goals as goal

pub loop-class-init : goal.loop-class-init
loop-class-init c = record {
  each = ap length c.in_ok-lists.ensures ∙ length-replicate _ _;
  done = λ x live low. absurd (omega (arith, low));
  seen = tt;
  noted = λ once. none_noted _ _ (λ x. ap (λ ls. get_or ls x []) c.in_ok-lists.ensures ∙ replicate-at _ x []);
}

pub loop-class-preserved : goal.loop-class-preserved
loop-class-preserved c = record {
  each = ap length c.in_ok-put_list.ensures.lists ∙ length-set (all_lists c.loop-class.lists) _ _ ∙ c.loop-class.invariant.each;
  done = λ x live low.
      ap (λ ls. get_or ls x []) c.in_ok-put_list.ensures.lists
      ∙ lists_next c.args.classes.now c.args.order.now.classes c.args.order.now.ranks c.requires (all_lists c.loop-class.lists) c.loop-class.class-index _ _
      c.loop-class.invariant.each (sym (ap (λ xs. slice_index xs c.loop-class.class-index) c.as_slice-class-items.ensures)) c.loop-class.invariant.done
      (λ i. each_once [] (flat_map (λ s. get_or (all_lists c.loop-class.lists) s.0 []) (c.supers_at-supers.ensures i)) ++ c.own_at-own.ensures i)
      x live low;
  seen = c.in_ok-put_list.ensures.seen;
  noted = λ once.
      subst (λ ls. AreNoted ls c.note.new.placed.features) (sym c.in_ok-put_list.ensures.lists)
      (noted_next (all_lists c.loop-class.lists) _ _ (c.loop-class.invariant.noted (c.in_ok-note.ensures.once once)) _ _ _ (c.in_ok-note.ensures.new once));
}

pub returns-clause-features : goal.returns-clause-features
returns-clause-features c =
    lists_all c.args.classes.now c.args.order.now.classes c.args.order.now.ranks c.requires (all_lists c.loop-class.lists) c.loop-class.invariant.each
    (λ x live low. c.loop-class.invariant.done x live (omega (arith, low, c.loop-class-test.false, ap length c.as_slice-class-items.ensures)))
