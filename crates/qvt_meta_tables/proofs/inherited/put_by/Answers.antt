use Rattle.std.proofs.Common.{◌≡◌, ◌∙◌, ◌++◌, [], ap, arith, drop, sym, subst, slice_index_or}
use Rattle.std.specs.Prelude.{OnOk, slice_set}
use Rattle.std.specs.List.{flat_map}
use Rattle.qvt_metamodel.specs.Lists.{all_lists}
use Rattle.qvt_meta_tables.proofs.Once.{at_first, once_first}
use Rattle.qvt_meta_tables.proofs.inherited.put_by.Goals as goal

pub returns-clause-lists : goal.returns-clause-lists
returns-clause-lists c =
    let found = at_first (λ s. slice_index_or (all_lists c.args.lists.now) s.0 []) c.args.supers.now c.first_with.result (sym c.is_empty.ensures ∙ c.if-is_empty.false) c.first_with.ensures.within c.first_with.ensures.rest in
    subst (λ l. OnOk c.put_after.result (all_lists c.put_after.new.lists ≡ slice_set (all_lists c.args.lists.now) c.args.class (l ++ c.args.own.now)))
    (once_first (λ s. slice_index_or (all_lists c.args.lists.now) s.0 []) c.args.supers.now c.unwrap_or-at.result (record { 0 = 0 }) (omega (arith, c.unwrap_or-at.ensures, found.0))
    (found.1 ∙ ap (λ i. flat_map (λ s. slice_index_or (all_lists c.args.lists.now) s.0 []) (drop i c.args.supers.now)) (sym c.unwrap_or-at.ensures)) (c.requires.once c.if-not-once.false _))
    c.put_after.ensures.lists
