use Rattle.std.proofs.Common.{◌≡◌, ◌∙◌, ◌++◌, List, None, [], ap, arith, length, slice_index_or, subst, sym}
use Rattle.std.proofs.lemmas.List.{append-nil}
use Rattle.qvt_base.specs.declared.numbers.FeatureNo.{FeatureNo}
use Rattle.qvt_metamodel.specs.Names.{repeated}
use Rattle.qvt_metamodel.specs.Lists.{all_lists}
use Rattle.qvt_types_data.specs.declared.refusal.TypingRefusal.{TypingRefusal}
use Rattle.qvt_types_classes.specs.declared.declared.Declared.{Declared}
use Rattle.qvt_types_classes.specs.declared.declared.Property.{Property}
use Rattle.qvt_types_classes.specs.Inherited.{IsOwnLast, all_properties, are_apart, names_of, numbered_from, property_lists}
use Rattle.qvt_types_classes.proofs.Apart.{apart_fresh, apart_read, apart_told, own_last}
use Rattle.qvt_types_classes.proofs.classes.read_classes.Goals as goal

pub returns-then-apart-clause-read : goal.returns-then-apart-clause-read
returns-then-apart-clause-read c =
    let properties = c.as_slice-4.ensures ∙ c.in_ok-properties.ensures ∙ ap all_properties c.as_slice-2.ensures in
    let fresh : repeated [] (names_of (all_properties c.args.classes)) ≡ None =
    apart_fresh (all_properties c.args.classes) (ap are_apart (sym properties) ∙ sym c.in_ok-apart.ensures ∙ c.if-apart.true) in
    sym (apart_read c.args.classes c.requires.acyclic fresh)

pub returns-then-apart-clause-told : goal.returns-then-apart-clause-told
returns-then-apart-clause-told c =
    let properties = c.as_slice-4.ensures ∙ c.in_ok-properties.ensures ∙ ap all_properties c.as_slice-2.ensures in
    let fresh : repeated [] (names_of (all_properties c.args.classes)) ≡ None =
    apart_fresh (all_properties c.args.classes) (ap are_apart (sym properties) ∙ sym c.in_ok-apart.ensures ∙ c.if-apart.true) in
    sym (ap (λ (rs : List TypingRefusal). c.args.log.now ++ rs) (apart_told c.args.classes c.requires.acyclic fresh) ∙ append-nil c.args.log.now)

pub read_all-requires : goal.read_all-requires
read_all-requires c = λ i d low.
    subst (λ (ds : List Declared). IsOwnLast c.as_slice-5.result.now (slice_index_or (all_lists c.in_ok-lists.lists) i []) (slice_index_or ds i d)) (sym c.as_slice-6.ensures)
    (subst (λ (ps : List Property). IsOwnLast ps (slice_index_or (all_lists c.in_ok-lists.lists) i []) (slice_index_or c.args.classes i d)) (sym (c.as_slice-5.ensures ∙ c.in_ok-properties.ensures ∙ ap all_properties c.as_slice-2.ensures))
    (subst (λ (lists : List (List FeatureNo)). IsOwnLast (all_properties c.args.classes) (slice_index_or lists i []) (slice_index_or c.args.classes i d))
    (sym (c.in_ok-lists.ensures.lists ∙ ap property_lists (c.as_slice-3.ensures.value ∙ c.in_ok-infos.ensures ∙ ap (numbered_from 0) c.as_slice.ensures)))
    (own_last c.args.classes i d (omega (arith, low, ap length c.as_slice-6.ensures)))))
