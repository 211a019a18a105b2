use Rattle.std.proofs.Common.{◌≡◌, ◌∙◌, ◌+◌, [], ◌&&◌, List, ap, sym, arith, drop, map}
use Rattle.std.specs.Prelude.{slice_index_or}
use Rattle.std.specs.List.{list_all}
use Rattle.std.proofs.lemmas.List.{at_drop_more}
use Rattle.qvt_base.specs.declared.numbers.FeatureNo.{FeatureNo}
use Rattle.qvt_metamodel.proofs.Infos.{map-at_all}
use Rattle.qvt_metamodel.specs.Lists.{all_lists}
use Rattle.qvt_meta_repeats.specs.Flags.{name_flags}
use Rattle.qvt_meta_given.specs.Given.{are_named_apart, name_in}
use Rattle.qvt_meta_given.proofs.named.all_differ.Goals as goal

-- the test of the next list stands before that of the others
pub loop-class-preserved : goal.loop-class-preserved
loop-class-preserved c =
    let fs = c.args.features.now in
    let lists = all_lists c.args.lists.now in
    let class = c.loop-class.class in
    let flags : slice_index_or c.in_ok-repeats.repeats class [] ≡ name_flags (map (name_in fs) (slice_index_or lists class [])) =
    ap (λ r. slice_index_or r class []) c.in_ok-repeats.ensures ∙ map-at_all (λ (list : List FeatureNo). name_flags (map (name_in fs) list)) lists class [] in
    sym (at_drop_more (list_all (are_named_apart fs)) lists class [] (omega (arith, c.loop-class-test.true, c.requires.count))
    ∙ ap (λ b. b && list_all (are_named_apart fs) (drop (class + 1) lists)) (sym (c.differ.ensures _ flags) ∙ c.if-not-differ.false))
    ∙ c.loop-class.invariant

pub returns-then-not-differ : goal.returns-then-not-differ
returns-then-not-differ c =
    let fs = c.args.features.now in
    let lists = all_lists c.args.lists.now in
    let class = c.loop-class.class in
    let flags : slice_index_or c.in_ok-repeats.repeats class [] ≡ name_flags (map (name_in fs) (slice_index_or lists class [])) =
    ap (λ r. slice_index_or r class []) c.in_ok-repeats.ensures ∙ map-at_all (λ (list : List FeatureNo). name_flags (map (name_in fs) list)) lists class [] in
    sym (at_drop_more (list_all (are_named_apart fs)) lists class [] (omega (arith, c.loop-class-test.true, c.requires.count))
    ∙ ap (λ b. b && list_all (are_named_apart fs) (drop (class + 1) lists)) (sym (c.differ.ensures _ flags) ∙ c.if-not-differ.true))
    ∙ c.loop-class.invariant
