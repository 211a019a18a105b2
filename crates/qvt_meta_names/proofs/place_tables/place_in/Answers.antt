use Rattle.std.proofs.Common.{◌≡◌, ◌∙◌, ◌==◌, List, ℕ, [], ap, sym, subst, take, slice_index_or, position}
use Rattle.qvt_base.specs.declared.numbers.FeatureNo.{FeatureNo}
use Rattle.qvt_metamodel.proofs.Bools.{ap2}
use Rattle.qvt_metamodel.proofs.Fronts.{list_at, no_list}
use Rattle.qvt_meta_names.specs.Named.{number_at}
use Rattle.qvt_meta_names.specs.Rooted.{tree_word, FindsPlaces}
use Rattle.qvt_meta_names.proofs.FirstPlaces.{finds_front, told_first}
use Rattle.qvt_meta_names.proofs.place_tables.place_in.Goals as goal

pub returns-in_default : goal.returns-in_default
returns-in_default c =
    sym (ap (position (λ (f : FeatureNo). c.args.number == number_at c.args.numbers.now f)) (no_list c.args.lists.now.lines c.args.lists.now.fronts c.args.class (sym c.front.ensures.value ∙ c.in_default.is)))

pub returns : goal.returns
returns c =
    let at = c.in-Some.front.line in
    let tables = c.args.tables.now in
    let list : c.at.result.now ≡ take c.in-Some.front.count (slice_index_or c.args.lists.now.lines at []) =
    c.at.ensures ∙ list_at c.args.lists.now.lines c.args.lists.now.fronts c.args.class c.in-Some.front (sym c.front.ensures.value ∙ c.in-Some.is) in
    let finds : FindsPlaces c.args.numbers.now c.at.result.now tables.words tables.levels (slice_index_or tables.roots at 0) =
    subst (λ (l : List FeatureNo). FindsPlaces c.args.numbers.now l tables.words tables.levels (slice_index_or tables.roots at 0)) (sym list)
    (finds_front _ _ _ _ _ c.in-Some.front.count (c.requires.at at c.in-Some.ensures.within.line)) in
    let word : c.tree_word-word.result ≡ tree_word tables.words tables.levels (slice_index_or tables.roots at 0) c.args.number =
    c.tree_word-word.ensures ∙ ap2 (λ (ws rs : List ℕ). tree_word ws tables.levels (slice_index_or rs at 0) c.args.number) c.as_slice-2.ensures c.as_slice.ensures in
    c.told_place.ensures ∙ told_first _ _ _ _ _ _ c.args.number finds word ∙ ap (position (λ (f : FeatureNo). c.args.number == number_at c.args.numbers.now f)) c.at.ensures
