use Rattle.std.proofs.Common.{◌≡◌, ◌∙◌, ◌<◌, List, [], length, ap, sym, subst, arith, take, slice_index_or}
use Rattle.std.proofs.lemmas.List.{get_or_read}
use Rattle.qvt_base.specs.declared.numbers.FeatureNo.{FeatureNo}
use Rattle.qvt_meta_names.specs.Rooted.{FindsPlaces}
use Rattle.qvt_meta_names.proofs.FirstPlaces.{finds_front, finds_nothing}
use Rattle.qvt_meta_names.proofs.place_tables.put_line.Goals as goal

pub put_places-requires-clause-before : goal.put_places-requires-clause-before
put_places-requires-clause-before c = finds_nothing _ _ _ _

pub put_places-requires-in-Some-clause-before : goal.put_places-requires-in-Some-clause-before
put_places-requires-in-Some-clause-before c =
    let there : c.args.line < length c.lines.result.now = omega (arith, c.requires.within, ap length c.lines.ensures) in
    let line : c.as_slice-features.result.now ≡ slice_index_or c.args.lists.now.lines c.args.line [] =
    c.as_slice-features.ensures ∙ get_or_read c.lines.result.now c.args.line _ there c.index-lines-line.is [] ∙ ap (λ (ls : List (List FeatureNo)). slice_index_or ls c.args.line []) c.lines.ensures in
    subst (λ (l : List FeatureNo). FindsPlaces c.args.numbers.now l c.args.words.now c.args.levels (slice_index_or c.args.roots.now c.in-Some.front.line 0)) (sym (ap (take c.in-Some.front.count) line ∙ c.in-Some.ensures.has.same))
    (finds_front _ _ _ _ _ c.in-Some.front.count (c.requires.before c.in-Some.front.line c.in-Some.ensures.before))
