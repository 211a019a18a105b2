use Rattle.std.proofs.Common.{◌∙◌, ℕ, sym, subst, List, slice_index_or}
use Rattle.std.proofs.lemmas.Result.{IfOk-weaker}
use Rattle.qvt_base.specs.declared.numbers.FeatureNo.{FeatureNo}
use Rattle.qvt_metamodel.proofs.Bools.{ap2}
use Rattle.qvt_meta_names.specs.Named.{number_at}
use Rattle.qvt_meta_names.specs.Rooted.{tree_word, told_place, no_number, IsTreeWith}
use Rattle.qvt_meta_names.proofs.FirstPlaces.{finds_with_old, finds_with_new, finds_here}
use Rattle.qvt_meta_names.proofs.place_tables.put_place.Goals as goal

pub returns-in-Some : goal.returns-in-Some
returns-in-Some c =
    let word = c.tree_word-word.ensures ∙ ap2 (λ (ws : List ℕ) (n : ℕ). tree_word ws c.args.levels c.args.root n) c.as_slice.ensures c.number_at-number.ensures in
    let told = sym (ap2 (λ (l : List FeatureNo) (n : ℕ). told_place c.args.numbers.now l c.tree_word-word.result n) c.split_at.ensures.front c.number_at-number.ensures) ∙ sym c.told_place.ensures ∙ c.in-Some.is in
    finds_here _ _ _ _ _ (finds_with_old c.args.numbers.now c.args.line.now c.args.words.now c.args.levels c.args.place c.args.root c.tree_word-word.result _ c.requires.within c.requires.before word told)

pub returns-in-None : goal.returns-in-None
returns-in-None c =
    let number = number_at c.args.numbers.now (slice_index_or c.args.line.now c.args.place no_number) in
    let word = c.tree_word-word.ensures ∙ ap2 (λ (ws : List ℕ) (n : ℕ). tree_word ws c.args.levels c.args.root n) c.as_slice.ensures c.number_at-number.ensures in
    let told = sym (ap2 (λ (l : List FeatureNo) (n : ℕ). told_place c.args.numbers.now l c.tree_word-word.result n) c.split_at.ensures.front c.number_at-number.ensures) ∙ sym c.told_place.ensures ∙ c.in-None.is in
    IfOk-weaker c.put_word.result _ _ (λ after tree. record {
      more = tree.more;
      finds = finds_with_new c.args.numbers.now c.args.line.now c.args.words.now c.put_word.new.words c.args.levels c.args.place c.args.root c.tree_word-word.result after
          c.requires.ready.digits c.requires.within c.requires.before word told
          (subst (λ w. IsTreeWith c.args.words.now c.put_word.new.words c.args.levels c.args.root number w after) c.in-Ok.ensures.1
          (subst (λ n. IsTreeWith c.args.words.now c.put_word.new.words c.args.levels c.args.root n c.in-Ok.told after) c.number_at-number.ensures tree));
    }) c.put_word.ensures
