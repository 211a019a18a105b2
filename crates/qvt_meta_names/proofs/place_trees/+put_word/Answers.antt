use Rattle.std.proofs.Common.{◌≡◌, ◌∙◌, suc, ◌-◌, ◌+◌, ◌%◌, ap, arith, subst, sym, slice_index_or}
use Rattle.std.proofs.lemmas.Result.{IfOk-weaker}
use Rattle.qvt_meta_names.specs.Rooted.{IsTreeWith}
use Rattle.qvt_meta_names.proofs.Trees.{tree_above}
use Rattle.qvt_meta_names.proofs.place_trees.+put_word.Goals as goal

pub returns : goal.returns
returns t c =
    let levels : c.args.levels ≡ suc (c.args.levels - 1) = omega (arith, c.if-levels-eq0.false) in
    let child = c.word_at-child.ensures ∙ ap (λ ws. slice_index_or ws (c.args.root + c.args.number % 4) 0) c.as_slice.ensures in
    IfOk-weaker c.push_node.result _ _ (λ at h. subst (λ l. IsTreeWith c.args.words.now c.push_node.new.words l c.args.root c.args.number c.args.word at) (sym levels)
    (tree_above _ _ _ _ _ _ _ _ _ _ c.requires.empty c.requires.word child c.in_ok-below.ensures h.0 h.1)) c.push_node.ensures
