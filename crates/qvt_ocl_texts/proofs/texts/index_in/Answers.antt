use Rattle.std.proofs.Common.{◌∙◌, sym, ap, pos}
use Rattle.qvt_ocl_words.specs.Integers.{whole}
use Rattle.qvt_ocl_texts.proofs.Finds.{index_at, index_none}
use Rattle.qvt_ocl_texts.proofs.texts.index_in.Goals as goal

pub returns-in-Some : goal.returns-in-Some
returns-in-Some c =
    c.following.ensures
    ∙ ap (λ n. whole c.args.place (pos n)) (index_at c.args.part.now c.args.text.now c.range.result.now c.in-Some.i c.count_chars.result
    (sym c.is_empty.ensures ∙ c.if-is_empty.false) c.in-Some.ensures.cases c.count_chars.ensures c.range.ensures.value)

pub returns-in-None : goal.returns-in-None
returns-in-None c = ap (λ n. whole c.args.place (pos n)) (index_none c.args.part.now c.args.text.now c.in-None.ensures.cases)
