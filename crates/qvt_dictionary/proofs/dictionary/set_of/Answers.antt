use Rattle.std.proofs.Common.{◌≡◌, ◌∙◌, [], get_or, length, refl}
use Rattle.std.specs.List.{list_any}
use Rattle.std.specs.Str.{bytes_eq}
use Rattle.std.proofs.lemmas.List.{get_or_read_under}
use Rattle.qvt_dictionary.proofs.Firsts.{each_is_new}
use Rattle.qvt_dictionary.proofs.dictionary.set_of.Goals as goal

pub add-requires : goal.add-requires
add-requires c =
    let texts = c.args.texts.now in
    let i = c.loop-text.text-index in
    let is : c.as_str.result.now ≡ get_or texts i [] = c.as_str.ensures ∙ get_or_read_under texts i (length texts) c.text-item.result [] c.text-item.is c.loop-text-test.true refl in
    (λ k. list_any (bytes_eq (is k)) (c.loop-text.invariant k)) ∙ each_is_new texts c.requires i c.loop-text-test.true
