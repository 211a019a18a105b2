use Rattle.std.proofs.Common.{◌∙◌, sym, ap, length}
use Rattle.std.specs.Prelude.{Some, nat_lt}
use Rattle.std.specs.Str.{chars}
use Rattle.qvt_ocl_texts.proofs.Chars.{chosen, cut_there, front_is, seam, within}
use Rattle.qvt_ocl_texts.proofs.texts.first_chars.Goals as goal

pub overflow_sub-text : goal.overflow_sub-text
overflow_sub-text c = within c.args.text.now _ c.in_ok-rest.rest.now (seam c.args.text.now c.in_ok-rest.rest.now c.args.n c.utf8.text c.in_ok-rest.ensures.text c.in_ok-rest.ensures.value)

pub split_at-requires : goal.split_at-requires
split_at-requires c = cut_there c.args.text.now _ c.in_ok-rest.rest.now (seam c.args.text.now c.in_ok-rest.rest.now c.args.n c.utf8.text c.in_ok-rest.ensures.text c.in_ok-rest.ensures.value) c.in_ok-rest.ensures.text

pub returns : goal.returns
returns c = ap Some (c.split_at.ensures.front ∙ front_is c.args.text.now _ c.in_ok-rest.rest.now (seam c.args.text.now c.in_ok-rest.rest.now c.args.n c.utf8.text c.in_ok-rest.ensures.text c.in_ok-rest.ensures.value)) ∙ sym (chosen (nat_lt (length (chars c.args.text.now)) c.args.n) _ _ _ c.in_ok-rest.ensures.value)
