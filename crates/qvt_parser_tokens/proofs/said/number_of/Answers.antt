use Rattle.std.proofs.Common.{pos, sym, ap, ◌∙◌, subst, w64}
use mir.Val.{SFits}
use Rattle.std.proofs.lemmas.Int.{to_z-of_z}
use Rattle.qvt_parser_tokens.proofs.Numerals.{parsed}
use Rattle.qvt_parser_tokens.proofs.said.number_of.Goals as goal

pub returns-in-Ok : goal.returns-in-Ok
returns-in-Ok c =
    let all = parsed c.args.digits.now c.parse.result c.utf8.digits c.requires c.parse.ensures.value.0 in
    let is = rw c.in-Ok.is at all in
    to_z-of_z w64 c.in-Ok.number (subst (SFits w64) (sym c.in-Ok.ensures.value.0.1) c.in-Ok.ensures.value.0.0.1) ∙ is

pub returns-in-Err : goal.returns-in-Err
returns-in-Err c =
    let all = parsed c.args.digits.now c.parse.result c.utf8.digits c.requires c.parse.ensures.value.0 in
    let is = rw c.in-Err.is at all in
    ap pos (sym is)
