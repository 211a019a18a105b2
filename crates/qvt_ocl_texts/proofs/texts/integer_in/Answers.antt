use Rattle.std.proofs.Common.{◌∙◌, sym, ap, rules}
use Rattle.std.specs.Prelude.{FitsSigned}
use Rattle.std.specs.Int.{w64}
use Rattle.std.proofs.lemmas.Int.{to_z-of_z}
use Rattle.qvt_value.specs.declared.value.Value.{Int}
use Rattle.qvt_ocl_texts.proofs.Numerals.{read_as, parsed}
use Rattle.qvt_ocl_texts.proofs.texts.integer_in.Goals as goal

pub returns-in-Ok : goal.returns-in-Ok
returns-in-Ok c =
    let fits : FitsSigned w64 c.in-Ok.number = search rules in
    ap Int (to_z-of_z w64 c.in-Ok.number fits) ∙ sym (ap (read_as c.args.place) c.in-Ok.is)
    ∙ parsed c.args.place c.args.text.now c.parse.result c.parse.ensures.value.0 (sym c.begins_with_plus.ensures ∙ c.if-begins_with_plus.false)

pub returns-in-Err : goal.returns-in-Err
returns-in-Err c =
    sym (ap (read_as c.args.place) c.in-Err.is)
    ∙ parsed c.args.place c.args.text.now c.parse.result c.parse.ensures.value.0 (sym c.begins_with_plus.ensures ∙ c.if-begins_with_plus.false)
