use Rattle.std.proofs.Common.{◌∙◌, sym}
use Rattle.qvt_meta_repeats.proofs.Names.{front_is, front_none}
use Rattle.qvt_types_classes.proofs.reading.inherits_twice.Goals as goal

pub returns-in-None : goal.returns-in-None
returns-in-None c = λ names at. sym (front_none names c.args.inherited (sym at ∙ c.in-None.is))

pub returns-in-Some : goal.returns-in-Some
returns-in-Some c = λ names at. front_is names c.args.inherited c.in-Some.place (sym at ∙ c.in-Some.is)
