use Rattle.std.proofs.Common.{◌∙◌, ap}
use Rattle.qvt_exec_phrases.specs.Accepts.{ProgramTerm}
use Rattle.qvt_exec_phrases.specs.Numbers.{constructor_of}
use Rattle.qvt_exec_invocations.proofs.callees.constructor.Goals as goal

pub returns : goal.returns
returns g c = c.constructor_of.ensures ∙ ap (λ (p : ProgramTerm). constructor_of c.args.class.0 c.args.count p.heads.units) c.program.ensures
