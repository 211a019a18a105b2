use Rattle.std.proofs.Common.{◌∙◌, ap, position, sym}
use Rattle.std.specs.Prelude.{is_none}
use Rattle.qvt_meta_repeats.proofs.Names.{is_unflagged}
use Rattle.qvt_meta_given.proofs.named.differ.Goals as goal

pub returns-in-None : goal.returns-in-None
returns-in-None c = λ names are. sym (is_unflagged names ∙ ap is_none (ap (position (λ b. b)) (sym are) ∙ sym c.first.ensures ∙ c.in-None.is))

pub returns-in-Some : goal.returns-in-Some
returns-in-Some c = λ names are. sym (is_unflagged names ∙ ap is_none (ap (position (λ b. b)) (sym are) ∙ sym c.first.ensures ∙ c.in-Some.is))
