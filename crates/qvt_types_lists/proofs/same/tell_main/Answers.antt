use Rattle.std.proofs.Common.{◌∙◌, ◌++◌, ℕ, Option, not, ap, sym}
use Rattle.std.specs.Prelude.{is_some}
use Rattle.qvt_types_data.specs.declared.refusal.RefusalKind.TheVariants.{NoMain}
use Rattle.qvt_types_paths.specs.Told.{told_if}
use Rattle.qvt_types_paths.proofs.Places.{some_position}
use Rattle.qvt_types_groups.specs.declared.signature.Signature.{Signature}
use Rattle.qvt_types_groups.specs.Numbers.{is_main}
use Rattle.qvt_types_lists.proofs.Before.{twice}
use Rattle.qvt_types_lists.proofs.same.tell_main.Goals as goal

pub returns : goal.returns
returns c =
    c.in_ok-tell_if.ensures
    ∙ ap (λ b. c.args.log.now ++ told_if b NoMain c.args.end)
    (twice c.is_none-missing.result ∙ ap not (sym c.is_none-missing.ensures) ∙ ap (λ (o : Option ℕ). not (is_some o)) c.main.ensures
    ∙ ap not (some_position (λ (u : Signature). is_main u.sort) c.args.units.now))
