use Rattle.std.proofs.Common.{◌≡◌, ◌∙◌, ap, subst, sym}
use Rattle.std.specs.Prelude.{IfOk}
use Rattle.std.specs.List.{find}
use Rattle.qvt_value.specs.declared.value.Value.{Value, Invalid}
use Rattle.qvt_value.specs.declared.value.Reason.TheVariants.{TooLarge}
use Rattle.qvt_value.specs.Make.{is_invalid}
use Rattle.qvt_run_rules.specs.Logic.{value_or}
use Rattle.qvt_exec_words.proofs.Gathering.{collected, too_many}
use Rattle.qvt_exec_words.proofs.literals.Gathered.into_value.Goals as goal

pub returns-then-not-is_full : goal.returns-then-not-is_full
returns-then-not-is_full c =
    λ k all a. subst (λ (w : Value). IfOk c.collection.result (λ v. v ≡ w)) (collected c.args.place c.args.self k all a c.if-not-is_full.true) c.collection.ensures

pub returns-in-Some : goal.returns-in-Some
returns-in-Some c =
    λ k all a.
    ap (λ o. value_or o (Invalid TooLarge c.args.place)) (sym c.in-Some.is ∙ c.in_ok-invalid.ensures ∙ ap (find is_invalid) c.as_slice.ensures)
    ∙ too_many c.args.place c.args.self k all a c.if-not-is_full.false

pub returns : goal.returns
returns c =
    λ k all a.
    ap (λ o. value_or o (Invalid TooLarge c.args.place)) (sym c.in-None.is ∙ c.in_ok-invalid.ensures ∙ ap (find is_invalid) c.as_slice.ensures)
    ∙ too_many c.args.place c.args.self k all a c.if-not-is_full.false
