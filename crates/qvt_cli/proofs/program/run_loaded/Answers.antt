use Rattle.std.proofs.Common.{◌∙◌, ℕ, List, Option, ap, subst}
use Rattle.qvt_store.specs.Contents.{Contents}
use Rattle.qvt_types_program.specs.Program.{program_view}
use Rattle.qvt_types_program.specs.declared.program.Program.{Program}
use Rattle.qvt_outcome.specs.Plans.{outcome_of}
use Rattle.qvt_outcome.specs.Steps.{GivesOrStops}
use Rattle.qvt_exec.specs.Comes.{Comes}
use Rattle.qvt_work.specs.Ends.{left_over}
use Rattle.qvt_meaning.specs.Run.{finished}
use Rattle.qvt_cli.proofs.program.run_loaded.Goals as goal

pub returns-clause-gives : goal.returns-clause-gives
returns-clause-gives c =
    let parts = c.into_parts-store.ensures in
    let held = c.new-2.ensures ∙ ap (λ x. x.0) parts in
    let ran = subst (λ (s : Contents). Comes (finished (program_view c.in_ok-expressions.expressions.program.now) s c.args.job.now.fuel) c.run-end.result) held c.run-end.ensures.comes in
    let comes = subst (λ (p : Program). Comes (finished (program_view p) c.args.loaded.store c.args.job.now.fuel) c.run-end.result) c.in_ok-expressions.ensures.program ran in
    subst (λ (ids : List (Option (List ℕ))). GivesOrStops outcome_of c.ended.result (left_over c.args.job.now (program_view c.args.program.now) ids c.args.loaded.store)) (ap (λ x. x.1) parts)
    (c.ended.ensures.gives c.args.loaded.store comes)

pub returns-clause-conform : goal.returns-clause-conform
returns-clause-conform c =
    let parts = c.into_parts-store.ensures in
    let held = c.new-2.ensures ∙ ap (λ x. x.0) parts in
    let ran = subst (λ (s : Contents). Comes (finished (program_view c.in_ok-expressions.expressions.program.now) s c.args.job.now.fuel) c.run-end.result) held c.run-end.ensures.comes in
    c.ended.ensures.conform c.args.loaded.store (subst (λ (p : Program). Comes (finished (program_view p) c.args.loaded.store c.args.job.now.fuel) c.run-end.result) c.in_ok-expressions.ensures.program ran)
