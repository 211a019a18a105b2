use Rattle.std.proofs.Common.{◌≡◌, ◌∙◌, ap, length, get_or, inr, subst, List, ℕ, ◌<◌}
use Rattle.qvt_outcome.specs.Outcome.{write_fault_line}
use Rattle.qvt_outcome.specs.Plans.{files_in}
use Rattle.qvt_outcome.specs.Reported.{Reports, name_at}
use Rattle.qvt_outcome.specs.declared.status.Status.TheVariants as status
use Rattle.qvt_outcome.proofs.Written.{line_at, stopped_among, within_outputs}
use Rattle.qvt_outcome.proofs.plan.carry_out.Goals as goal

pub returns-in-Some : goal.returns-in-Some
returns-in-Some g c =
    let outputs = c.args.plan.now.outputs in
    let stopped = stopped_among outputs c.as_slice.result.now c.in-Some.k (g.F.Files.seen c.args.files.now) (g.F.Files.seen c.write_all.new.files)
    c.as_slice.ensures c.in-Some.ensures.stopped in
    let within : c.in-Some.k < length outputs = within_outputs outputs c.in-Some.k stopped.within in
    let is : c.index-as_slice-k.result ≡ get_or outputs c.in-Some.k c.index-as_slice-k.result =
    c.index-as_slice-k.is ∙ ap (λ os. get_or os c.in-Some.k c.index-as_slice-k.result) c.as_slice-in-Some.ensures in
    let line : c.as_slice-in-Some-2.result.now ≡ write_fault_line (name_at (files_in outputs) c.in-Some.k) =
    c.as_slice-in-Some-2.ensures ∙ line_at outputs c.in-Some.k c.index-as_slice-k.result within is c.requires in
    let reports : List ℕ → Type 0 = λ text. Reports text status.WriteFault (g.S.Sink.seen c.args.out.now) (g.S.Sink.seen c.report-in-Some.new.out) c.report-in-Some.result in
    inr (c.in-Some.k, stopped, subst reports line c.report-in-Some.ensures)
