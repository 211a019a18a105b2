use Rattle.std.proofs.Common.{◌∙◌, ap, refl, sym, subst}
use Rattle.std.specs.Prelude.{IfOk}
use Rattle.qvt_store.specs.Contents.{Contents}
use Rattle.qvt_outputs.specs.Conforming.{AreConforming}
use Rattle.qvt_live_store.specs.Held.{contents_of}
use Rattle.qvt_exec.specs.Finish.{finished_view}
use Rattle.qvt_cli.proofs.Ending.{entries_left}
use Rattle.qvt_cli.proofs.ends.finished_left.Goals as goal

pub returns-clause-gives : goal.returns-clause-gives
returns-clause-gives c = λ before is.
    let held = ap contents_of c.in-Own.is in
    c.left_by.ensures.gives (finished_view before c.args.finished) (record {
      written = record {
        store = held ∙ sym c.as_store-2.ensures;
        records = sym c.as_slice-records.ensures;
        entries = entries_left c.candidates_stay.ensures before (contents_of c.args.finished.state.store) _ c.args.finished.state.trace _ _ _ _ is (c.as_store.ensures ∙ sym held) refl c.replace-kept.ensures.value
            (c.as_slice.ensures ∙ c.in_ok-entries.ensures);
      };
      cost = refl;
    })

pub returns-clause-conform : goal.returns-clause-conform
returns-clause-conform c =
    subst (λ (s : Contents). IfOk c.left_by.result (λ plan. AreConforming s c.args.job.now.outputs)) (c.as_store-2.ensures ∙ sym (ap contents_of c.in-Own.is)) c.left_by.ensures.conform
