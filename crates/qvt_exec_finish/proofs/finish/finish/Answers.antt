use Rattle.std.proofs.Common.{List, Ok, Err, map, refl, subst, sym}
use Rattle.std.specs.List.{All}
use Rattle.qvt_live_store.specs.Held.{contents_of}
use Rattle.qvt_exec_state.specs.Runs.{seen}
use Rattle.qvt_run_laws.specs.Entries.{CanBeWritten}
use Rattle.qvt_exec_finish.specs.Entries.{entry_view}
use Rattle.qvt_exec_finish.specs.Patches.{PatchesAll}
use Rattle.qvt_exec_finish.specs.declared.entries.Entry.{Entry}
use Rattle.qvt_exec_finish.proofs.Ending.{as_told, broken_off, carried, stopped}
use Rattle.qvt_exec_finish.proofs.Writing.{all_fit}
use Rattle.qvt_exec_finish.proofs.finish.finish.Goals as goal

pub patch_all-requires : goal.patch_all-requires
patch_all-requires g c =
    subst (λ (xs : List Entry). All (CanBeWritten (contents_of c.args.state.store)) (map entry_view xs)) (sym c.as_slice.ensures)
    (all_fit (g.A.LateAnswers.program c.args.answers.now) (contents_of c.args.state.store) c.as_store.result.now c.args.state.trace c.replace-writes.result c.args.state.entries c.in_ok-entries.entries
    c.answers_fit.ensures c.is_whole.ensures c.as_store.ensures c.replace-writes.ensures.value c.requires.entries c.in_ok-entries.ensures.0)

pub returns-in-Ok : goal.returns-in-Ok
returns-in-Ok g c =
    let patched = rw c.as_slice.ensures at c.in-Ok.ensures in
    carried (g.A.LateAnswers.program c.args.answers.now) c.args.fuel (seen c.args.state) c.as_store.result.now c.args.state.trace c.replace-writes.result c.replace-cost.result c.in_ok-entries.entries
    c.walk.new.cost c.told-cost.result refl c.as_store.ensures c.replace-writes.ensures.value c.replace-cost.ensures.value (as_told c.walk.new.cost c.told-cost.result c.told-cost.ensures c.if-cost.false)
    c.in_ok-entries.ensures.0 c.in_ok-entries.ensures.1 (Ok (contents_of c.patch_all.new.store)) patched

pub returns : goal.returns
returns g c =
    let patched = subst (λ (xs : List Entry). PatchesAll (contents_of c.args.state.store) xs (Err c.in-Err.stop) (contents_of c.patch_all.new.store)) c.as_slice.ensures c.in-Err.ensures in
    stopped (g.A.LateAnswers.program c.args.answers.now) c.args.fuel (seen c.args.state) c.as_store.result.now c.args.state.trace c.replace-writes.result c.replace-cost.result c.in_ok-entries.entries
    c.walk.new.cost c.told-cost.result refl c.as_store.ensures c.replace-writes.ensures.value c.replace-cost.ensures.value (as_told c.walk.new.cost c.told-cost.result c.told-cost.ensures c.if-cost.false)
    c.in-Err.stop (contents_of c.patch_all.new.store) c.in_ok-entries.ensures.0 c.in_ok-entries.ensures.1 patched

pub returns-in_err-entries : goal.returns-in_err-entries
returns-in_err-entries g c =
    broken_off (g.A.LateAnswers.program c.args.answers.now) c.args.fuel (seen c.args.state) c.as_store.result.now c.args.state.trace c.replace-writes.result c.replace-cost.result c.walk.new.cost
    refl c.as_store.ensures c.replace-writes.ensures.value c.replace-cost.ensures.value c.in_err-entries.field-0.0 c.from_residual.result c.in_err-entries.ensures c.from_residual.ensures.1
