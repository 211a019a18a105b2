-- A run that has ended well has written its late entries.
use Rattle.std.proofs.Common.{◌≡◌, ◌∙◌, refl, ap, sym, subst, ℕ, List, [], ◌∷◌, map, Option, Result, Ok, Err}
use Rattle.std.specs.Prelude.{IfOk}
use Rattle.qvt_store.specs.Contents.{Contents}
use Rattle.qvt_run_data.specs.declared.exit.End.{End}
use Rattle.qvt_run_data.specs.declared.exit.Exit.{Exit}
use Rattle.qvt_run_data.specs.declared.exit.Exit.TheVariants.{Returned, Ends}
use Rattle.qvt_run_data.specs.declared.record.Record.{Record}
use Rattle.qvt_run_rules.specs.State.{State}
use Rattle.qvt_live_store.specs.Held.{contents_of}
use Rattle.qvt_meaning.specs.Accepts.{ProgramTerm}
use Rattle.qvt_meaning.specs.Run as run
use Rattle.qvt_trace_text.specs.Written.{written_entry}
use Rattle.qvt_trace_text.specs.declared.entry.WrittenEntry.{WrittenEntry}
use Rattle.qvt_exec.specs.Entries.{entry_view}
use Rattle.qvt_exec.specs.Patches.{value_of}
use Rattle.qvt_exec.specs.Stay.{CandidatesStay}
use Rattle.qvt_exec.specs.declared.entries.Entry.{Entry}
use Rattle.qvt_exec.specs.Comes.{Comes}
use Rattle.qvt_exec.specs.Finish.{finished_view}
use Rattle.qvt_exec.specs.declared.finish.Finished.{Finished}
use Rattle.qvt_exec.specs.declared.stop.RunStop.{RunStop}
use Rattle.qvt_exec.specs.declared.stop.RunStop.TheVariants as end
use Rattle.qvt_job.specs.declared.job.Job.{Job}
use Rattle.qvt_meaning_report.specs.Meaning as means
use Rattle.qvt_outcome.specs.Outcome.{Outcome}
use Rattle.qvt_outcome.specs.Plans.{outcome_of}
use Rattle.qvt_outcome.specs.Steps.{GivesOrStops, Stops}
use Rattle.qvt_outcome.specs.declared.plan.Plan.{Plan}
use Rattle.qvt_outcome.specs.declared.stop.Stop.{Stop}
use Rattle.qvt_outputs.specs.Conforming.{AreConforming, LeavesConforming}
use Rattle.qvt_outputs.specs.Left.{left}
use Rattle.qvt_work.specs.Conforming.{EndConforms}
use Rattle.qvt_work.specs.Ends.{left_over}
use Rattle.qvt_cli.specs.Entries.{EntriesAreWritten, entry_with}

abbrev HasWritten : run.FinishedRun → Type 0
HasWritten f = run.patched f.finish.store (map run.late_value f.entries) ≡ Ok f.after

as_patched : (f : run.Finish) (es : List run.AnsweredWrite) (cost : ℕ) (r : Result Contents End) (g : run.FinishedRun) → run.patched f.store (map run.late_value es) ≡ r
    → run.finished_as f es cost r ≡ Ok g → HasWritten g
as_patched f es cost (Ok store) g is e =
    let same : record { finish = f; after = store; entries = es; cost = cost } ≡ g = cc in
    subst HasWritten same is
as_patched f es cost (Err x) g is e = absurd (cc)

as_carried : (f : run.Finish) (es : List run.AnsweredWrite) (w : Result ℕ End) (g : run.FinishedRun) → run.carried_out f es w ≡ Ok g → HasWritten g
as_carried f es (Ok cost) g e = as_patched f es cost (run.patched f.store (map run.late_value es)) g refl e
as_carried f es (Err x) g e = absurd (cc)

after_main : (p : ProgramTerm) (fuel : ℕ) (store : Contents) (s : State run.AnsweredWrite) (g : run.FinishedRun) → run.after_main p fuel store s ≡ Ok g → HasWritten g
after_main p fuel store s g e =
    let es : List run.AnsweredWrite = run.second_entries p fuel store (run.finish_of s) in
    as_carried (run.finish_of s) es (run.walk fuel s.cost es) g e

after_first : (p : ProgramTerm) (fuel : ℕ) (store : Contents) (r : Result (Unit {0}) Exit) (s : State run.AnsweredWrite) (g : run.FinishedRun) → run.after_first p fuel store r s ≡ Ok g → HasWritten g
after_first p fuel store (Ok u) s g e = after_main p fuel store s g e
after_first p fuel store (Err (Returned v)) s g e = after_main p fuel store s g e
after_first p fuel store (Err (Ends x)) s g e = absurd (cc)

pub entries_are_written : EntriesAreWritten
unfolding run.finished
entries_are_written p store fuel f e =
    let first = run.main_run (run.answered p run.empty_finish) p fuel store in
    after_first p fuel store first.0 first.1 f e

-- the entries as the code has them are those of the definitions
pub entries_same : CandidatesStay → (before after : Contents) (records : List Record) (es : List Entry) → run.patched before (map value_of es) ≡ Ok after
    → map (written_entry (record { trace = records; store = before })) (map entry_view es) ≡ map (entry_with records after) es
entries_same stay before after records es is = among es
  where
    one : (e : Entry) → written_entry (record { trace = records; store = before }) (entry_view e) ≡ entry_with records after e
    one e = ap (λ found. record { write = e.write; candidates = found; values = e.objects }) (sym (stay before after (map value_of es) records e.write.request is))

    among : (xs : List Entry) → map (written_entry (record { trace = records; store = before })) (map entry_view xs) ≡ map (entry_with records after) xs
    among [] = refl
    among (x ∷ xs) = λ i. one x i ∷ among xs i

-- the entries that were written, as the code has found them
pub entries_left : CandidatesStay → (before after s : Contents) (trace records : List Record) (kept es : List Entry) (ws : List WrittenEntry) → run.patched before (map value_of kept) ≡ Ok after
    → s ≡ after → records ≡ trace → es ≡ kept → ws ≡ map (entry_with records s) es → map (written_entry (record { trace = trace; store = before })) (map entry_view kept) ≡ ws
entries_left stay before after s trace records kept es ws is store same_trace same made =
    entries_same stay before after trace kept is ∙ sym (made ∙ (λ i. map (entry_with (same_trace i) (store i)) (same i)))

values_same : (es : List Entry) → map value_of es ≡ map run.late_value (map entry_view es)
values_same [] = refl
values_same (e ∷ es) = λ i. value_of e ∷ values_same es i

module _ (job : Job) (p : ProgramTerm) (ids : List (Option (List ℕ))) (store : Contents) (x : Result Finished RunStop) where
  -- a run has ended well
  pub well_ended : (f : Finished) (plan : Result Plan Stop) → x ≡ Ok f → Comes (run.finished p store job.fuel) x
      → ((before : Contents) → run.patched before (map value_of f.entries) ≡ Ok (contents_of f.state.store) → GivesOrStops outcome_of plan (left job p ids (means.outcome_of (Ok (finished_view before f)))))
      → GivesOrStops outcome_of plan (left_over job p ids store)
  unfolding means.meaning
  well_ended f plan is comes gives =
      let known : Comes (run.finished p store job.fuel) (Ok f) = subst (Comes (run.finished p store job.fuel)) is comes in
      subst (λ r. GivesOrStops outcome_of plan (left job p ids (means.outcome_of r))) (sym known.1)
      (gives known.0 (ap (run.patched known.0) (values_same f.entries) ∙ entries_are_written p store job.fuel (finished_view known.0 f) known.1))

  -- and the models that it leaves conform
  pub leaves_conforming : (f : Finished) (plan : Result Plan Stop) → x ≡ Ok f → Comes (run.finished p store job.fuel) x
      → IfOk plan (λ _. AreConforming (contents_of f.state.store) job.outputs) → IfOk plan (λ _. EndConforms job p store)
  unfolding EndConforms
  leaves_conforming f plan is comes conform =
      let known : Comes (run.finished p store job.fuel) (Ok f) = subst (Comes (run.finished p store job.fuel)) is comes in
      subst (λ r. IfOk plan (λ _. LeavesConforming r job.outputs)) (sym known.1) conform

  -- it is not finished
  pub ended_early : (why : RunStop) (stop : Stop) → x ≡ Err why → Comes (run.finished p store job.fuel) x
      → ((p : ProgramTerm) (ids : List (Option (List ℕ))) (r : Result run.FinishedRun End) → Comes r (Err why) → Stops {A = Outcome} stop (left job p ids (means.outcome_of r)))
      → Stops {A = Outcome} stop (left_over job p ids store)
  unfolding means.meaning
  ended_early why stop is comes stops = stops p ids (run.finished p store job.fuel) (subst (Comes (run.finished p store job.fuel)) is comes)

-- a fault has ended it, or the end of the fuel
pub ended_by : (job : Job) (p : ProgramTerm) (ids : List (Option (List ℕ))) (r : Result run.FinishedRun End) (why : RunStop) (e : End) (stop : Stop) → why ≡ end.Ends e → Comes r (Err why)
    → Stops {A = Outcome} stop (left job p ids (means.outcome_of (Err e))) → Stops {A = Outcome} stop (left job p ids (means.outcome_of r))
ended_by job p ids r why e stop is comes stops =
    let known : Comes r (Err (end.Ends e)) = subst (λ w. Comes r (Err w)) is comes in
    subst (λ x. Stops {A = Outcome} stop (left job p ids (means.outcome_of x))) (sym known.1) stops
