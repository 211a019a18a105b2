-- The run behind an outcome that was given.
use Rattle.std.proofs.Common.{◌≡◌, ◌∙◌, ap, sym, subst, ℕ, nat_lt, if◌then◌else◌, List, Some, Result, Ok, Err}
use Rattle.std.specs.Prelude.{IfOk, IsOk}
use Rattle.qvt_base.specs.Outside.{Held}
use Rattle.qvt_metamodel.specs.Metamodels.{Metamodels}
use Rattle.qvt_inputs.specs.declared.loaded.Loaded.{Loaded}
use Rattle.qvt_job.specs.declared.job.Job.{Job}
use Rattle.qvt_meaning.specs.Accepts.{ProgramTerm}
use Rattle.qvt_meaning.specs.Run.{FinishedRun}
use Rattle.qvt_run_data.specs.declared.exit.End.{End}
use Rattle.qvt_meaning_report.specs.Meaning as means
use Rattle.qvt_outcome.specs.Chain.{step}
use Rattle.qvt_outcome.specs.Outcome.{Outcome, out_of_fuel}
use Rattle.qvt_outcome.specs.Steps.{settled}
use Rattle.qvt_outputs.specs.Conforming.{LeavesConforming}
use Rattle.qvt_outputs.specs.Left.{left}
use Rattle.qvt_program_inputs.specs.Start.{program_inputs}
use Rattle.qvt_work.specs.Conforming.{ModelsConform, EndConforms, PerformedConforms, AfterMetasConforms, AfterJobConforms, RunConforms}
use Rattle.qvt_work.specs.Ends.{left_over}
use Rattle.qvt_work.specs.Fuel.{with_fuel, run_with, outcome_with, HasExactCost}
use Rattle.qvt_work.specs.Laws.{RunsConform, RunsAreRecorded, RunsAreExact}
use Rattle.qvt_work.specs.Metas.{metamodels_read}
use Rattle.qvt_work.specs.Recorded.{HasOneRecordEach}
use Rattle.qvt_work.specs.Run.{job_read, text_read, performed, after_metas, after_job, run_of}
use Rattle.qvt_work.specs.Runs.{JobRun, IsAsked, meant, written_by, IsBehind, IsOfRun}
use Rattle.qvt_work.specs.Words.{run, command_of}
use Rattle.qvt_work.specs.Work.{work, work_or_usage}
use Rattle.qvt_work.proofs.Fuelled.{same_text, left_by, left_done}
use Rattle.qvt_work.proofs.Meanings.{done_run, meaning_is_exact, keyed_run, recorded_run}
use Rattle.qvt_work.proofs.Through.{some_value, through, goes_on, settled_by}

-- Where a step has given an outcome, so has the one before it.

module _ (held : Held) (o : Outcome) where
  job_in : (file : List ℕ) → (run_of file held).answer ≡ Ok o → (j : Job) × (((job_read file held).answer ≡ Ok j) × ((after_job file j held).answer ≡ Ok o))
  unfolding run_of
  job_in file e = through (job_read file) (after_job file) held o e

  metas_in : (file : List ℕ) (j : Job) → (after_job file j held).answer ≡ Ok o → (m : Metamodels) × (((metamodels_read j.metamodels held).answer ≡ Ok m) × ((after_metas file j m held).answer ≡ Ok o))
  unfolding after_job
  metas_in file j e = through (metamodels_read j.metamodels) (after_metas file j) held o e

  program_in : (file : List ℕ) (j : Job) (m : Metamodels) → (after_metas file j m held).answer ≡ Ok o → (p : ProgramTerm) × (((text_read file j m held).answer ≡ Ok p) × ((performed j p held).answer ≡ Ok o))
  unfolding after_metas
  program_in file j m e = through (text_read file j m) (performed j) held o e

  inputs_in : (j : Job) (p : ProgramTerm) → (performed j p held).answer ≡ Ok o → (l : Loaded) × (((program_inputs p j.inputs held).answer ≡ Ok l) × (left_over j p l.ids l.store ≡ Ok o))
  unfolding performed
  inputs_in j p e = through (program_inputs p j.inputs) (λ l. step (left_over j p l.ids l.store)) held o e

given : (words : List (List ℕ)) (held : Held) (file : List ℕ) (o : Outcome) → command_of words ≡ Some (run file) → (work words held).answer ≡ Ok o → (run_of file held).answer ≡ Ok o
unfolding work
given words held file o asked e = ap (λ c. (work_or_usage c held).answer) (sym asked) ∙ e

-- So there is a run, whose meaning is done.

asked_run : (words : List (List ℕ)) (held : Held) (file : List ℕ) (o : Outcome) → command_of words ≡ Some (run file) → (run_of file held).answer ≡ Ok o
    → (r : JobRun) × (IsAsked words held r × (left_over r.job r.program r.loaded.ids r.loaded.store ≡ Ok o))
asked_run words held file o asked e =
    let a = job_in held o file e in
    let b = metas_in held o file a.0 a.1.1 in
    let c = program_in held o file a.0 b.0 b.1.1 in
    let d = inputs_in held o a.0 c.0 c.1.1 in (
      record { file = file; job = a.0; metas = b.0; program = c.0; loaded = d.0 },
      (record { command = asked; job = a.1.0; metas = b.1.0; program = c.1.0; loaded = d.1.0 }, d.1.1),
    )

ended_run : (r : JobRun) (o : Outcome) → left_over r.job r.program r.loaded.ids r.loaded.store ≡ Ok o → (f : FinishedRun) × ((meant r ≡ means.Done f) × (o ≡ written_by r f))
unfolding meant written_by
ended_run r o e = left_done r.job r.program r.loaded.ids (means.meaning r.program r.loaded.store r.job.fuel) o e

pub behind : (words : List (List ℕ)) (held : Held) → IsOk (work words held).answer → (file : List ℕ) → command_of words ≡ Some (run file) → (r : JobRun) × ((f : FinishedRun) × IsBehind words held r f)
behind words held h file asked =
    let o = some_value (work words held).answer h in
    let a = asked_run words held file o.0 asked (given words held file o.0 asked o.1) in
    let b = ended_run a.0 o.0 a.1.1 in
    (a.0, (b.0, record { asked = a.1.0; done = b.1.0; written = ap settled o.1 ∙ b.1.1 }))

-- what is so of each run that is behind an outcome
of_run : (words : List (List ℕ)) (held : Held) (P : JobRun → FinishedRun → Type 0) → IsOk (work words held).answer → ((r : JobRun) (f : FinishedRun) → IsBehind words held r f → P r f) → IsOfRun words held P
of_run words held P h so file asked =
    let b = behind words held h file asked in
    (b.0, (b.1.0, (b.1.1, so b.0 b.1.0 b.1.1)))

-- Its trace.

recorded : (r : JobRun) (f : FinishedRun) → meant r ≡ means.Done f → HasOneRecordEach r f
unfolding meant HasOneRecordEach
recorded r f e = (keyed_run r.program r.loaded.store r.job.fuel f e, recorded_run r.program r.loaded.store r.job.fuel f e)

pub runs_are_recorded : RunsAreRecorded
runs_are_recorded words held h = of_run words held HasOneRecordEach h (λ r f b. recorded r f b.done)

-- Its cost.

module _ (words : List (List ℕ)) (held : Held) (r : JobRun) (n : ℕ) (asked : IsAsked words held r) where
  performed_with : (performed (with_fuel r.job n) r.program held).answer ≡ left_over (with_fuel r.job n) r.program r.loaded.ids r.loaded.store
  unfolding performed
  performed_with = goes_on (program_inputs r.program r.job.inputs) (λ l. step (left_over (with_fuel r.job n) r.program l.ids l.store)) held r.loaded asked.loaded

  text_with : (text_read r.file (with_fuel r.job n) r.metas held).answer ≡ Ok r.program
  text_with = ap (λ c. (c held).answer) (same_text r.job n r.file r.metas) ∙ asked.program

  after_metas_with : (after_metas r.file (with_fuel r.job n) r.metas held).answer ≡ left_over (with_fuel r.job n) r.program r.loaded.ids r.loaded.store
  unfolding after_metas
  after_metas_with = goes_on (text_read r.file (with_fuel r.job n) r.metas) (performed (with_fuel r.job n)) held r.program text_with ∙ performed_with

  after_job_with : (after_job r.file (with_fuel r.job n) held).answer ≡ left_over (with_fuel r.job n) r.program r.loaded.ids r.loaded.store
  unfolding after_job
  after_job_with = goes_on (metamodels_read r.job.metamodels) (after_metas r.file (with_fuel r.job n)) held r.metas asked.metas ∙ after_metas_with

  ran_with : (run_with n r.file held).answer ≡ left_over (with_fuel r.job n) r.program r.loaded.ids r.loaded.store
  unfolding run_with
  ran_with = goes_on (job_read r.file) (λ j. after_job r.file (with_fuel j n)) held r.job asked.job ∙ after_job_with

left_with : (r : JobRun) (f : FinishedRun) (n : ℕ) → meant r ≡ means.Done f
    → left_over (with_fuel r.job n) r.program r.loaded.ids r.loaded.store ≡ (if nat_lt n f.cost then Err (out_of_fuel n) else Ok (written_by r f))
unfolding meant written_by
left_with r f n e =
    ap (left (with_fuel r.job n) r.program r.loaded.ids) (meaning_is_exact r.program r.loaded.store r.job.fuel n f e)
    ∙ left_by r.job n r.program r.loaded.ids (nat_lt n f.cost) f

exact : (words : List (List ℕ)) (held : Held) (r : JobRun) (f : FinishedRun) → IsAsked words held r → meant r ≡ means.Done f → HasExactCost held r f
unfolding HasExactCost outcome_with
exact words held r f asked e = λ n. ap settled (ran_with words held r n asked ∙ left_with r f n e) ∙ settled_by (nat_lt n f.cost) (out_of_fuel n) (written_by r f)

pub runs_are_exact : RunsAreExact
runs_are_exact words held h = of_run words held (HasExactCost held) h (λ r f b. exact words held r f b.asked b.done)

-- Its models.

value_of : {A : Type 0} (r : Result A Outcome) (x : A) (P : A → Type 0) → r ≡ Ok x → IfOk r P → P x
value_of r x P e h = subst (λ (r : Result _ Outcome). IfOk r P) e h

module _ (words : List (List ℕ)) (held : Held) (r : JobRun) (asked : IsAsked words held r) where
  of_job : RunConforms r.file held → AfterJobConforms r.file r.job held
  unfolding RunConforms
  of_job h = value_of (job_read r.file held).answer r.job (λ j. AfterJobConforms r.file j held) asked.job h

  of_metas : AfterJobConforms r.file r.job held → AfterMetasConforms r.file r.job r.metas held
  unfolding AfterJobConforms
  of_metas h = value_of (metamodels_read r.job.metamodels held).answer r.metas (λ m. AfterMetasConforms r.file r.job m held) asked.metas h

  of_text : AfterMetasConforms r.file r.job r.metas held → PerformedConforms r.job r.program held
  unfolding AfterMetasConforms
  of_text h = value_of (text_read r.file r.job r.metas held).answer r.program (λ p. PerformedConforms r.job p held) asked.program h

  of_inputs : PerformedConforms r.job r.program held → EndConforms r.job r.program r.loaded.store
  unfolding PerformedConforms
  of_inputs h = value_of (program_inputs r.program r.job.inputs held).answer r.loaded (λ l. EndConforms r.job r.program l.store) asked.loaded h

leaves : (r : JobRun) (f : FinishedRun) → meant r ≡ means.Done f → EndConforms r.job r.program r.loaded.store → ModelsConform r f
unfolding meant EndConforms ModelsConform
leaves r f e h = subst (λ (x : Result FinishedRun End). LeavesConforming x r.job.outputs) (done_run r.program r.loaded.store r.job.fuel f e).0 h

pub runs_conform : RunsConform
runs_conform words held h conform = of_run words held ModelsConform h (λ r f b.
    leaves r f b.done (of_inputs words held r b.asked (of_text words held r b.asked (of_metas words held r b.asked (of_job words held r b.asked (conform r.file b.asked.command))))))
