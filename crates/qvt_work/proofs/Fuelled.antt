-- A job with another fuel: its parts are read as before, and what it leaves by a meaning.
use Rattle.std.proofs.Common.{◌≡◌, refl, ap, sym, ℕ, Bool, true, false, if◌then◌else◌, List, Option, Result, Ok, Err}
use Rattle.qvt_results.specs.Bind.{◌>>=◌}
use Rattle.qvt_metamodel.specs.Metamodels.{Metamodels}
use Rattle.qvt_tree_types.specs.Module.{ModuleTerm}
use Rattle.qvt_tree_types.specs.declared.module.ModelParam.{ModelParam}
use Rattle.qvt_job.specs.Parameters.{mismatch, is_served}
use Rattle.qvt_job.specs.declared.job.Job.{Job}
use Rattle.qvt_meaning.specs.Accepts.{ProgramTerm}
use Rattle.qvt_meaning.specs.Run.{FinishedRun}
use Rattle.qvt_meaning_report.specs.Lines.{done_line}
use Rattle.qvt_meaning_report.specs.Meaning as means
use Rattle.qvt_outcome.specs.Chain.{Chain, step, ◌>=>◌, read_step}
use Rattle.qvt_outcome.specs.Outcome.{Outcome, out_of_fuel, done}
use Rattle.qvt_outputs.specs.Left.{files_left, left}
use Rattle.qvt_work.specs.Fuel.{with_fuel}
use Rattle.qvt_work.specs.Run.{unless_mismatch, program_in, text_in, text_read}
use Rattle.qvt_work.specs.Source.{tree_in}
use Rattle.qvt_work.specs.Typing.{typed_in}
use Rattle.qvt_work.proofs.Through.{no_value, one_value}

module _ (job : Job) (n : ℕ) where
  same_mismatch : (params : List ModelParam) → mismatch (with_fuel job n) params ≡ mismatch job params
  unfolding mismatch is_served
  same_mismatch params = refl

  -- the program of a tree, by what is found of the models of the job
  abbrev unless : List ℕ → Metamodels → ModuleTerm → Option (List ℕ) → Result ProgramTerm Outcome
  unless name metas tree other = typed_in metas job.text tree >>= (λ p. unless_mismatch name other >>= (λ _. Ok p))

  same_program : (name : List ℕ) (metas : Metamodels) (tree : ModuleTerm) → program_in name (with_fuel job n) metas tree ≡ program_in name job metas tree
  unfolding program_in
  same_program name metas tree = ap (unless name metas tree) (same_mismatch tree.params)

  -- the program of some bytes, by that of a tree
  abbrev by_tree : List ℕ → (ModuleTerm → Result ProgramTerm Outcome) → Result ProgramTerm Outcome
  by_tree bytes f = tree_in job.text bytes >>= f

  same_bytes : (name : List ℕ) (metas : Metamodels) (bytes : List ℕ) → text_in name (with_fuel job n) metas bytes ≡ text_in name job metas bytes
  unfolding text_in
  same_bytes name metas bytes = ap (by_tree bytes) (λ i tree. same_program name metas tree i)

  -- the program of a file, by that of its bytes
  abbrev by_bytes : (List ℕ → Result ProgramTerm Outcome) → Chain ProgramTerm
  by_bytes f = read_step job.text 262144 >=> (λ bytes. step (f bytes))

  pub same_text : (name : List ℕ) (metas : Metamodels) → text_read name (with_fuel job n) metas ≡ text_read name job metas
  unfolding text_read
  same_text name metas = ap by_bytes (λ i bytes. same_bytes name metas bytes i)

  module _ (p : ProgramTerm) (ids : List (Option (List ℕ))) where
    out_of_fuel_left : left (with_fuel job n) p ids means.OutOfFuel ≡ Err (out_of_fuel n)
    unfolding left
    out_of_fuel_left = refl

    same_files : (f : FinishedRun) → files_left (with_fuel job n) p ids f ≡ files_left job p ids f
    same_files f = refl

    done_left : (f : FinishedRun) → left (with_fuel job n) p ids (means.Done f) ≡ Ok (done (files_left job p ids f) (done_line f))
    unfolding left
    done_left f = ap (λ files. Ok (done files (done_line f))) (same_files f)

    -- what is left by a meaning that hangs on a test
    pub left_by : (b : Bool) (f : FinishedRun) → left (with_fuel job n) p ids (if b then means.OutOfFuel else means.Done f) ≡ (if b then Err (out_of_fuel n) else Ok (done (files_left job p ids f) (done_line f)))
    left_by true f = out_of_fuel_left
    left_by false f = done_left f

-- where something is left to be written the meaning is done
pub left_done : (job : Job) (p : ProgramTerm) (ids : List (Option (List ℕ))) (m : means.RunOutcome) (o : Outcome) → left job p ids m ≡ Ok o
    → (f : FinishedRun) × ((m ≡ means.Done f) × (o ≡ done (files_left job p ids f) (done_line f)))
unfolding left
left_done job p ids (means.Fault k at) o e = absurd (no_value _ o e)
left_done job p ids means.OutOfFuel o e = absurd (no_value _ o e)
left_done job p ids (means.Low s l) o e = absurd (no_value _ o e)
left_done job p ids (means.Done f) o e = (f, (refl, sym (one_value _ o e)))
