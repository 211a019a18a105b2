-- A run that has ended well leaves its files where it is within its lower bounds.
use Rattle.std.proofs.Common.{◌≡◌, ◌∙◌, refl, ap, sym, subst, ℕ, List, Option, Some, None, Result, Ok}
use Rattle.std.specs.Option.{option_map}
use Rattle.qvt_results.specs.Bind.{◌>>=◌}
use Rattle.qvt_json.specs.Steps.{none_of}
use Rattle.qvt_conform.specs.declared.fault.LowFault.{LowFault}
use Rattle.qvt_store.specs.Contents.{Contents}
use Rattle.qvt_job.specs.declared.job.Job.{Job}
use Rattle.qvt_meaning.specs.Accepts.{ProgramTerm}
use Rattle.qvt_meaning.specs.Run.{FinishedRun}
use Rattle.qvt_meaning_report.specs.Lines.{done_line}
use Rattle.qvt_meaning_report.specs.Meaning.{low_in, unless_low}
use Rattle.qvt_outcome.specs.Outcome.{Outcome, done}
use Rattle.qvt_outcome.specs.Steps.{Stops}
use Rattle.qvt_outcome.specs.declared.stop.Stop.{Stop}
use Rattle.qvt_outcome.specs.declared.stop.Stop.TheVariants as stop
use Rattle.qvt_outputs.specs.Left.{files_left, left, low_outcome}

-- an early end of a step ends all
stops_on : {A B : Type 0} (e : Stop) (r : Result A Outcome) (f : A → Result B Outcome) → Stops e r → Stops e (r >>= f)
stops_on (stop.Refused file why) r f h = ap (λ x. x >>= f) h
stops_on (stop.Fault line) r f h = ap (λ x. x >>= f) h
stops_on (stop.OutOfFuel fuel) r f h = ap (λ x. x >>= f) h
stops_on (stop.Low model id feature) r f h = ap (λ x. x >>= f) h
stops_on (stop.ReadFault file) r f h = tt
stops_on stop.NoMemory r f h = tt

module _ (job : Job) (p : ProgramTerm) (ids : List (Option (List ℕ))) (f : FinishedRun) where
  abbrev bounded : Contents → Result (Unit {0}) Outcome
  bounded s = none_of (option_map (low_outcome s ids) (low_in s))

  abbrev all_files : Outcome
  all_files = done (files_left job p ids f) (done_line f)

  by_bounds : (low : Option LowFault) → left job p ids (unless_low low f) ≡ (none_of (option_map (low_outcome f.after ids) low) >>= (λ _. Ok all_files))
  unfolding left
  by_bounds (Some l) = refl
  by_bounds None = refl

  pub low_left : (e : Stop) (s : Contents) → f.after ≡ s → Stops e (bounded s) → Stops {A = Outcome} e (left job p ids (unless_low (low_in f.after) f))
  low_left e s is h = subst (Stops {A = Outcome} e) (sym (by_bounds (low_in f.after)))
      (stops_on e (bounded f.after) (λ _. Ok all_files) (subst (λ t. Stops e (bounded t)) (sym is) h))

  pub within_left : (s : Contents) (o : Outcome) → f.after ≡ s → bounded s ≡ Ok tt → o ≡ all_files → left job p ids (unless_low (low_in f.after) f) ≡ Ok o
  within_left s o is none made =
      by_bounds (low_in f.after) ∙ ap (λ r. r >>= (λ _. Ok all_files)) (subst (λ t. bounded t ≡ Ok tt) (sym is) none) ∙ ap Ok (sym made)
