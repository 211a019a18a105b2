-- A program that is done: it is done with every fuel that is enough, and its trace has one record of a key.
use Rattle.std.proofs.Common.{◌≡◌, ◌∙◌, refl, ap, subst, ℕ, Bool, true, false, nat_lt, if◌then◌else◌, Option, Some, None, Result, Ok, Err, IsTrue}
use Rattle.qvt_store.specs.Contents.{Contents}
use Rattle.qvt_conform.specs.declared.fault.LowFault.{LowFault}
use Rattle.qvt_meaning.specs.Accepts.{ProgramTerm}
use Rattle.qvt_meaning.specs.Laws.{keys_differ}
use Rattle.qvt_meaning.specs.Run.{FinishedRun, finished}
use Rattle.qvt_run_data.specs.declared.exit.End.{End}
use Rattle.qvt_run_data.specs.declared.exit.End.TheVariants as end
use Rattle.qvt_meaning_report.specs.Meaning as means
use Rattle.qvt_meaning_report.specs.Meaning.{meaning, low_in, unless_low, outcome_of}
use Rattle.qvt_run_laws.proofs.Exact.{done_is_exact}
use Rattle.qvt_run_laws.proofs.Recorded.{one_record, one_is_left}
use Rattle.qvt_run_laws.specs.Records.{HasOneForEach}
use Rattle.qvt_work.specs.Fuel.{MeaningIsExact}

-- a meaning that is done is that of a run that has ended well, over whose store no slot is under its bound

run_in : (low : Option LowFault) (f g : FinishedRun) → unless_low low f ≡ means.Done g → (f ≡ g) × (low ≡ None)
run_in None f g e = (cc, refl)
run_in (Some fault) f g e = absurd (cc)

finished_in : (r : Result FinishedRun End) (g : FinishedRun) → outcome_of r ≡ means.Done g → (r ≡ Ok g) × (low_in g.after ≡ None)
finished_in (Ok f) g e = let w = run_in (low_in f.after) f g e in (ap Ok w.0, subst (λ x. low_in x.after ≡ None) w.0 w.1)
finished_in (Err (end.Fault k at)) g e = absurd (cc)
finished_in (Err end.OutOfFuel) g e = absurd (cc)

pub done_run : (p : ProgramTerm) (store : Contents) (fuel : ℕ) (f : FinishedRun) → meaning p store fuel ≡ means.Done f → (finished p store fuel ≡ Ok f) × (low_in f.after ≡ None)
unfolding meaning
done_run p store fuel f e = finished_in (finished p store fuel) f e

by_bound : (b : Bool) (f : FinishedRun) → low_in f.after ≡ None → outcome_of (if b then Err end.OutOfFuel else Ok f) ≡ (if b then means.OutOfFuel else means.Done f)
by_bound true f low = refl
by_bound false f low = ap (λ o. unless_low o f) low

pub meaning_is_exact : MeaningIsExact
unfolding meaning
meaning_is_exact p store fuel n f e =
    let w = done_run p store fuel f e in
    ap outcome_of (done_is_exact p store fuel n f w.0) ∙ by_bound (nat_lt n f.cost) f w.1

pub keyed_run : (p : ProgramTerm) (store : Contents) (fuel : ℕ) (f : FinishedRun) → meaning p store fuel ≡ means.Done f → IsTrue (keys_differ f.finish.trace)
keyed_run p store fuel f e = one_record p store fuel f (done_run p store fuel f e).0

pub recorded_run : (p : ProgramTerm) (store : Contents) (fuel : ℕ) (f : FinishedRun) → meaning p store fuel ≡ means.Done f → HasOneForEach p fuel f.finish.trace
recorded_run p store fuel f e = one_is_left p store fuel f (done_run p store fuel f e).0
