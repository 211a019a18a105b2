-- An early end by the fault of a file is one of what is stated, and so is a plan that was made.
use Rattle.std.proofs.Common.{◌≡◌, ◌≢◌, ◌∙◌, ap, sym, subst, List, ℕ, Result, Ok, Err, IfOk, IfErr}
use Rattle.qvt_results.specs.Bind.{◌>>=◌}
use Rattle.qvt_outcome.specs.Outcome.{Outcome, refused}
use Rattle.qvt_outcome.specs.Plans.{outcome_of}
use Rattle.qvt_outcome.specs.Steps.{Stops, GivesOrStops, IsFaultWith, IfFaultOf, StopsBy, or_refused}
use Rattle.qvt_outcome.specs.declared.plan.Plan.{Plan}
use Rattle.qvt_outcome.specs.declared.refusal.Refusal.{Refusal}
use Rattle.qvt_outcome.specs.declared.stop.Stop.{Stop}
use Rattle.qvt_outcome.specs.declared.stop.Stop.TheVariants as stop

-- what is stated is the refusal by this fault, unless the end is free
pub stops_at : {A F : Type 0} (free : F) (say : F → Refusal) (name : List ℕ) (why : F) (e : Stop) (r : Result A Outcome)
    → StopsBy free say name why e → (why ≢ free → r ≡ Err (refused name (say why))) → Stops e r
stops_at free say name why (stop.Refused file cause) r h is =
    let other : why ≢ free = λ p. (let q : stop.Refused file cause ≡ stop.NoMemory = h.1 p in absurd cc) in
    let same = h.0 other in
    is other ∙ (λ i. Err (refused (sym same.0 i) (sym same.1 i)))
stops_at free say name why (stop.Fault line) r h is =
    let other : why ≢ free = λ p. (let q : stop.Fault line ≡ stop.NoMemory = h.1 p in absurd cc) in
    absurd (h.0 other)
stops_at free say name why (stop.OutOfFuel fuel) r h is =
    let other : why ≢ free = λ p. (let q : stop.OutOfFuel fuel ≡ stop.NoMemory = h.1 p in absurd cc) in
    absurd (h.0 other)
stops_at free say name why (stop.Low model id feature) r h is =
    let other : why ≢ free = λ p. (let q : stop.Low model id feature ≡ stop.NoMemory = h.1 p in absurd cc) in
    absurd (h.0 other)
stops_at free say name why (stop.ReadFault file) r h is = tt
stops_at free say name why stop.NoMemory r h is = tt

-- of a file that was read by steps
pub stops_by : {A B F : Type 0} (free : F) (say : F → Refusal) (name : List ℕ) (why : F) (e : Stop) (r : Result A F) (f : A → Result B Outcome)
    → StopsBy free say name why e → (why ≢ free → r ≡ Err why) → Stops e (or_refused say name r >>= f)
stops_by free say name why e r f h is = stops_at free say name why e (or_refused say name r >>= f) h (λ other. ap (λ s. or_refused say name s >>= f) (is other))

-- a plan that was made, or want of memory
pub planned : (r : Result Plan Stop) (o : Outcome) → IfOk r (λ p. outcome_of p ≡ o) → IfErr r (λ e. e ≡ stop.NoMemory) → GivesOrStops outcome_of r (Ok o)
planned (Ok p) o is none = ap Ok (sym is)
planned (Err e) o is none = subst (λ s. Stops s (Ok o)) (sym none) tt

pub planned_quiet : (r : Result Plan Stop) → IfErr r (λ e. e ≡ stop.NoMemory) → IfFaultOf r (λ file. ⊥)
planned_quiet (Ok p) none = tt
planned_quiet (Err e) none = subst (λ s. IsFaultWith s (λ file. ⊥)) (sym none) tt
