-- What is so of a plan over the value that a chain gave is so over the chain; and where an early end was told nothing was written.
use Rattle.std.proofs.Common.{◌≡◌, ◌≢◌, ◌∙◌, ◌⊎◌, inl, inr, sym, subst, Some, Result, Ok, Err}
use Rattle.std.specs.Prelude.{IfOk}
use Rattle.qvt_base.specs.Outside.{Held, FilesSeen, SinkSeen}
use Rattle.qvt_outcome.specs.Chain.{Chain}
use Rattle.qvt_outcome.specs.Follows.{Follows}
use Rattle.qvt_outcome.specs.Outcome.{Outcome}
use Rattle.qvt_outcome.specs.Plans.{outcome_of}
use Rattle.qvt_outcome.specs.declared.plan.Plan.{Plan}
use Rattle.qvt_outcome.specs.declared.status.Status.{Status}
use Rattle.qvt_outcome.specs.declared.status.Status.TheVariants as status
use Rattle.qvt_outcome.specs.declared.stop.Stop.{Stop}
use Rattle.qvt_outcome.specs.declared.stop.Stop.TheVariants as stop
use Rattle.qvt_outcome.specs.Steps.{stop_status}
use Rattle.qvt_outcome.proofs.Ended.{Finished}
use Rattle.qvt_cli.specs.Written.{HasWritten}

pub chained_conforms : {X A : Type 0} (view : X → A) (c : Chain A) (P : A → Held → Type 0) (plan : Result Plan Stop) (old mid : FilesSeen) (x : X) → Follows view c old (Ok x) mid
    → ((held : Held) → mid.held ≡ Some held → IfOk plan (λ _. P (view x) held)) → (held : Held) → old.held ≡ Some held → IfOk plan (λ _. IfOk (c held).answer (λ a. P a held))
chained_conforms {A = A} view c P (Ok plan) old mid x f h held is = subst (λ (r : Result A Outcome). IfOk r (λ a. P a held)) (sym (f.gives held is)) (h held (f.held ∙ is))
chained_conforms view c P (Err e) old mid x f h held is = tt

not_done : (e : Stop) → stop_status e ≢ status.Done
not_done (stop.Refused file why) d = absurd cc
not_done (stop.Fault line) d = absurd cc
not_done (stop.OutOfFuel fuel) d = absurd cc
not_done (stop.Low model id feature) d = absurd cc
not_done (stop.ReadFault file) d = absurd cc
not_done stop.NoMemory d = absurd cc

no_memory : status.NoMemory ≢ status.Done
no_memory d = absurd cc

write_fault : status.WriteFault ≢ status.Done
write_fault d = absurd cc

is_not_done : (e : Stop) (sink after : SinkSeen) (answer : Status) → Finished e sink after answer → answer ≢ status.Done
is_not_done e sink after answer (inl (inl r)) d = not_done e (sym r.0 ∙ d)
is_not_done e sink after answer (inl (inr r)) d = write_fault (sym r.0 ∙ d)
is_not_done e sink after answer (inr (inl r)) d = no_memory (sym r.0 ∙ d)
is_not_done e sink after answer (inr (inr r)) d = write_fault (sym r.0 ∙ d)

-- where an early end was told the answer is not Done, and each file is as before
pub none_written : (e : Stop) (c : Chain Outcome) (old new : FilesSeen) (sink after : SinkSeen) (answer : Status) → Follows outcome_of c old (Err e) new → Finished e sink after answer
    → (held : Held) → old.held ≡ Some held → ¬ HasWritten answer held new
none_written e c old new sink after answer f told held is (inl done) = is_not_done e sink after answer told done
none_written e c old new sink after answer f told held is (inr changed) = changed (f.held ∙ is)
