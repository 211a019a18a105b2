-- What each answer tells of what failed, and that where nothing failed the answer is the outcome's.
use Rattle.std.proofs.Common.{◌≡◌, ◌≢◌, ◌∙◌, ap, sym, subst, ◌⊎◌, inl, inr, Result, Ok, Err, Some}
use Rattle.qvt_base.specs.Outside.{Held, FilesSeen, SinkSeen, Rose}
use Rattle.qvt_outcome.specs.Chain.{Chain}
use Rattle.qvt_outcome.specs.Follows.{FailedAt, Follows}
use Rattle.qvt_outcome.specs.Outcome.{Outcome, status_of, no_memory_line}
use Rattle.qvt_outcome.specs.Reported.{outside, IsWhole, Reports, Fails, NoneRose}
use Rattle.qvt_outcome.specs.Plans.{outcome_of, CarriedOut}
use Rattle.qvt_outcome.specs.Steps.{Stops, settled, stop_line, stop_status}
use Rattle.qvt_outcome.specs.declared.status.Status.{Status}
use Rattle.qvt_outcome.specs.declared.status.Status.TheVariants as status
use Rattle.qvt_outcome.specs.declared.stop.Stop.{Stop}
use Rattle.qvt_outcome.specs.declared.stop.Stop.TheVariants as stop
use Rattle.qvt_outcome.specs.declared.plan.Plan.{Plan}
use Rattle.qvt_outcome.proofs.Settle.{at_most, carried_from}

-- an early end was told, or that memory was wanting
abbrev pub Finished : Stop → SinkSeen → SinkSeen → Status → Type 0
Finished e sink after answer = Reports (stop_line e) (stop_status e) sink after answer ⊎ Reports no_memory_line status.NoMemory sink after answer

carried_fails_from : (p : Plan) (old new : FilesSeen) (sink after : SinkSeen) (answer : Status) → CarriedOut p (outside old sink) (outside new after) answer
    → Fails (outside old sink) (outside new after) answer
carried_fails_from p old new sink after answer (inl (h, inl r)) = subst (Fails (outside old sink) (outside new after)) (sym r.0) (record { reads = h.reads; writes = h.writes; faults = r.1.faults })
carried_fails_from p old new sink after answer (inl (h, inr r)) = subst (Fails (outside old sink) (outside new after)) (sym r.0)
    (inr (record { reads = inl h.reads; writes = h.writes; rose = r.1.rose; one = r.1.one }))
carried_fails_from p old new sink after answer (inr (k, h, inl r)) = subst (Fails (outside old sink) (outside new after)) (sym r.0) (inl (record { reads = h.reads; rose = h.rose; one = h.one }))
carried_fails_from p old new sink after answer (inr (k, h, inr r)) = subst (Fails (outside old sink) (outside new after)) (sym r.0) (inl (record { reads = h.reads; rose = h.rose; one = h.one }))

pub carried_fails : (p : Plan) (c : Chain Outcome) (old mid new : FilesSeen) (sink after : SinkSeen) (answer : Status) → Follows outcome_of c old (Ok p) mid
    → CarriedOut p (outside mid sink) (outside new after) answer → Fails (outside old sink) (outside new after) answer
carried_fails p c old mid new sink after answer f h = carried_fails_from p old new sink after answer (carried_from p c old mid new sink after answer f h)

own_line : (e : Stop) (old new : FilesSeen) (sink after : SinkSeen) → FailedAt e old new → new.writes ≡ old.writes → IsWhole (stop_line e) sink after
    → Fails (outside old sink) (outside new after) (stop_status e)
own_line (stop.Refused file why) old new sink after failed writes h = record { reads = failed; writes = writes; faults = h.faults }
own_line (stop.Fault line) old new sink after failed writes h = record { reads = failed; writes = writes; faults = h.faults }
own_line (stop.OutOfFuel fuel) old new sink after failed writes h = record { reads = failed; writes = writes; faults = h.faults }
own_line (stop.Low model id feature) old new sink after failed writes h = record { reads = failed; writes = writes; faults = h.faults }
own_line (stop.ReadFault file) old new sink after failed writes h = record { file = file; failed = failed; line = h; writes = writes }
own_line stop.NoMemory old new sink after failed writes h = record { line = h; reads = failed; writes = writes }

pub finished_fails : (e : Stop) (c : Chain Outcome) (old new : FilesSeen) (sink after : SinkSeen) (answer : Status) → Follows outcome_of c old (Err e) new
    → Finished e sink after answer → Fails (outside old sink) (outside new after) answer
finished_fails e c old new sink after answer f (inl (inl r)) = subst (Fails (outside old sink) (outside new after)) (sym r.0) (own_line e old new sink after f.reads f.writes r.1)
finished_fails e c old new sink after answer f (inl (inr r)) = subst (Fails (outside old sink) (outside new after)) (sym r.0)
    (inr (record { reads = at_most e old new f.reads; writes = f.writes; rose = r.1.rose; one = r.1.one }))
finished_fails e c old new sink after answer f (inr (inl r)) = subst (Fails (outside old sink) (outside new after)) (sym r.0) (record { line = r.1; reads = at_most e old new f.reads; writes = f.writes })
finished_fails e c old new sink after answer f (inr (inr r)) = subst (Fails (outside old sink) (outside new after)) (sym r.0)
    (inr (record { reads = at_most e old new f.reads; writes = f.writes; rose = r.1.rose; one = r.1.one }))

-- the status of what is stated, or want of memory
abbrev pub IsStated : Result Outcome Outcome → Status → Type 0
IsStated stated answer = (answer ≡ status_of (settled stated)) ⊎ (answer ≡ status.NoMemory)

carried_stated : (p : Plan) (stated : Result Outcome Outcome) (old new : FilesSeen) (sink after : SinkSeen) (answer : Status) → stated ≡ Ok (outcome_of p)
    → CarriedOut p (outside old sink) (outside new after) answer → NoneRose (outside old sink) (outside new after) → IsStated stated answer
carried_stated p stated old new sink after answer is (inl (h, inl r)) none = inl (r.0 ∙ sym (ap (λ s. status_of (settled s)) is))
carried_stated p stated old new sink after answer is (inl (h, inr r)) none = absurd (none.sinks r.1.rose)
carried_stated p stated old new sink after answer is (inr (k, h, r)) none = absurd (none.writes h.rose)

pub carried_complete : (p : Plan) (c : Chain Outcome) (old mid new : FilesSeen) (sink after : SinkSeen) (answer : Status) → Follows outcome_of c old (Ok p) mid
    → CarriedOut p (outside mid sink) (outside new after) answer → (held : Held) → old.held ≡ Some held → NoneRose (outside old sink) (outside new after)
    → IsStated (c held).answer answer
carried_complete p c old mid new sink after answer f h held is none =
    carried_stated p (c held).answer old new sink after answer (f.gives held is) (carried_from p c old mid new sink after answer f h) none

stated_end : (e : Stop) (stated : Result Outcome Outcome) (old new : FilesSeen) (answer : Status) → Stops e stated → FailedAt e old new → ¬ Rose old.reads new.reads
    → answer ≡ stop_status e → IsStated stated answer
stated_end (stop.Refused file why) stated old new answer stops failed none a = inl (a ∙ sym (ap (λ s. status_of (settled s)) stops))
stated_end (stop.Fault line) stated old new answer stops failed none a = inl (a ∙ sym (ap (λ s. status_of (settled s)) stops))
stated_end (stop.OutOfFuel fuel) stated old new answer stops failed none a = inl (a ∙ sym (ap (λ s. status_of (settled s)) stops))
stated_end (stop.Low model id feature) stated old new answer stops failed none a = inl (a ∙ sym (ap (λ s. status_of (settled s)) stops))
stated_end (stop.ReadFault file) stated old new answer stops failed none a = absurd (none failed.rose)
stated_end stop.NoMemory stated old new answer stops failed none a = inr a

pub finished_complete : (e : Stop) (c : Chain Outcome) (old new : FilesSeen) (sink after : SinkSeen) (answer : Status) → Follows outcome_of c old (Err e) new
    → Finished e sink after answer → (held : Held) → old.held ≡ Some held → NoneRose (outside old sink) (outside new after) → IsStated (c held).answer answer
finished_complete e c old new sink after answer f (inl (inl r)) held is none = stated_end e (c held).answer old new answer (f.gives held is) f.reads none.reads r.0
finished_complete e c old new sink after answer f (inl (inr r)) held is none = absurd (none.sinks r.1.rose)
finished_complete e c old new sink after answer f (inr (inl r)) held is none = inr r.0
finished_complete e c old new sink after answer f (inr (inr r)) held is none = absurd (none.sinks r.1.rose)

-- No work ends as usage

not_usage : (e : Stop) → stop_status e ≢ status.Usage
not_usage (stop.Refused file why) u = absurd cc
not_usage (stop.Fault line) u = absurd cc
not_usage (stop.OutOfFuel fuel) u = absurd cc
not_usage (stop.Low model id feature) u = absurd cc
not_usage (stop.ReadFault file) u = absurd cc
not_usage stop.NoMemory u = absurd cc

no_memory : status.NoMemory ≢ status.Usage
no_memory u = absurd cc

write_fault : status.WriteFault ≢ status.Usage
write_fault u = absurd cc

done_status : status.Done ≢ status.Usage
done_status u = absurd cc

pub finished_no_usage : (e : Stop) (sink after : SinkSeen) (answer : Status) → Finished e sink after answer → answer ≢ status.Usage
finished_no_usage e sink after answer (inl (inl r)) u = not_usage e (sym r.0 ∙ u)
finished_no_usage e sink after answer (inl (inr r)) u = write_fault (sym r.0 ∙ u)
finished_no_usage e sink after answer (inr (inl r)) u = no_memory (sym r.0 ∙ u)
finished_no_usage e sink after answer (inr (inr r)) u = write_fault (sym r.0 ∙ u)

pub carried_no_usage : (p : Plan) (old new : FilesSeen) (sink after : SinkSeen) (answer : Status) → CarriedOut p (outside old sink) (outside new after) answer → answer ≢ status.Usage
carried_no_usage p old new sink after answer (inl (h, inl r)) u = done_status (sym r.0 ∙ u)
carried_no_usage p old new sink after answer (inl (h, inr r)) u = write_fault (sym r.0 ∙ u)
carried_no_usage p old new sink after answer (inr (k, h, inl r)) u = write_fault (sym r.0 ∙ u)
carried_no_usage p old new sink after answer (inr (k, h, inr r)) u = write_fault (sym r.0 ∙ u)
