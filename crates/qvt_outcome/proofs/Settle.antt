-- What stands after a plan was carried out, or an early end was told, by the answer that is given.
use Rattle.std.proofs.Common.{◌≡◌, ◌∙◌, ap, sym, refl, subst, ℕ, ◌≤◌, ◌+◌, List, take, Option, Some, None, ◌⊎◌, inl, inr, Result, Ok, Err}
use Rattle.std.specs.Option.{option_map}
use Rattle.qvt_base.specs.Outside.{Held, FilesSeen, SinkSeen, Rose, SameBut, BothTold}
use Rattle.qvt_outcome.specs.Chain.{Chain}
use Rattle.qvt_outcome.specs.Follows.{IsAmong, NoneFailed, FailedAt, OneFailed, AtMostOneFailed, Follows}
use Rattle.qvt_outcome.specs.Outcome.{Outcome, usage, refused, fault, out_of_fuel, low, done, status_of, report, files_after, put_all, read_fault_line, write_fault_line, no_memory_line}
use Rattle.qvt_outcome.specs.Reported.{OutsideSeen, outside, IsWhole, Reports, Answers, name_at}
use Rattle.qvt_outcome.specs.Plans.{files_in, outcome_of, StoppedAt, CarriedOut}
use Rattle.qvt_outcome.specs.Steps.{Stops, IsFaultWith, settled, stop_line, stop_status}
use Rattle.qvt_outcome.specs.declared.status.Status.{Status}
use Rattle.qvt_outcome.specs.declared.status.Status.TheVariants as status
use Rattle.qvt_outcome.specs.declared.stop.Stop.{Stop}
use Rattle.qvt_outcome.specs.declared.stop.Stop.TheVariants as stop
use Rattle.qvt_outcome.specs.declared.plan.Plan.{Plan}

pub at_most : (e : Stop) (old new : FilesSeen) → FailedAt e old new → AtMostOneFailed old new
at_most (stop.Refused file why) old new h = inl h
at_most (stop.Fault line) old new h = inl h
at_most (stop.OutOfFuel fuel) old new h = inl h
at_most (stop.Low model id feature) old new h = inl h
at_most (stop.ReadFault file) old new h = inr (file, h)
at_most stop.NoMemory old new h = h

told_whole : (o : Outcome) (names : List (List ℕ)) (before : Held) (old new : OutsideSeen) → new.files.held ≡ Some (files_after o before)
    → IsWhole (report o) old.sink new.sink → Answers o names before old new (status_of o)
told_whole usage names before old new held sink = record { status = refl; held = held; sink = sink }
told_whole (refused file why) names before old new held sink = record { status = refl; held = held; sink = sink }
told_whole (fault line) names before old new held sink = record { status = refl; held = held; sink = sink }
told_whole (out_of_fuel fuel) names before old new held sink = record { status = refl; held = held; sink = sink }
told_whole (low model id feature) names before old new held sink = record { status = refl; held = held; sink = sink }
told_whole (done fs text) names before old new held sink = record { status = refl; held = held; sink = sink }

-- the outcome's own text went to the sink
told_of : (o : Outcome) (names : List (List ℕ)) (before : Held) (old new : OutsideSeen) (answer : Status) → new.files.held ≡ Some (files_after o before)
    → NoneFailed old.files new.files → new.files.writes ≡ old.files.writes → Reports (report o) (status_of o) old.sink new.sink answer → Answers o names before old new answer
told_of o names before old new answer held reads writes (inl h) = subst (Answers o names before old new) (sym h.0) (told_whole o names before old new held h.1)
told_of o names before old new answer held reads writes (inr h) = subst (Answers o names before old new) (sym h.0) (inr (inl (record { held = held; reads = reads; writes = writes; sink = h.1 })))

-- the line that memory was wanting went to the sink
memory_of : (o : Outcome) (names : List (List ℕ)) (before : Held) (old new : OutsideSeen) (answer : Status) → new.files.held ≡ Some before
    → AtMostOneFailed old.files new.files → new.files.writes ≡ old.files.writes → Reports no_memory_line status.NoMemory old.sink new.sink answer → Answers o names before old new answer
memory_of o names before old new answer held reads writes (inl h) = subst (Answers o names before old new) (sym h.0) (record { held = held; sink = h.1 })
memory_of o names before old new answer held reads writes (inr h) = subst (Answers o names before old new) (sym h.0) (inr (inr (inr (record { held = held; reads = reads; writes = writes; sink = h.1 }))))

-- the line of a read that failed went to the sink
read_fault_of : (o : Outcome) (names : List (List ℕ)) (before : Held) (old new : OutsideSeen) (answer : Status) (file : List ℕ) → new.files.held ≡ Some before
    → OneFailed file old.files new.files → new.files.writes ≡ old.files.writes → IsAmong file names → Reports (read_fault_line file) status.ReadFault old.sink new.sink answer → Answers o names before old new answer
read_fault_of o names before old new answer file held failed writes among (inl h) =
    subst (Answers o names before old new) (sym h.0) (record { held = held; file = file; among = among; failed = failed; sink = h.1 })
read_fault_of o names before old new answer file held failed writes among (inr h) =
    subst (Answers o names before old new) (sym h.0) (inr (inr (inl (record { held = held; file = file; among = among; failed = failed; writes = writes; sink = h.1 }))))

-- an early end
stopped : (e : Stop) (run : Result Outcome Outcome) (names : List (List ℕ)) (before : Held) (old new : OutsideSeen) (answer : Status) → Stops e run
    → new.files.held ≡ Some before → FailedAt e old.files new.files → new.files.writes ≡ old.files.writes → IsFaultWith e (λ file. IsAmong file names)
    → Reports (stop_line e) (stop_status e) old.sink new.sink answer → Answers (settled run) names before old new answer
stopped (stop.Refused file why) run names before old new answer stops held failed writes among h =
    subst (λ r. Answers (settled r) names before old new answer) (sym stops) (told_of (refused file why) names before old new answer held failed writes h)
stopped (stop.Fault line) run names before old new answer stops held failed writes among h =
    subst (λ r. Answers (settled r) names before old new answer) (sym stops) (told_of (fault line) names before old new answer held failed writes h)
stopped (stop.OutOfFuel fuel) run names before old new answer stops held failed writes among h =
    subst (λ r. Answers (settled r) names before old new answer) (sym stops) (told_of (out_of_fuel fuel) names before old new answer held failed writes h)
stopped (stop.Low model id feature) run names before old new answer stops held failed writes among h =
    subst (λ r. Answers (settled r) names before old new answer) (sym stops) (told_of (low model id feature) names before old new answer held failed writes h)
stopped (stop.ReadFault file) run names before old new answer stops held failed writes among h = read_fault_of (settled run) names before old new answer file held failed writes among h
stopped stop.NoMemory run names before old new answer stops held failed writes among h = memory_of (settled run) names before old new answer held failed writes h

-- a file failed while it was written
file_failed : (p : Plan) (names : List (List ℕ)) (before : Held) (old new : OutsideSeen) (answer : Status) (k : ℕ) (now : Option Held) → new.files.held ≡ now
    → StoppedAt (files_in p.outputs) k old.files new.files
    → BothTold (λ was is. SameBut (name_at (files_in p.outputs) k) (put_all (take k (files_in p.outputs)) was) is) (Some before) now
    → Reports (write_fault_line (name_at (files_in p.outputs) k)) status.WriteFault old.sink new.sink answer → Answers (outcome_of p) names before old new answer
file_failed p names before old new answer k None held h others r = absurd others
file_failed p names before old new answer k (Some now) held h others (inl r) = subst (Answers (outcome_of p) names before old new) (sym r.0)
    (inl (record { done = refl; number = k; within = h.within; now = now; held = held; others = others; reads = h.reads; rose = h.rose; one = h.one; sink = inl r.1 }))
file_failed p names before old new answer k (Some now) held h others (inr r) = subst (Answers (outcome_of p) names before old new) (sym r.0)
    (inl (record { done = refl; number = k; within = h.within; now = now; held = held; others = others; reads = h.reads; rose = h.rose; one = h.one; sink = inr r.1 }))

-- a plan that was carried out, or at a file that failed was given up
carried : (p : Plan) (names : List (List ℕ)) (before : Held) (old new : OutsideSeen) (answer : Status) → old.files.held ≡ Some before
    → CarriedOut p old new answer → Answers (outcome_of p) names before old new answer
carried p names before old new answer is (inl h) = told_of (outcome_of p) names before old new answer (h.0.held ∙ ap (option_map (put_all (files_in p.outputs))) is) h.0.reads h.0.writes h.1
carried p names before old new answer is (inr h) = file_failed p names before old new answer h.0 new.files.held refl h.1
    (subst (λ t. BothTold (λ was now. SameBut (name_at (files_in p.outputs) h.0) (put_all (take h.0 (files_in p.outputs)) was) now) t new.files.held) is h.1.held) h.2

-- the reads before the writing changed nothing
pub carried_from : (p : Plan) (c : Chain Outcome) (old mid new : FilesSeen) (sink after : SinkSeen) (answer : Status) → Follows outcome_of c old (Ok p) mid
    → CarriedOut p (outside mid sink) (outside new after) answer → CarriedOut p (outside old sink) (outside new after) answer
carried_from p c old mid new sink after answer f (inl h) = inl (
  record {
    held = h.0.held ∙ ap (option_map (put_all (files_in p.outputs))) f.held;
    reads = record { reads = h.0.reads.reads ∙ f.reads.reads; failed = h.0.reads.failed ∙ f.reads.failed };
    writes = h.0.writes ∙ f.writes;
  },
  h.1,
)
carried_from p c old mid new sink after answer f (inr h) = inr (
  h.0,
  record {
    within = h.1.within;
    held = subst (λ t. BothTold (λ was now. SameBut (name_at (files_in p.outputs) h.0) (put_all (take h.0 (files_in p.outputs)) was) now) t new.held) f.held h.1.held;
    reads = record { reads = h.1.reads.reads ∙ f.reads.reads; failed = h.1.reads.failed ∙ f.reads.failed };
    rose = subst (λ n. Rose n new.writes) f.writes h.1.rose;
    one = subst (λ n. new.writes ≤ n + 1) f.writes h.1.one;
  },
  h.2,
)

-- a plan of a command was carried out
pub carried_after : (p : Plan) (c : Chain Outcome) (old mid new : FilesSeen) (sink after : SinkSeen) (answer : Status) → Follows outcome_of c old (Ok p) mid
    → CarriedOut p (outside mid sink) (outside new after) answer → (held : Held) → old.held ≡ Some held
    → Answers (settled (c held).answer) (c held).names held (outside old sink) (outside new after) answer
carried_after p c old mid new sink after answer f h held is =
    subst (λ r. Answers (settled r) (c held).names held (outside old sink) (outside new after) answer) (sym (f.gives held is))
    (carried p (c held).names held (outside old sink) (outside new after) answer is (carried_from p c old mid new sink after answer f h))

-- a command that ended early was told, or that memory was wanting
pub finished_after : (e : Stop) (c : Chain Outcome) (old new : FilesSeen) (sink after : SinkSeen) (answer : Status) → Follows outcome_of c old (Err e) new
    → Reports (stop_line e) (stop_status e) sink after answer ⊎ Reports no_memory_line status.NoMemory sink after answer
    → (held : Held) → old.held ≡ Some held → Answers (settled (c held).answer) (c held).names held (outside old sink) (outside new after) answer
finished_after e c old new sink after answer f (inl h) held is =
    stopped e (c held).answer (c held).names held (outside old sink) (outside new after) answer (f.gives held is) (f.held ∙ is) f.reads f.writes (f.named held is) h
finished_after e c old new sink after answer f (inr h) held is =
    memory_of (settled (c held).answer) (c held).names held (outside old sink) (outside new after) answer (f.held ∙ is) (at_most e old new f.reads) f.writes h
