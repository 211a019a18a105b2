-- The laws of the records of a run.
use Rattle.std.proofs.Common.{◌≡◌, ◌∙◌, ℕ, Bool, true, false, refl, sym, subst, List, [], ◌∷◌, ◌++◌, map, Option, Some, None, Result, Ok, Err, if◌then◌else◌}
use Rattle.qvt_base.specs.declared.numbers.Oid.{Oid}
use Rattle.qvt_base.specs.declared.numbers.Place.{Place}
use Rattle.qvt_slots.specs.Contents.{Contents}
use Rattle.qvt_types_data.specs.declared.ty.Ty.{Ty}
use Rattle.qvt_types_nodes.specs.Tree.{TypedExprTerm}
use Rattle.qvt_typing.specs.Accepts.{ProgramTerm}
use Rattle.qvt_value.specs.declared.value.Value.{Obj}
use Rattle.qvt_run_data.specs.declared.exit.End.{End}
use Rattle.qvt_run_data.specs.declared.exit.Exit.{Exit}
use Rattle.qvt_run_data.specs.declared.exit.Exit.TheVariants.{Returned, Ends}
use Rattle.qvt_run_data.specs.declared.late.LateWrite.{LateWrite}
use Rattle.qvt_run_data.specs.declared.local.Local.{Local}
use Rattle.qvt_run_data.specs.declared.record.Key.{Key}
use Rattle.qvt_run_data.specs.declared.record.Record.{Record}
use Rattle.qvt_run_rules.specs.State.{State, Done, Does, on_outcome, ◌>>=◌, pure, caught}
use Rattle.qvt_run_rules.specs.Locals.{result_name, begun, own_in, in_own, set}
use Rattle.qvt_run_rules.specs.Mappings as of
use Rattle.qvt_run_rules.specs.Mappings.{MappingRule, ResultClass, MadeResult, Ended, New, BegunCall, key}
use Rattle.qvt_meaning.specs.Laws.{keys_differ, OneRecord, request_run, answered_from, from_requests}
use Rattle.qvt_meaning.specs.Plain.{state_of}
use Rattle.qvt_meaning.specs.Run.{Finish, AnsweredWrite, FinishedRun, setting, main_in, main_run, finish_of, walk, patched, finished_as, carried_out, late_value}
use Rattle.qvt_meaning.specs.Units.{mapping_at}
use Rattle.qvt_meaning_laws.proofs.Closed.{Closed, Held, held_some}
use Rattle.qvt_meaning_laws.proofs.Actions as action
use Rattle.qvt_meaning_laws.proofs.Phrasing.{of_expr, of_stmts}
use Rattle.qvt_meaning_laws.proofs.Making.{Mappings, begins}
use Rattle.qvt_meaning_laws.proofs.Calls as call
use Rattle.qvt_meaning_laws.proofs.Runs.{one_pass}
use Rattle.qvt_run_laws.specs.Records.{IsKeyed, Keeps, rules, calls, CallsKeepRecords, ExpressionsKeepRecords, StatementsKeepRecords, RunsAreKeyed, records_of, IsRecorded, begun as begun_by, OneIsWritten, IsRecordedWith, OneIsLeft}
use Rattle.qvt_run_laws.proofs.Keys.{result_stays}
use Rattle.qvt_run_laws.proofs.Keeping.{Kept, IsMade, Fresh, once_records, keeps}

-- nothing is asked of conditions of loops and bodies of closures
free : (left : ℕ) (answer : Option Ty) (e : TypedExprTerm) → Unit {0}
free left answer e = tt

module _ (p : ProgramTerm) (fuel : ℕ) where
  closed : Closed LateWrite LateWrite Kept (λ p q. Unit {0}) (rules p fuel) (rules p fuel)
  closed = keeps (λ w. w) p fuel

pub calls_keep : CallsKeepRecords
unfolding setting
calls_keep p fuel left c vs at s h = call.calls_to (closed p fuel) p free left c vs at s h

pub expressions_keep : ExpressionsKeepRecords
unfolding setting
expressions_keep p fuel left answer e s h = of_expr (closed p fuel) p {d = calls p fuel left} {d' = calls p fuel left} (call.calls_to (closed p fuel) p free left) (free left) answer e s h

pub statements_keep : StatementsKeepRecords
unfolding setting
statements_keep p fuel left answer ss s h = action.in_order (closed p fuel) (of_stmts (closed p fuel) p {d = calls p fuel left} {d' = calls p fuel left} (call.calls_to (closed p fuel) p free left) (free left) answer ss) s h

-- A whole run.

at_first : (store : Contents) → IsKeyed (state_of {E = LateWrite} store [] [])
at_first store = record { differ = refl; free = λ k q. refl }

run_keeps : (p : ProgramTerm) (fuel : ℕ) (store : Contents) → Keeps (state_of store [] []) (request_run p fuel store).1
unfolding main_run setting
run_keeps p fuel store = action.block (closed p fuel) (of_stmts (closed p fuel) p {d = calls p fuel 100} {d' = calls p fuel 100} (call.calls_to (closed p fuel) p free 100) (free 100) None (main_in p.module_.units)) (state_of store [] []) (at_first store)

pub runs_are_keyed : RunsAreKeyed
runs_are_keyed p fuel store = let h : Keeps (state_of store [] []) (request_run p fuel store).1 = run_keeps p fuel store in (h.keyed, h.keys)

abbrev Differ : FinishedRun → Type 0
Differ f = keys_differ f.finish.trace ≡ true

as_patched : (f : Finish) (es : List AnsweredWrite) (cost : ℕ) (r : Result Contents End) (g : FinishedRun) → keys_differ f.trace ≡ true → finished_as f es cost r ≡ Ok g → Differ g
as_patched f es cost (Ok store) g d e =
    let same : record { finish = f; after = store; entries = es; cost = cost } ≡ g = cc in
    subst Differ same d
as_patched f es cost (Err x) g d e = absurd (cc)

as_carried : (f : Finish) (es : List AnsweredWrite) (w : Result ℕ End) (g : FinishedRun) → keys_differ f.trace ≡ true → carried_out f es w ≡ Ok g → Differ g
as_carried f es (Ok cost) g d e = as_patched f es cost (patched f.store (map late_value es)) g d e
as_carried f es (Err x) g d e = absurd (cc)

as_ended : (p : ProgramTerm) (fuel : ℕ) (r : Result (Unit {0}) Exit) (s : State LateWrite) (g : FinishedRun) → keys_differ s.trace ≡ true → from_requests p fuel r s ≡ Ok g → Differ g
as_ended p fuel (Ok u) s g d e = as_carried (finish_of s) (answered_from p s) (walk fuel s.cost (answered_from p s)) g d e
as_ended p fuel (Err (Returned v)) s g d e = as_carried (finish_of s) (answered_from p s) (walk fuel s.cost (answered_from p s)) g d e
as_ended p fuel (Err (Ends x)) s g d e = absurd (cc)

pub one_record : OneRecord
one_record p store fuel f e =
    as_ended p fuel (request_run p fuel store).0 (request_run p fuel store).1 f (run_keeps p fuel store).keyed.differ (sym (one_pass p fuel store) ∙ e)

-- The steps of a call up to the record do not find the key themselves.

abbrev MadeBy : Result MadeResult Exit → Type 0
MadeBy (Ok m) = IsMade m
MadeBy (Err e) = Unit {0}

module _ {E : Type 0} where
  abbrev Makes : Does E MadeResult → Type 0
  Makes p = (s : State E) → MadeBy (p s).0

  behind : {A : Type 0} (f : A → Does E MadeResult) → ((a : A) → Makes (f a)) → (r : Result A Exit) (t : State E) → MadeBy (on_outcome r t f).0
  behind f k (Ok a) t = k a t
  behind f k (Err e) t = tt

  then_makes : {A : Type 0} (p : Does E A) (f : A → Does E MadeResult) → ((a : A) → Makes (f a)) → Makes (p >>= f)
  then_makes p f k = λ s. behind f k (p s).0 (p s).1

  completes_as : (r : Option ResultClass) (at : Place) → Makes (of.completed_as r at)
  completes_as None at = λ s. tt
  completes_as (Some c) at = then_makes (of.made_of c.class c.extent at) (of.kept_as at) (λ o. then_makes (set result_name (Obj o) at) (λ _. pure (New (Some o))) (λ _ s. tt))

  completes : (m : MappingRule E) (o : Option Oid) → Makes (of.completed m o)
  completes m (Some o) = λ s. tt
  completes m None = completes_as m.result m.place

  ends_or : (b : Bool) (m : MappingRule E) (r : Option Oid) → Makes (if b then pure (Ended r) else of.completed m r)
  ends_or true m r = λ s. tt
  ends_or false m r = completes m r

  inside_makes : (m : MappingRule E) → Makes (of.first_inside m)
  unfolding of.first_inside
  inside_makes m = then_makes (caught m.init) (λ returned. of.result_read m.result m.place >>= (λ r. if returned then pure (Ended r) else of.completed m r))
      (λ b. then_makes (of.result_read m.result m.place) (λ r. if b then pure (Ended r) else of.completed m r) (λ r. ends_or b m r))

  owned : (r : Result MadeResult Exit) (t s : State E) → MadeBy r → Fresh (own_in r t s).0
  owned (Ok m) t s h = h
  owned (Err e) t s h = tt

  first_makes : (m : MappingRule E) (ls : List Local) (s : State E) → Fresh (of.first m ls s).0
  unfolding of.first in_own
  first_makes m ls s =
      let t : State E = begun (ls ++ of.result_local m.result (of.value_of None)) s in
      owned (of.first_inside m t).0 (of.first_inside m t).1 s (inside_makes m t)

module _ (p : ProgramTerm) (fuel left : ℕ) where
  abbrev AlikeMappings : MappingRule LateWrite → MappingRule LateWrite → Type 0
  AlikeMappings = Mappings (closed p fuel)

  there : (m : MappingRule LateWrite) → Held AlikeMappings (Some m) (Some m) → AlikeMappings m m
  there m (held_some e) = e

  all_mappings : (n : ℕ) → Held AlikeMappings (mapping_at (rules p fuel) (calls p fuel left) n) (mapping_at (rules p fuel) (calls p fuel left) n)
  unfolding setting
  all_mappings n = call.mapping_at (closed p fuel) p (call.calls_to (closed p fuel) p free left) (free left) n

  first_keeps : (m : MappingRule LateWrite) (ls : List Local) → AlikeMappings m m → Kept BegunCall (of.first m ls) (of.first m ls)
  unfolding setting
  first_keeps m ls e = begins (closed p fuel) all_mappings {d = calls p fuel left} {d' = calls p fuel left} (call.calls_to (closed p fuel) p free left) ls e

pub one_is_written : OneIsWritten
one_is_written p fuel left n m is o vs ls at s h =
    let e : AlikeMappings p fuel left m m = there p fuel left m (subst (λ x. Held (AlikeMappings p fuel left) x x) is (all_mappings p fuel left n)) in
    once_records (key m.number o vs) at (of.first m ls) (first_keeps p fuel left m ls e) (first_makes m ls) s h

-- In the trace that a run leaves.

with_result : (k : Key) (v : Option Oid) (d : Result BegunCall Exit) (rs : List Record) → IsRecorded k d rs → IsRecordedWith v d → map (λ (r : Record). r.result) (records_of k rs) ≡ v ∷ []
with_result k v (Ok x) rs w h = w ∙ h
with_result k v (Err e) rs w h = absurd h

pub one_is_left : OneIsLeft
one_is_left p store fuel f e left n m is o vs ls at s h v recorded more front =
    let k : Key = key m.number o vs in
    let d : Done LateWrite BegunCall = begun_by m o vs ls at s in
    subst (λ (rs : List Record). map (λ (r : Record). r.result) (records_of k rs) ≡ v ∷ []) (sym front)
    (result_stays d.1.trace more k v (with_result k v d.0 d.1.trace (one_is_written p fuel left n m is o vs ls at s h) recorded)
    (subst (λ (rs : List Record). keys_differ rs ≡ true) front (one_record p store fuel f e)))
