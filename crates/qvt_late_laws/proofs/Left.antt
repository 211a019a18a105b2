-- The slots that a run leaves which has ended well.
use Rattle.std.proofs.Common.{◌≡◌, ◌∙◌, ℕ, Bool, true, false, cond, refl, sym, ap, subst, List, [], ◌∷◌, ◌++◌, map, filter, Result, Ok, Err}
use Rattle.std.proofs.lemmas.List.{map-append}
use Rattle.qvt_slots.specs.Contents.{Contents}
use Rattle.qvt_typing.specs.Accepts.{ProgramTerm}
use Rattle.qvt_run_data.specs.declared.exit.End.{End}
use Rattle.qvt_run_data.specs.declared.exit.Exit.{Exit}
use Rattle.qvt_run_data.specs.declared.exit.Exit.TheVariants.{Returned, Ends}
use Rattle.qvt_run_data.specs.declared.late.LateWrite.{LateWrite}
use Rattle.qvt_run_rules.specs.State.{State}
use Rattle.qvt_meaning.specs.Laws.{answered_from, from_requests, is_for, request_run}
use Rattle.qvt_meaning.specs.Run.{AnsweredWrite, Finish, FinishedRun, answered, carried_out, finish_of, finished, finished_as, late_value, objects_in, patched, walk}
use Rattle.qvt_meaning_laws.proofs.Runs.{one_pass}
use Rattle.qvt_late_laws.specs.Late.{RunsLastPut, RunsPerSlot, is_entry_for}
use Rattle.qvt_late_laws.proofs.Carried.{last_put, per_slot}
use Rattle.qvt_late_laws.proofs.Apart.{AreApart, answers_are_apart, as_it_is}

-- the entries are requests that are answered over what `main` left, and they are carried out
record IsAnswered (p : ProgramTerm) (g : FinishedRun) : Type 0 where
  requests : List LateWrite
  entries : g.entries ≡ map (answered p g.finish) requests
  after : patched g.finish.store (map late_value g.entries) ≡ Ok g.after

module _ (p : ProgramTerm) where
  as_patched : (f : Finish) (ws : List LateWrite) (cost : ℕ) (r : Result Contents End) (g : FinishedRun) → patched f.store (map late_value (map (answered p f) ws)) ≡ r
      → finished_as f (map (answered p f) ws) cost r ≡ Ok g → IsAnswered p g
  as_patched f ws cost (Ok t) g h e =
      let same : record { finish = f; after = t; entries = map (answered p f) ws; cost = cost } ≡ g = cc in
      subst (IsAnswered p) same (record { requests = ws; entries = refl; after = h })
  as_patched f ws cost (Err x) g h e = absurd (cc)

  as_carried : (f : Finish) (ws : List LateWrite) (r : Result ℕ End) (g : FinishedRun) → carried_out f (map (answered p f) ws) r ≡ Ok g → IsAnswered p g
  as_carried f ws (Ok cost) g e = as_patched f ws cost (patched f.store (map late_value (map (answered p f) ws))) g refl e
  as_carried f ws (Err x) g e = absurd (cc)

  as_ended : (fuel : ℕ) (r : Result (Unit {0}) Exit) (s : State LateWrite) (g : FinishedRun) → from_requests p fuel r s ≡ Ok g → IsAnswered p g
  as_ended fuel (Ok u) s g e = as_carried (finish_of s) s.entries (walk fuel s.cost (answered_from p s)) g e
  as_ended fuel (Err (Returned v)) s g e = as_carried (finish_of s) s.entries (walk fuel s.cost (answered_from p s)) g e
  as_ended fuel (Err (Ends x)) s g e = absurd (cc)

is_answered : (p : ProgramTerm) (store : Contents) (fuel : ℕ) (g : FinishedRun) → finished p store fuel ≡ Ok g → IsAnswered p g
is_answered p store fuel g e = as_ended p fuel (request_run p fuel store).0 (request_run p fuel store).1 g (sym (one_pass p fuel store) ∙ e)

pub runs_per_slot : RunsPerSlot
runs_per_slot p store fuel g o f e well alone slot =
    let is : IsAnswered p g = is_answered p store fuel g e in
    per_slot g.finish.store g.after (map late_value g.entries) o f well alone slot is.after

filter_mapped : {X Y : Type 0} (test : Y → Bool) (h : X → Y) (xs : List X) → filter test (map h xs) ≡ map h (filter (λ x. test (h x)) xs)
filter_mapped test h [] = refl
filter_mapped test h (x ∷ xs) = go (test (h x)) (filter_mapped test h xs)
  where
    go : (b : Bool) → filter test (map h xs) ≡ map h (filter (λ x. test (h x)) xs) →
        cond b (h x ∷ filter test (map h xs)) (filter test (map h xs)) ≡ map h (cond b (x ∷ filter (λ x. test (h x)) xs) (filter (λ x. test (h x)) xs))
    go true ih = ap (λ l. h x ∷ l) ih
    go false ih = ih

-- the last of answered requests is the answer of its request
last_of : (p : ProgramTerm) (f : Finish) (ws : List LateWrite) (es : List AnsweredWrite) (e : AnsweredWrite) → map (answered p f) ws ≡ es ++ e ∷ [] → e ≡ answered p f e.write
last_of p f [] [] e h = absurd (cc)
last_of p f [] (x ∷ es) e h = absurd (cc)
last_of p f (w ∷ ws) [] e h = let same : answered p f w ≡ e = cc in sym same ∙ ap (λ (k : AnsweredWrite). answered p f k.write) same
last_of p f (w ∷ ws) (x ∷ es) e h = let more : map (answered p f) ws ≡ es ++ e ∷ [] = cc in last_of p f ws es e more

pub runs_last_put : RunsLastPut
runs_last_put p store fuel g o f es e ends well alone slot last puts =
    let is : IsAnswered p g = is_answered p store fuel g ends in
    let told : e ≡ answered p g.finish e.write = last_of p g.finish (filter (λ w. is_entry_for o f (answered p g.finish w)) is.requests) es e
    (sym (filter_mapped (is_entry_for o f) (answered p g.finish) is.requests) ∙ ap (filter (is_entry_for o f)) (sym is.entries) ∙ last) in
    let writes : filter (is_for o f) (map late_value g.entries) ≡ map late_value es ++ late_value e ∷ []
    = filter_mapped (is_for o f) late_value g.entries ∙ ap (map late_value) last ∙ map-append late_value es (e ∷ []) in
    record {
      answer = told;
      slot = last_put g.finish.store g.after (map late_value g.entries) (map late_value es) (late_value e) o f well alone slot is.after writes puts
          ∙ as_it_is g.finish.store.metas f (objects_in e.answer.found) (subst (λ (k : AnsweredWrite). AreApart (objects_in k.answer.found)) (sym told) (answers_are_apart p g.finish e.write));
    }
