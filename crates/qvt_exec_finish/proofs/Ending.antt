-- The end of a run, once its entries are answered.
use Rattle.std.proofs.Common.{◌≡◌, ◌≢◌, ◌∙◌, ◌^◌, ◌-◌, min, ℕ, List, [], ◌∷◌, map, Result, Ok, Err, IsErrAnd, refl, sym, ap, subst, arith}
use Rattle.qvt_store.specs.Contents.{Contents}
use Rattle.qvt_run_data.specs.declared.exit.End.{End}
use Rattle.qvt_run_data.specs.declared.late.LateWrite.{LateWrite}
use Rattle.qvt_run_data.specs.declared.record.Record.{Record}
use Rattle.qvt_run_rules.specs.State.{State}
use Rattle.qvt_meaning.specs.Laws.{after_requests}
use Rattle.qvt_meaning.specs.Run as run
use Rattle.qvt_typing.specs.Accepts.{ProgramTerm}
use Rattle.qvt_exec_finish.specs.Entries.{Walks, entry_view}
use Rattle.qvt_exec_finish.specs.Finish.{Finishes}
use Rattle.qvt_exec_finish.specs.Patches.{PatchesAll, value_of}
use Rattle.qvt_exec_finish.specs.declared.entries.Entry.{Entry}
use Rattle.qvt_exec_finish.specs.declared.finish.Finished.{Finished}
use Rattle.qvt_exec_finish.specs.declared.stop.RunStop.{RunStop}
use Rattle.qvt_exec_finish.specs.declared.stop.RunStop.TheVariants.{Ends, NoMemory}

-- a cost that is not told as the greatest number of 64 bits
pub as_told : (n m : ℕ) → m ≡ min n (2 ^ 64 - 1) → m ≢ 2 ^ 64 - 1 → m ≡ n
as_told n m is less = grind (arith, is, less)

values_same : (xs : List Entry) → map value_of xs ≡ map run.late_value (map entry_view xs)
values_same [] = refl
values_same (x ∷ xs) = ap (λ vs. value_of x ∷ vs) (values_same xs)

module _ (p : ProgramTerm) (fuel : ℕ) (z : State LateWrite) (s : Contents) (t : List Record) (ws : List LateWrite) (k : ℕ) (xs : List Entry) (behind n : ℕ)
    (same_trace : t ≡ z.trace) (same_store : s ≡ z.store) (same_writes : ws ≡ z.entries) (same_cost : k ≡ z.cost) (told : n ≡ behind) where
  abbrev pub finish : run.Finish
  finish = record { trace = z.trace; store = z.store }

  abbrev pub es : Contents → List Record → List LateWrite → List run.AnsweredWrite
  es store trace writes = map (run.answered p (record { trace = trace; store = store })) writes

  -- the changes decide
  pub carried : map entry_view xs ≡ es s t ws → run.walk fuel k (es s t ws) ≡ Ok behind → (r : Result Contents End) → run.patched z.store (map value_of xs) ≡ r
      → after_requests p fuel z ≡ run.finished_as finish (map entry_view xs) n r
  carried entries walked r patched =
      (λ i. run.carried_out finish (es (sym same_store i) (sym same_trace i) (sym same_writes i)) (run.walk fuel (sym same_cost i) (es (sym same_store i) (sym same_trace i) (sym same_writes i))))
      ∙ ap (run.carried_out finish (es s t ws)) walked
      ∙ (λ i. run.finished_as finish (sym entries i) (sym told i) (run.patched z.store (map run.late_value (sym entries i))))
      ∙ ap (run.finished_as finish (map entry_view xs) n) (ap (run.patched z.store) (sym (values_same xs)) ∙ patched)

  pub stopped : (x : RunStop) (new : Contents) → map entry_view xs ≡ es s t ws → run.walk fuel k (es s t ws) ≡ Ok behind → PatchesAll z.store xs (Err x) new
      → Finishes z.store (after_requests p fuel z) (Err x)
  stopped (Ends e) new entries walked patched = carried entries walked (Err e) patched
  stopped NoMemory new entries walked patched = tt

-- an entry ends the walk
module _ (p : ProgramTerm) (fuel : ℕ) (z : State LateWrite) (s : Contents) (t : List Record) (ws : List LateWrite) (k after : ℕ)
    (same_trace : t ≡ z.trace) (same_store : s ≡ z.store) (same_writes : ws ≡ z.entries) (same_cost : k ≡ z.cost) where
  answers : Contents → List Record → List LateWrite → List run.AnsweredWrite
  answers store trace writes = map (run.answered p (record { trace = trace; store = store })) writes

  broken : (x : RunStop) → Walks fuel k (map (run.answered p (record { trace = t; store = s })) ws) (Err x) after → Finishes z.store (after_requests p fuel z) (Err x)
  unfolding answers
  broken (Ends e) walked =
      (λ i. run.carried_out (record { trace = z.trace; store = z.store }) (answers (sym same_store i) (sym same_trace i) (sym same_writes i)) (run.walk fuel (sym same_cost i) (answers (sym same_store i) (sym same_trace i) (sym same_writes i))))
      ∙ ap (run.carried_out (record { trace = z.trace; store = z.store }) (answers s t ws)) walked
  broken NoMemory walked = tt

  pub broken_off : (x : RunStop) (r : Result Finished RunStop) → Walks fuel k (map (run.answered p (record { trace = t; store = s })) ws) (Err x) after → IsErrAnd r (λ e. e ≡ x)
      → Finishes z.store (after_requests p fuel z) r
  broken_off x (Ok f) walked err = absurd err
  broken_off x (Err e) walked err = subst (λ (y : RunStop). Finishes z.store (after_requests p fuel z) (Err y)) (sym err) (broken x walked)
