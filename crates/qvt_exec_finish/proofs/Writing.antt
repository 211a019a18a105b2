-- Late entries that can be written, one after another.
use Rattle.std.proofs.Common.{◌≡◌, ◌∙◌, ◌+◌, ◌<◌, ℕ, List, ◌∷◌, drop, get_or, length, map, Result, Ok, sym, ap, subst}
use Rattle.std.proofs.lemmas.List.{drop_more, get_or-map, length-map}
use Rattle.std.proofs.lemmas.List.Elements.{All-get_or, All-map, All-same, All-weaker}
use Rattle.std.specs.List.{All}
use Rattle.qvt_value.specs.declared.value.Value.{Obj}
use Rattle.qvt_store.specs.Contents.{Contents}
use Rattle.qvt_slots.specs.declared.fault.StoreFault.{StoreFault}
use Rattle.qvt_store.specs.Stay.{IsStore, StaysIn}
use Rattle.qvt_store_laws.proofs.Stays.{write_stays}
use Rattle.qvt_typing.specs.Accepts.{ProgramTerm}
use Rattle.qvt_run_data.specs.declared.late.LateWrite.{LateWrite}
use Rattle.qvt_run_data.specs.declared.record.Record.{Record}
use Rattle.qvt_meaning.specs.Run as run
use Rattle.qvt_run_laws.specs.Entries.{AnswersFit, CanBeWritten, IsFor}
use Rattle.qvt_exec_finish.specs.Entries.{entry_view}
use Rattle.qvt_exec_finish.specs.Patches.{value_of}
use Rattle.qvt_exec_finish.specs.declared.entries.Entry.{Entry}

-- what answers late assignments that fit their slots
pub all_fit : (p : ProgramTerm) (s t : Contents) (trace : List Record) (ws kept : List LateWrite) (es : List Entry) → AnswersFit → IsStore t → t ≡ s → ws ≡ kept → All (IsFor s) kept
    → map entry_view es ≡ map (run.answered p (record { trace = trace; store = t })) ws → All (CanBeWritten s) (map entry_view es)
all_fit p s t trace ws kept es fit whole same_store same_writes h answered =
    let f : run.Finish = record { trace = trace; store = t } in
    let asked : All (IsFor t) ws = subst (All (IsFor t)) (sym same_writes) (subst (λ (u : Contents). All (IsFor u) kept) (sym same_store) h) in
    subst (λ (u : Contents). All (CanBeWritten u) (map entry_view es)) same_store
    (All-same (CanBeWritten t) (map entry_view es) (map (run.answered p f) ws) answered
    (All-map (CanBeWritten t) (run.answered p f) ws (All-weaker (IsFor t) (λ w. CanBeWritten t (run.answered p f w)) (λ w is. fit p f w whole.well_formed is) ws asked)))

module _ (s : Contents) (es : List Entry) (i : ℕ) (e : Entry) (less : i < length es) (is : e ≡ get_or es i e) where
  pub one_fits : All (CanBeWritten s) (map entry_view es) → CanBeWritten s (entry_view e)
  one_fits h =
      subst (CanBeWritten s) (get_or-map entry_view es i e (entry_view e) less ∙ ap entry_view (sym is))
      (All-get_or (CanBeWritten s) (map entry_view es) i (entry_view e) (subst (λ n. i < n) (sym (length-map es entry_view)) less) h)

  module _ (t : Contents) (done : run.written s (value_of e) ≡ Ok t) where
    -- once it is written the others can be, too
    pub others_fit : All (CanBeWritten s) (map entry_view es) → All (CanBeWritten t) (map entry_view es)
    others_fit h =
        let stays : StaysIn s t = write_stays s t e.write.object.0 e.write.feature.0 e.write.op (map Obj e.objects) done in
        All-weaker (CanBeWritten s) (CanBeWritten t) (λ x can. stays.assignable (run.late_value x).object.0 (run.late_value x).feature.0 (map Obj (run.late_value x).values) can) (map entry_view es) h

    pub one_less : run.patched s (map value_of (drop i es)) ≡ run.patched t (map value_of (drop (i + 1) es))
    one_less =
        ap (λ xs. run.patched s (map value_of xs)) (drop_more es i e less ∙ ap (λ x. x ∷ drop (i + 1) es) (sym is))
        ∙ ap (λ (r : Result Contents StoreFault). run.patch_on r e.write.place (λ u. run.patched u (map value_of (drop (i + 1) es)))) done
