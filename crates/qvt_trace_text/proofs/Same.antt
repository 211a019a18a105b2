-- What is put together part by part is the data of the trace.
use Rattle.std.proofs.Common.{◌≡◌, ◌∙◌, refl, sym, ap, ℕ, Bool, true, false, List, [], ◌∷◌, map, Option, Some, None}
use Rattle.std.specs.Prelude.{codes}
use Rattle.std.specs.Option.{is_some}
use Rattle.serde_json.specs.Data.{Data, boolean, string, array, object, no_members, member}
use Rattle.serde_json.specs.View.{items_of}
use Rattle.qvt_base.specs.declared.numbers.MappingNo.{MappingNo}
use Rattle.qvt_base.specs.declared.numbers.Oid.{Oid}
use Rattle.qvt_json.specs.Plain.{file_text}
use Rattle.qvt_metas.specs.Metamodels.{feature_at}
use Rattle.qvt_run_data.specs.declared.record.Record.{Record}
use Rattle.qvt_store.specs.Contents.{Contents}
use Rattle.qvt_slots.specs.declared.op.SetOp.{SetOp}
use Rattle.qvt_slots.specs.declared.op.SetOp.TheVariants as op
use Rattle.qvt_typing.specs.Accepts.{ProgramTerm}
use Rattle.qvt_meaning.specs.Run.{AnsweredWrite, Finish, FinishedRun}
use Rattle.qvt_meaning_report.specs.TraceText as report
use Rattle.qvt_trace_text.specs.declared.entry.WrittenEntry.{WrittenEntry}
use Rattle.qvt_trace_text.specs.Parts.{entry_data, trace_parts}
use Rattle.qvt_trace_text.specs.Words.{form_word, op_word, sources_data, within_data}
use Rattle.qvt_trace_text.specs.Written.{IsWrittenRun, written_entry}

map_map : {X Y Z : Type 0} → (g : Y → Z) (f : X → Y) (h : X → Z) → ((x : X) → g (f x) ≡ h x) → (xs : List X) → map g (map f xs) ≡ map h xs
map_map g f h same [] = refl
map_map g f h same (x ∷ xs) = λ i. same x i ∷ map_map g f h same xs i

module _ (s : Contents) (ids : List (Option (List ℕ))) (p : ProgramTerm) where
  form_same : (inverse one within : Bool) → form_word inverse one within ≡ report.if_in s ids p within (report.word_of s ids p inverse one)
  form_same false false false = refl
  form_same false true false = refl
  form_same true false false = refl
  form_same true true false = refl
  form_same false false true = refl
  form_same false true true = refl
  form_same true false true = refl
  form_same true true true = refl

  op_same : (o : SetOp) → op_word o ≡ report.op_name s ids p o
  op_same op.Put = refl
  op_same op.Add = refl

  within_same : (o : Option (List MappingNo)) → within_data p o ≡ report.within_data s ids p o
  within_same None = refl
  within_same (Some ms) = refl

  sources_same : (o : Option (List Oid)) → sources_data s ids o ≡ report.sources_data s ids p o
  sources_same None = refl
  sources_same (Some os) = refl

  abbrev built : WrittenEntry → List ℕ → Data → List ℕ → Data → Data
  built e form within sign sources = object (
      member (codes "candidates") (report.objects_data s ids e.candidates)
      (member (codes "condition") (boolean (is_some e.write.condition))
      (member (codes "feature") (string (feature_at s.metas e.write.feature.0).name)
      (member (codes "form") (string form)
      (member (codes "in") within
      (member (codes "object") (report.object_data s ids e.write.object)
      (member (codes "op") (string sign)
      (member (codes "sources") sources
      (member (codes "type") (string (report.class_path s.metas e.write.request.class.0))
      (member (codes "values") (report.objects_data s ids e.values) no_members))))))))))

  entry_built : (e : WrittenEntry) → entry_data s ids p e ≡ built e (form_word e.write.request.inverse e.write.one (is_some e.write.request.within)) (within_data p e.write.request.within) (op_word e.write.op) (sources_data s ids e.write.request.sources)
  unfolding entry_data
  entry_built e = refl

  entry_same : (f : Finish) (e : AnsweredWrite) → entry_data s ids p (written_entry f e) ≡ report.entry_data s ids p f e
  unfolding report.entry_data
  entry_same f e =
      entry_built (written_entry f e)
      ∙ (λ i. built (written_entry f e) (form_same e.write.request.inverse e.write.one (is_some e.write.request.within) i) (within_same e.write.request.within i) (op_same e.write.op i) (sources_same e.write.request.sources i))

  parts_same : (f : Finish) (es : List AnsweredWrite) → trace_parts s ids p f.trace (map (written_entry f) es) ≡ report.trace_data s ids p f es
  parts_same f es =
      ap (λ ds. object (member (codes "late") (array (items_of ds)) (member (codes "records") (array (items_of (map (report.record_data s ids p) f.trace))) no_members)))
      (map_map (entry_data s ids p) (written_entry f) (report.entry_data s ids p f) (entry_same f) es)

pub text_same : (p : ProgramTerm) (ids : List (Option (List ℕ))) (f : FinishedRun) (s : Contents) (rs : List Record) (es : List WrittenEntry)
    → IsWrittenRun f s rs es → file_text (trace_parts s ids p rs es) ≡ report.trace_text p ids f
unfolding report.trace_text
text_same p ids f s rs es w =
    sym (λ i. file_text (trace_parts (w.store i) ids p (w.records i) (w.entries i)))
    ∙ ap file_text (parts_same f.after ids p f.finish f.entries)
