-- What is written, put together part by part.
use Rattle.std.specs.Prelude.{ℕ, List, map, Option, codes}
use Rattle.std.specs.Option.{is_some}
use Rattle.serde_json.specs.Data.{Data, boolean, string, array, object, Items, Members, no_members, member, put}
use Rattle.serde_json.specs.View.{items_of}
use Rattle.qvt_metas.specs.Metamodels.{Metamodels, feature_at}
use Rattle.qvt_run_data.specs.declared.late.LateWrite.{LateWrite}
use Rattle.qvt_run_data.specs.declared.record.Record.{Record}
use Rattle.qvt_run_data.specs.declared.request.Request.{Request}
use Rattle.qvt_store.specs.Contents.{Contents}
use Rattle.qvt_typing.specs.Accepts.{ProgramTerm}
use Rattle.qvt_value.specs.declared.value.Kind.{Kind}
use Rattle.qvt_value.specs.declared.value.LiteralRef.{LiteralRef}
use Rattle.qvt_meaning_report.specs.TraceText.{one, class_path, kind_name, literal_path, object_data, objects_data, record_data}
use Rattle.qvt_trace_text.specs.declared.entry.WrittenEntry.{WrittenEntry}
use Rattle.qvt_trace_text.specs.Words.{form_word, op_word, sources_data, within_data}

abbrev pub literal_data : Metamodels → LiteralRef → Data
literal_data m l = one (codes "enum") (string (literal_path m l))

abbrev pub coll_data : Kind → Items → Data
coll_data k items = object (member (codes "items") (array items) (member (codes "kind") (string (kind_name k)) no_members))

abbrev pub put_form : LateWrite → Members → Members
put_form w ms = put (codes "form") (string (form_word w.request.inverse w.one (is_some w.request.within))) (put (codes "condition") (boolean (is_some w.condition)) ms)

module _ (s : Contents) (ids : List (Option (List ℕ))) where
  abbrev pub put_found : WrittenEntry → Members → Members
  put_found e ms = put (codes "values") (objects_data s ids e.values) (put (codes "candidates") (objects_data s ids e.candidates) ms)

  abbrev pub put_slot : LateWrite → Members → Members
  put_slot w ms = put (codes "op") (string (op_word w.op)) (put (codes "object") (object_data s ids w.object) (put (codes "feature") (string (feature_at s.metas w.feature.0).name) ms))

  module _ (p : ProgramTerm) where
    abbrev pub put_request : Request → Members → Members
    put_request q ms = put (codes "type") (string (class_path s.metas q.class.0)) (put (codes "sources") (sources_data s ids q.sources) (put (codes "in") (within_data p q.within) ms))

    -- a late entry
    unfoldable pub entry_data : WrittenEntry → Data
    entry_data e = object (put_form e.write (put_request e.write.request (put_slot e.write (put_found e no_members))))

    abbrev pub trace_parts : List Record → List WrittenEntry → Data
    trace_parts rs es = object (
        member (codes "late") (array (items_of (map entry_data es)))
        (member (codes "records") (array (items_of (map (record_data s ids p) rs))) no_members))
