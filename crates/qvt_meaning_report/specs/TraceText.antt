-- The text of a trace (QVT 1.3, 8.1.12, in this engine's own form): the records, and the late entries with what they found.
use Rattle.std.specs.Prelude.{ℕ, Bool, true, false, if◌then◌else◌, List, [], ◌∷◌, ◌++◌, map, Option, Some, None, codes}
use Rattle.std.specs.Option.{is_some}
use Rattle.serde_json.specs.Data.{Data, null, boolean, number, string, array, object, no_members, member}
use Rattle.serde_json.specs.Find.{of_integer}
use Rattle.serde_json.specs.View.{items_of}
use Rattle.qvt_base.specs.declared.numbers.MappingNo.{MappingNo}
use Rattle.qvt_base.specs.declared.numbers.Oid.{Oid}
use Rattle.qvt_json.specs.Plain.{file_text}
use Rattle.qvt_metamodel.specs.Metamodels.{Metamodels, class_at, feature_at}
use Rattle.qvt_metamodel.specs.Named.{metamodel_at, enumeration_at, literal_at}
use Rattle.qvt_model.specs.RunIds.{run_id}
use Rattle.qvt_store.specs.Contents.{Contents, extent_at, extent_of, is_named}
use Rattle.qvt_slots.specs.declared.op.SetOp.{SetOp}
use Rattle.qvt_slots.specs.declared.op.SetOp.TheVariants as op
use Rattle.qvt_types_units.specs.declared.signature.Signature.{Signature}
use Rattle.qvt_types_units.specs.Numbers.{no_unit}
use Rattle.qvt_types_units.specs.Units.{traced_name}
use Rattle.qvt_meaning.specs.Accepts.{ProgramTerm}
use Rattle.qvt_value.specs.declared.value.LiteralRef.{LiteralRef}
use Rattle.qvt_value.specs.declared.value.Kind.{Kind}
use Rattle.qvt_value.specs.declared.value.Kind.TheVariants.{Set, Bag, Sequence, OrderedSet}
use Rattle.qvt_value.specs.declared.value.Value.{Value, Null, Bool as Truth, Int, Str, Enum, Obj, Coll', Invalid, Row_of-Value, end_of-Value, more_of-Value}
use Rattle.qvt_run_data.specs.declared.record.Record.{Record}
use Rattle.qvt_run_data.specs.declared.request.Request.{Request}
use Rattle.qvt_run_rules.specs.Trace.{candidates}
use Rattle.qvt_meaning.specs.Program.{signature_of, mapping_unit}
use Rattle.qvt_meaning.specs.Run.{Finish, AnsweredWrite, FinishedRun, late_value}

abbrev pub with_colons : List ℕ → List ℕ → List ℕ
with_colons a b = a ++ (codes "::" ++ b)

abbrev pub under : List ℕ → List ℕ → List ℕ
under front name = if is_named front then with_colons front name else name

-- a class under its metamodel; one of no metamodel of the job alone
unfoldable pub class_path : Metamodels → ℕ → List ℕ
class_path m c = under (metamodel_at m (class_at m c).metamodel).name (class_at m c).name

abbrev pub literal_path : Metamodels → LiteralRef → List ℕ
literal_path m l = with_colons (with_colons (metamodel_at m l.metamodel).name (enumeration_at m l.metamodel l.enumeration).name) (literal_at m l.metamodel l.enumeration l.literal)

abbrev pub signature_at : ProgramTerm → Option ℕ → Signature
signature_at p None = no_unit
signature_at p (Some n) = signature_of p n

unfoldable pub mapping_path : ProgramTerm → ℕ → List ℕ
mapping_path p k = traced_name p.heads.metas (signature_at p (mapping_unit p k)).context (signature_at p (mapping_unit p k)).name

abbrev pub one : List ℕ → Data → Data
one key d = object (member key d no_members)

abbrev pub kind_name : Kind → List ℕ
kind_name Set = codes "Set"
kind_name Bag = codes "Bag"
kind_name Sequence = codes "Sequence"
kind_name OrderedSet = codes "OrderedSet"

-- over the final store and the ids of files
module _ (s : Contents) (ids : List (Option (List ℕ))) where
  -- an object by its model and its id; the model of an intermediate instance has no name
  abbrev pub object_data : Oid → Data
  object_data o = one (codes "object") (string ((extent_at s (extent_of s o.0)).name ++ (codes ":" ++ run_id s ids o.0)))

  abbrev pub end_data : Option Oid → Data
  end_data None = null
  end_data (Some o) = object_data o

  abbrev pub objects_data : List Oid → Data
  objects_data os = array (items_of (map object_data os))

  abbrev mutual
    pub value_data : Value → Data
    value_data Null = null
    value_data (Truth b) = boolean b
    value_data (Int z) = number (of_integer z)
    value_data (Str t) = string t
    value_data (Enum l) = one (codes "enum") (string (literal_path s.metas l))
    value_data (Obj o) = object_data o
    value_data (Coll' k shape row) = object (member (codes "items") (array (items_of (row_data row))) (member (codes "kind") (string (kind_name k)) no_members))
    value_data (Invalid r p) = null

    pub row_data : {m : _} → Row_of-Value m → List Data
    row_data end_of-Value = []
    row_data (more_of-Value v vs) = value_data v ∷ row_data vs

  module _ (p : ProgramTerm) where
    unfoldable pub record_data : Record → Data
    record_data r = object (
        member (codes "args") (array (items_of (map value_data r.args)))
        (member (codes "context") (end_data r.context)
        (member (codes "mapping") (string (mapping_path p r.mapping.0))
        (member (codes "result") (end_data r.result) no_members))))

    -- Late entries.

    abbrev pub within_data : Option (List MappingNo) → Data
    within_data None = null
    within_data (Some ms) = array (items_of (map (λ m. string (mapping_path p m.0)) ms))

    -- a missing source, or the sources
    abbrev pub sources_data : Option (List Oid) → Data
    sources_data None = null
    sources_data (Some os) = objects_data os

    abbrev pub if_in : Bool → List ℕ → List ℕ
    if_in true word = word ++ codes "In"
    if_in false word = word

    abbrev pub word_of : Bool → Bool → List ℕ
    word_of false false = codes "resolve"
    word_of false true = codes "resolveone"
    word_of true false = codes "invresolve"
    word_of true true = codes "invresolveone"

    -- the resolve word
    abbrev pub form_name : Request → Bool → List ℕ
    form_name q one = if_in (is_some q.within) (word_of q.inverse one)

    abbrev pub op_name : SetOp → List ℕ
    op_name op.Put = codes ":="
    op_name op.Add = codes "+="

    unfoldable pub entry_data : Finish → AnsweredWrite → Data
    entry_data f e = object (
        member (codes "candidates") (objects_data (candidates f.trace f.store e.write.request))
        (member (codes "condition") (boolean (is_some e.write.condition))
        (member (codes "feature") (string (feature_at s.metas e.write.feature.0).name)
        (member (codes "form") (string (form_name e.write.request e.write.one))
        (member (codes "in") (within_data e.write.request.within)
        (member (codes "object") (object_data e.write.object)
        (member (codes "op") (string (op_name e.write.op))
        (member (codes "sources") (sources_data e.write.request.sources)
        (member (codes "type") (string (class_path s.metas e.write.request.class.0))
        (member (codes "values") (objects_data (late_value e).values) no_members))))))))))

    abbrev pub trace_data : Finish → List AnsweredWrite → Data
    trace_data f es = object (
        member (codes "late") (array (items_of (map (entry_data f) es)))
        (member (codes "records") (array (items_of (map record_data f.trace))) no_members))

-- the text of the trace file
unfoldable pub trace_text : ProgramTerm → List (Option (List ℕ)) → FinishedRun → List ℕ
trace_text p ids f = file_text (trace_data f.after ids p f.finish f.entries)
