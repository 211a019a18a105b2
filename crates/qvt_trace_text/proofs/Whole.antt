-- A trace has whole numbers alone.
use Rattle.std.proofs.Common.{◌≡◌, refl, ℕ, ℤ, pos, negsuc, Bool, true, false, ◌||◌, List, [], ◌∷◌, map, Option, Some, None}
use Rattle.serde_json.specs.Data.{Data, string}
use Rattle.serde_json.specs.Find.{is_float, of_integer}
use Rattle.serde_json.specs.View.{items_of}
use Rattle.serde_json.specs.Written.{has_float, items_have_float}
use Rattle.qvt_base.specs.declared.numbers.MappingNo.{MappingNo}
use Rattle.qvt_base.specs.declared.numbers.Oid.{Oid}
use Rattle.qvt_run_data.specs.declared.record.Record.{Record}
use Rattle.qvt_store.specs.Contents.{Contents}
use Rattle.qvt_typing.specs.Accepts.{ProgramTerm}
use Rattle.qvt_value.specs.declared.value.Value.{Value, Null, Bool as Truth, Int, Str, Enum, Obj, Coll', Invalid, Row_of-Value, end_of-Value, more_of-Value}
use Rattle.qvt_meaning_report.specs.TraceText.{end_data, mapping_path, object_data, record_data, row_data, value_data}
use Rattle.qvt_trace_text.specs.declared.entry.WrittenEntry.{WrittenEntry}
use Rattle.qvt_trace_text.specs.Parts.{entry_data, trace_parts}
use Rattle.qvt_trace_text.specs.Words.{sources_data, within_data}

either : (a b : Bool) → a ≡ false → b ≡ false → (a || b) ≡ false
either false b h k = k
either true b h k = h

both : {a b : Bool} → a ≡ false → b ≡ false → (a || b) ≡ false
both {a} {b} h k = either a b h k

none : false ≡ false
none = refl

whole : (z : ℤ) → is_float (of_integer z) ≡ false
whole (pos n) = refl
whole (negsuc n) = refl

each_whole : {X : Type 0} → (f : X → Data) → ((x : X) → has_float (f x) ≡ false) → (xs : List X) → items_have_float (items_of (map f xs)) ≡ false
each_whole f h [] = refl
each_whole f h (x ∷ xs) = both (h x) (each_whole f h xs)

module _ (s : Contents) (ids : List (Option (List ℕ))) where
  mutual
    value_whole : (v : Value) → has_float (value_data s ids v) ≡ false
    value_whole Null = refl
    value_whole (Truth b) = refl
    value_whole (Int z) = whole z
    value_whole (Str t) = refl
    value_whole (Enum l) = refl
    value_whole (Obj o) = refl
    value_whole (Coll' k shape row) = both (row_whole row) none
    value_whole (Invalid r p) = refl

    row_whole : {m : _} (r : Row_of-Value m) → items_have_float (items_of (row_data s ids r)) ≡ false
    row_whole end_of-Value = refl
    row_whole (more_of-Value v vs) = both (value_whole v) (row_whole vs)

  end_whole : (o : Option Oid) → has_float (end_data s ids o) ≡ false
  end_whole None = refl
  end_whole (Some o) = refl

  objects_whole : (os : List Oid) → items_have_float (items_of (map (object_data s ids) os)) ≡ false
  objects_whole os = each_whole (object_data s ids) (λ o. refl) os

  sources_whole : (o : Option (List Oid)) → has_float (sources_data s ids o) ≡ false
  sources_whole None = refl
  sources_whole (Some os) = objects_whole os

  module _ (p : ProgramTerm) where
    record_whole : (r : Record) → has_float (record_data s ids p r) ≡ false
    unfolding record_data
    record_whole r = both (each_whole (value_data s ids) value_whole r.args) (both (end_whole r.context) (both (end_whole r.result) none))

    within_whole : (o : Option (List MappingNo)) → has_float (within_data p o) ≡ false
    within_whole None = refl
    within_whole (Some ms) = each_whole (λ m. string (mapping_path p m.0)) (λ m. refl) ms

    entry_whole : (e : WrittenEntry) → has_float (entry_data s ids p e) ≡ false
    unfolding entry_data
    entry_whole e =
        both (objects_whole e.candidates) (both (within_whole e.write.request.within) (both (sources_whole e.write.request.sources) (both (objects_whole e.values) none)))

    pub trace_whole : (rs : List Record) (es : List WrittenEntry) → has_float (trace_parts s ids p rs es) ≡ false
    trace_whole rs es = both (each_whole (entry_data s ids p) entry_whole es) (both (each_whole (record_data s ids p) record_whole rs) none)
