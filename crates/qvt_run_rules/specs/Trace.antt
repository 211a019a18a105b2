-- The trace as a list of records (QVT 1.3, 8.1.12): its keys, and what a request finds in it (8.1.10 and 8.2.1.22).
use Rattle.std.specs.Prelude.{ℕ, ◌==◌, Bool, true, false, ◌&&◌, if◌then◌else◌, List, [], ◌∷◌, ◌++◌, filter, Option, Some, None}
use Rattle.std.specs.List.{list_any, flat_map, filter_map, fold}
use Rattle.qvt_base.specs.declared.numbers.MappingNo.{MappingNo}
use Rattle.qvt_base.specs.declared.numbers.Oid.{Oid}
use Rattle.qvt_metamodel.specs.Descends.{descends}
use Rattle.qvt_ocl_words.specs.Lists.{same}
use Rattle.qvt_slots.specs.Contents.{Contents, class_of, is_live}
use Rattle.qvt_value.specs.declared.value.Value.{Value}
use Rattle.qvt_run_data.specs.declared.record.Key.{Key}
use Rattle.qvt_run_data.specs.declared.record.Record.{Record}
use Rattle.qvt_run_data.specs.declared.request.Request.{Request}

-- Keys.

abbrev pub same_object : Oid → Oid → Bool
same_object a b = a.0 == b.0

abbrev pub same_end : Option Oid → Option Oid → Bool
same_end None None = true
same_end (Some a) (Some b) = same_object a b
same_end a b = false

-- lists of arguments that are equal by value
abbrev pub same_values : List Value → List Value → Bool
same_values [] [] = true
same_values (v ∷ vs) (w ∷ ws) = same v w && same_values vs ws
same_values vs ws = false

unfoldable pub same_key : Key → Key → Bool
same_key a b = (a.mapping.0 == b.mapping.0) && (same_end a.context b.context && same_values a.args b.args)

abbrev pub key_of : Record → Key
key_of r = record { mapping = r.mapping; context = r.context; args = r.args }

abbrev pub record_of : Key → Option Oid → Record
record_of k result = record { mapping = k.mapping; context = k.context; args = k.args; result = result }

-- the result that a list of records has for a key, if one of them has the key
abbrev pub result_for : Key → List Record → Option (Option Oid)
result_for k [] = None
result_for k (r ∷ rs) = if same_key (key_of r) k then Some r.result else result_for k rs

abbrev pub has_key : List Key → Key → Bool
has_key ks k = list_any (λ j. same_key j k) ks

-- Requests. A forward request takes the results of the records with a source as their context, an inverse one the contexts of those with
-- it as their result; arguments are never sources.

abbrev pub near_end : Request → Record → Option Oid
near_end q r = if q.inverse then r.result else r.context

abbrev pub far_end : Request → Record → Option Oid
far_end q r = if q.inverse then r.context else r.result

abbrev pub is_listed : Option (List MappingNo) → MappingNo → Bool
is_listed None m = true
is_listed (Some ms) m = list_any (λ n. n.0 == m.0) ms

-- the record is of one of the mappings that are looked at
abbrev pub is_within : Request → Record → Bool
is_within q r = is_listed q.within r.mapping

abbrev pub comes_from : Request → Oid → Record → Bool
comes_from q o r = same_end (near_end q r) (Some o) && is_within q r

-- for each source in order the records in trace order; without a source, all
abbrev pub matched_by : Request → Option (List Oid) → List Record → List Record
matched_by q None rs = filter (is_within q) rs
matched_by q (Some os) rs = flat_map (λ o. filter (comes_from q o) rs) os

abbrev pub has_object : List Oid → Oid → Bool
has_object os o = list_any (λ x. same_object x o) os

-- each object where it first stands
abbrev pub with_new : List Oid → Oid → List Oid
with_new done o = if has_object done o then done else done ++ o ∷ []

abbrev pub distinct : List Oid → List Oid
distinct os = fold with_new [] os

abbrev pub is_object_of : Contents → ℕ → Oid → Bool
is_object_of s c o = is_live s o.0 && descends s.metas (class_of s o.0) c

-- the candidates: the other ends, but for nulls, objects that are not of the class, and repeats after the first
unfoldable pub candidates : List Record → Contents → Request → List Oid
candidates rs s q = distinct (filter (is_object_of s q.class.0) (filter_map (far_end q) (matched_by q q.sources rs)))
