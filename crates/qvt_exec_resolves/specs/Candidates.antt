-- What records give a request beside what it has (QVT 1.3, 8.1.10 and 8.2.1.22).
use Rattle.std.specs.Prelude.{◌≡◌, ℕ, Bool, true, List, filter, map, if◌then◌else◌, Option, Some, None}
use Rattle.std.specs.List.{filter_map, fold}
use Rattle.qvt_base.specs.declared.numbers.MappingNo.{MappingNo}
use Rattle.qvt_base.specs.declared.numbers.Oid.{Oid}
use Rattle.qvt_store.specs.Contents.{Contents}
use Rattle.qvt_run_data.specs.declared.record.Record.{Record}
use Rattle.qvt_run_data.specs.declared.request.Request.{Request}
use Rattle.qvt_run_rules.specs.Trace.{comes_from, far_end, is_listed, is_object_of, is_within, near_end, same_end, with_new}
use Rattle.qvt_exec_resolves.specs.Numbers.{has}

-- objects by their numbers
abbrev pub oid : ℕ → Oid
oid n = record { 0 = n }

abbrev pub oids : List ℕ → List Oid
oids ns = map oid ns

-- an object more, if there is one, it is of the class, and it does not stand there
abbrev pub with_end : Contents → ℕ → List Oid → Option Oid → List Oid
with_end s c done None = done
with_end s c done (Some o) = if is_object_of s c o then with_new done o else done

-- the far ends of these records, but for nulls, objects that are not of the class, and repeats
abbrev pub ends_of : Contents → Request → List Oid → List Record → List Oid
ends_of s q done rs = fold with_new done (filter (is_object_of s q.class.0) (filter_map (far_end q) rs))

-- the same of those records that are of the mappings that are looked at
abbrev pub ends_within : Contents → Request → List Oid → List Record → List Oid
ends_within s q done rs = ends_of s q done (filter (is_within q) rs)

-- the record has the source as its near end
abbrev pub is_near : Request → Oid → Record → Bool
is_near q o r = same_end (near_end q r) (Some o)

-- the same of those that besides come from the source
abbrev pub ends_from : Contents → Request → Oid → List Oid → List Record → List Oid
ends_from s q o done rs = ends_of s q done (filter (comes_from q o) rs)

-- the mapping is among these numbers, or all mappings are looked at
abbrev pub is_number_in : Option (List ℕ) → ℕ → Bool
is_number_in None k = true
is_number_in (Some ks) k = has ks k

abbrev pub AreMappingNumbers : Option (List ℕ) → Option (List MappingNo) → Type 0
AreMappingNumbers ks ms = (m : MappingNo) → is_number_in ks m.0 ≡ is_listed ms m
