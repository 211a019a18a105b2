-- The calls of units that are chosen for objects, for one object and for the items of collections (QVT 1.3, 8.2.1.10 and 8.2.1.15).
use Rattle.std.specs.Prelude.{if◌then◌else◌, List, [], ◌∷◌, ◌++◌}
use Rattle.qvt_base.specs.declared.numbers.Oid.{Oid}
use Rattle.qvt_base.specs.declared.numbers.Place.{Place}
use Rattle.qvt_value.specs.declared.value.Value.{Value}
use Rattle.qvt_value.specs.declared.value.Kind.{Kind}
use Rattle.qvt_run_data.specs.declared.callee.Callee.{Callee}
use Rattle.qvt_run_data.specs.declared.late.LateWrite.{LateWrite}
use Rattle.qvt_ocl_words.specs.Lists.{is_null}
use Rattle.qvt_run_rules.specs.State.{Does, ◌>>=◌, found}
use Rattle.qvt_run_rules.specs.Typed.{object_of}
use Rattle.qvt_run_rules.specs.Sources.{as_flat, collected_kind, collecting, for_items, in_turn, objects_in}
use Rattle.qvt_run_rules.specs.Calls as rule
use Rattle.qvt_run_rules.specs.Calls.{CallRule}
use Rattle.qvt_program_units.specs.Program.{program_view}
use Rattle.qvt_program_units.specs.Readings.{choose}
use Rattle.qvt_exec_phrases.specs.declared.choice.Choosing.{Choosing}

-- what a call calls for an object, by its class
abbrev pub callee_by : Choosing → Oid → Does LateWrite Callee
callee_by h = choose (program_view h.program.now) h.reading.now h.strict h.place

-- the call for an item of a collection
abbrev pub item_by : CallRule LateWrite → Choosing → List Value → Value → Does LateWrite Value
item_by calls h vs v = object_of h.place v >>= rule.call_on calls (callee_by h) vs h.place

-- what is done for an item, on each value of a list
abbrev pub for_list : Place → (Value → Does LateWrite Value) → List Value → List (Does LateWrite Value)
for_list at f [] = []
for_list at f (v ∷ vs) = for_items at f v ∷ for_list at f vs

-- for the items of a collection of a kind
abbrev pub items_by : CallRule LateWrite → Choosing → List Value → Kind → List Value → Does LateWrite Value
items_by calls h vs k xs = in_turn (as_flat h.place (collected_kind k)) [] (for_list h.place (item_by calls h vs) xs)

-- for the items of a value that is a collection
abbrev pub each_by : CallRule LateWrite → (Oid → Does LateWrite Callee) → List Value → Place → Value → Does LateWrite Value
each_by calls chosen vs at v = collecting at [] (λ x. object_of at x >>= rule.call_on calls chosen vs at) v

-- the results but for nulls
abbrev pub with_result : Value → List Value → List Value
with_result v done = if is_null v then done else done ++ v ∷ []

-- of a mapping, for the objects of a value
abbrev pub mapped_by : CallRule LateWrite → (Oid → Does LateWrite Callee) → List Value → Place → Value → Does LateWrite Value
mapped_by calls chosen vs at v = found (objects_in v) at >>= rule.mapped_onto calls at [] (rule.call_on calls chosen vs at)
