-- The rule that a node has by its reading, under a closed relation. Both settings are of one program.
use Rattle.std.proofs.Common.{ℕ, Bool, true, false, if◌then◌else◌, List, [], ◌∷◌, length, Option, Some, None, codes}
use Rattle.std.specs.Option.{is_some}
use Rattle.std.specs.Str.{bytes_eq}
use Rattle.qvt_base.specs.declared.numbers.Oid.{Oid}
use Rattle.qvt_base.specs.declared.numbers.Place.{Place}
use Rattle.qvt_ocl_words.specs.declared.op.Op.{Op}
use Rattle.qvt_tree_types.specs.declared.words.BinaryOp.{BinaryOp}
use Rattle.qvt_types_data.specs.declared.note.Reading.{Reading}
use Rattle.qvt_types_data.specs.declared.note.Reading.TheVariants as reading
use Rattle.qvt_types_data.specs.declared.ty.Ty.{Ty}
use Rattle.qvt_types_data.specs.declared.ty.Ty.TheVariants as ty
use Rattle.qvt_types_nodes.specs.declared.types.TypedSign.{TypedSign}
use Rattle.qvt_types_nodes.specs.Tree.{TypedResolveTerm, TypedStepTerms, TypedMoreSteps, TypedDotStep, TypedSomeArgs}
use Rattle.qvt_types_steps.specs.Classes.{class_test_named, is_selection, model_call_named}
use Rattle.qvt_types_steps.specs.declared.classes.ClassTest.{ClassTest}
use Rattle.qvt_types_steps.specs.IteratorTable.{iterator_named}
use Rattle.qvt_types_steps.specs.declared.iterators.IteratorKind.{IteratorKind}
use Rattle.qvt_types_steps.specs.declared.iterators.IteratorKind.TheVariants as iterator
use Rattle.qvt_types_units.specs.Numbers.{constructor_of}
use Rattle.qvt_types_words.specs.OperationNames.{operation_named}
use Rattle.qvt_types_words.specs.Rulings.{operation_of}
use Rattle.qvt_typing.specs.Accepts.{ProgramTerm}
use Rattle.qvt_value.specs.declared.value.Value.{Value, Enum}
use Rattle.qvt_value.specs.declared.value.Kind.{Kind}
use Rattle.qvt_run_data.specs.declared.callee.Callee.{Callee}
use Rattle.qvt_run_data.specs.declared.questions.ModelQuery.{ModelQuery}
use Rattle.qvt_run_data.specs.declared.request.RequestForm.{RequestForm}
use Rattle.qvt_run_rules.specs.State.{Does}
use Rattle.qvt_run_rules.specs.Locals.{result_name}
use Rattle.qvt_run_rules.specs.Sources.{before_arrow}
use Rattle.qvt_run_rules.specs.Questions.{named_query}
use Rattle.qvt_run_rules.specs.Calls.{CallRule}
use Rattle.qvt_meaning.specs.Nodes.{resolve_mark, class_argument}
use Rattle.qvt_meaning.specs.Program.{chosen_for, free_callee, form_of}
use Rattle.qvt_meaning.specs.Readings as by
use Rattle.qvt_meaning.specs.Readings.{Setting, TargetDoes, HeadDoes, BareTarget, ResultTarget, MemberTarget}
use Rattle.qvt_meaning_laws.proofs.Closed.{Relation, Repeated, Closed, Each, none, more, Held, held_none, held_some, lengths, drops}
use Rattle.qvt_meaning_laws.proofs.Parts.{misfits, looks}
use Rattle.qvt_meaning_laws.proofs.Values as value
use Rattle.qvt_meaning_laws.proofs.Loops as loop
use Rattle.qvt_meaning_laws.proofs.Actions as action
use Rattle.qvt_meaning_laws.proofs.Calling as calling
use Rattle.qvt_meaning_laws.proofs.Calling.{AlikeCalls}
use Rattle.qvt_meaning_laws.proofs.Resolving as resolving

-- the setting over a program
abbrev pub of_program : {E : Type 0} → ProgramTerm → Setting E → Setting E
of_program p x = record x { program = p }

module _ {E F : Type 0} {R : Relation E F} {T : Repeated E F} {x : Setting E} {y : Setting F} (c : Closed E F R T x y) (program : ProgramTerm) where
  abbrev pub Left : Setting E
  Left = of_program program x

  abbrev pub Right : Setting F
  Right = of_program program y

  pub name_of : (r : Reading) (source : Option (List ℕ)) (at : Place) → R Value (by.name_of x.spend r source at) (by.name_of y.spend r source at)
  name_of (reading.Variable name) source at = value.variable c name at
  name_of (reading.Feature f) (Some source) at = value.implicit c source f.0 at
  name_of (reading.Literal m e l) source at = value.literal c (Enum (record { metamodel = m; enumeration = e; literal = l }))
  name_of r source at = misfits c Value at

  operated_by : (o : Option Op) (sign : BinaryOp) {p : Does E Value} {q : Does F Value} (at : Place) (v : Value) → R Value p q → R Value (by.operated_by Left o sign p at v) (by.operated_by Right o sign q at v)
  operated_by (Some o) sign at v e = value.operated c o at v e
  operated_by None sign at v e = value.logical c sign at v e

  pub link_of : (sign : BinaryOp) {p : Does E Value} {q : Does F Value} (at : Place) (v : Value) → R Value p q → R Value (by.link_of Left sign p at v) (by.link_of Right sign q at v)
  link_of sign at v e = operated_by (operation_of sign) sign at v e

  pub signs_of : (ss : List TypedSign) {p : Does E Value} {q : Does F Value} → R Value p q → R Value (by.signs_of Left ss p) (by.signs_of Right ss q)
  signs_of [] e = e
  signs_of (s ∷ ss) e = value.prefixed c s.op s.place (signs_of ss e)

  -- Steps behind a dot.

  pub property_by : (r : Reading) (b : Bool) (at : Place) (v : Value) → R Value (by.property_by x.spend r b at v) (by.property_by y.spend r b at v)
  property_by (reading.Feature f) b at v = value.dot c b f.0 at v
  property_by r b at v = misfits c Value at

  tested_by : (t : Option ClassTest) (n : Option ℕ) (b : Bool) (at : Place) (v : Value) → R Value (by.tested_by x.spend t n b at v) (by.tested_by y.spend t n b at v)
  tested_by (Some t) (Some n) b at v = value.object_tested c b _ n at v
  tested_by t n b at v = misfits c Value at

  operation_by : (o : Option Op) {ps : List (Does E Value)} {qs : List (Does F Value)} (b : Bool) (at : Place) (v : Value) → Each (R Value) ps qs → R Value (by.operation_by Left o ps b at v) (by.operation_by Right o qs b at v)
  operation_by (Some o) b at v e = value.called c b o at v e
  operation_by None b at v e = misfits c Value at

  -- one of two, by a test
  either : (b : Bool) {p p' : Does E Value} {q q' : Does F Value} → R Value p q → R Value p' q' → R Value (if b then p else p') (if b then q else q')
  either true e k = e
  either false e k = k

  operation_step : (name : List ℕ) {ps : List (Does E Value)} {qs : List (Does F Value)} (n : Option ℕ) (b : Bool) (at : Place) (v : Value) → Each (R Value) ps qs → R Value (by.operation_step Left name ps n b at v) (by.operation_step Right name qs n b at v)
  operation_step name n b at v e = either (is_some (class_test_named name)) (tested_by (class_test_named name) n b at v) (operation_by (operation_named name) b at v e)

  choose : (r : Reading) (strict : Bool) (at : Place) (o : Oid) → R Callee (by.choose program r strict at o) (by.choose program r strict at o)
  choose r strict at o = looks c Callee (λ st. chosen_for program r strict o st) at

  module _ {d : CallRule E} {d' : CallRule F} (k : AlikeCalls c d d') where
    call_free : (n : Option Callee) {ps : List (Does E Value)} {qs : List (Does F Value)} (at : Place) → Each (R Value) ps qs → R Value (by.call_free Left d n ps at) (by.call_free Right d' n qs at)
    call_free (Some n) at e = calling.call_free c k n at e
    call_free None at e = misfits c Value at

    pub call_alone : (r : Reading) (source : Option (List ℕ)) (strict : Bool) {ps : List (Does E Value)} {qs : List (Does F Value)} (at : Place) → Each (R Value) ps qs →
        R Value (by.call_alone Left d r source strict ps at) (by.call_alone Right d' r source strict qs at)
    call_alone r (Some source) strict at e = calling.call_implicit c k (choose r strict at) source at e
    call_alone r None strict at e = call_free (free_callee program r strict) at e

    unit_step : (r : Reading) (b : Bool) {ps : List (Does E Value)} {qs : List (Does F Value)} (at : Place) (v : Value) → Each (R Value) ps qs → R Value (by.unit_step Left d r b ps at v) (by.unit_step Right d' r b qs at v)
    unit_step r true at v e = calling.call_each c k (choose r false at) at v e
    unit_step r false at v e = calling.call_step c k (choose r false at) at v e

    pub map_step : (r : Reading) (b strict : Bool) {ps : List (Does E Value)} {qs : List (Does F Value)} (at : Place) (v : Value) → Each (R Value) ps qs →
        R Value (by.map_step Left d r b strict ps at v) (by.map_step Right d' r b strict qs at v)
    map_step r true strict at v e = calling.map_all c k (choose r strict at) at v e
    map_step r false strict at v e = calling.call_step c k (choose r strict at) at v e

    pub dot_by : (name : List ℕ) (r : Reading) (b : Bool) {ps : List (Does E Value)} {qs : List (Does F Value)} (n : Option ℕ) (at : Place) (v : Value) → Each (R Value) ps qs →
        R Value (by.dot_by Left d name r b ps n at v) (by.dot_by Right d' name r b qs n at v)
    dot_by name (reading.Operation o) b n at v e = operation_step name n b at v e
    dot_by name (reading.Units ns) b n at v e = c.beyonds at _ _ (unit_step (reading.Units ns) b at v e)
    dot_by name r b n at v e = misfits c Value at

    new_with : (m l : ℕ) (n : Option ℕ) {ps : List (Does E Value)} {qs : List (Does F Value)} (at : Place) → Each (R Value) ps qs → R Value (by.new_with Left d m l n ps at) (by.new_with Right d' m l n qs at)
    new_with m l (Some n) at e = calling.new_by c k n m l at e
    new_with m l None at none = calling.new_alone c k m l at
    new_with m l None at (more e es) = misfits c Value at

    pub new_by : (r : Reading) {ps : List (Does E Value)} {qs : List (Does F Value)} (at : Place) → Each (R Value) ps qs → R Value (by.new_by Left d r ps at) (by.new_by Right d' r qs at)
    new_by (reading.Make m l) {ps} {qs} at e = rw (lengths e) (new_with m.0 l (constructor_of m.0 (length qs) program.heads.units) at e)
    new_by r at e = misfits c Value at

  -- Behind an arrow.

  -- what is known of two phrases each of which may be the body of a closure
  abbrev pub Bodies : Does E Value → Does F Value → Type 0
  Bodies p q = T p q × R Value p q

  values_of : {ps : List (Does E Value)} {qs : List (Does F Value)} → Each Bodies ps qs → Each (R Value) ps qs
  values_of none = none
  values_of (more e es) = more e.1 (values_of es)

  -- two accumulators of one name with first values that are alike
  pub data Firsts : (List ℕ × Does E Value) → (List ℕ × Does F Value) → Type 0 where
    firsts : (name : List ℕ) {p : Does E Value} {q : Does F Value} → R Value p q → Firsts (name, p) (name, q)

  pub data Heads : HeadDoes E → HeadDoes F → Type 0 where
    heads : (name : Option (List ℕ)) {a : Option (List ℕ × Does E Value)} {b : Option (List ℕ × Does F Value)} → Held Firsts a b → Heads (record { name = name; accumulator = a }) (record { name = name; accumulator = b })

  iterate_by : (name : Option (List ℕ)) {a : Option (List ℕ × Does E Value)} {b : Option (List ℕ × Does F Value)} {p : Does E Value} {q : Does F Value} (at : Place) (v : Value) → Held Firsts a b → R Value p q →
      R Value (by.iterate_by Left (record { name = name; accumulator = a }) p at a v) (by.iterate_by Right (record { name = name; accumulator = b }) q at b v)
  iterate_by name at v held_none e = misfits c Value at
  iterate_by name at v (held_some (firsts acc k)) e = loop.iterate c at name e acc v k

  iterator_by : (i : IteratorKind) {h : HeadDoes E} {j : HeadDoes F} {p : Does E Value} {q : Does F Value} (at : Place) (v : Value) → Heads h j → T p q → R Value p q → R Value (by.iterator_by Left i h p at v) (by.iterator_by Right i j q at v)
  iterator_by iterator.Select at v (heads name k) d e = loop.select c at name e v
  iterator_by iterator.Reject at v (heads name k) d e = loop.reject c at name e v
  iterator_by iterator.Collect at v (heads name k) d e = loop.collect c at name e v
  iterator_by iterator.CollectNested at v (heads name k) d e = loop.collect_nested c at name e v
  iterator_by iterator.Exists at v (heads name k) d e = loop.exists_ c at name e v
  iterator_by iterator.ForAll at v (heads name k) d e = loop.for_all c at name e v
  iterator_by iterator.Any at v (heads name k) d e = loop.any c at name e v
  iterator_by iterator.One at v (heads name k) d e = loop.one c at name e v
  iterator_by iterator.IsUnique at v (heads name k) d e = loop.is_unique c at name e v
  iterator_by iterator.SortedBy at v (heads name k) d e = loop.sorted_by c at name e v
  iterator_by iterator.Closure at v (heads name k) d e = c.beyonds at _ _ (loop.closure c at name e v d)
  iterator_by iterator.Iterate at v (heads name k) d e = iterate_by name at v k e

  iterator_step : (i : IteratorKind) {h : HeadDoes E} {j : HeadDoes F} {ps : List (Does E Value)} {qs : List (Does F Value)} (at : Place) (v : Value) → Heads h j → Each Bodies ps qs →
      R Value (by.iterator_step Left i h ps at v) (by.iterator_step Right i j qs at v)
  iterator_step i at v k none = misfits c Value at
  iterator_step i at v k (more e none) = iterator_by i at v k e.0 e.1
  iterator_step i at v k (more e (more e' es)) = misfits c Value at

  named_step : (i : Option IteratorKind) (name : List ℕ) {h : HeadDoes E} {j : HeadDoes F} {ps : List (Does E Value)} {qs : List (Does F Value)} (at : Place) (v : Value) → Heads h j → Each Bodies ps qs →
      R Value (by.named_step Left i name h ps at v) (by.named_step Right i name j qs at v)
  named_step (Some i) name at v k e = iterator_step i at v k e
  named_step None name at v k e = operation_by (operation_named name) false at v (values_of e)

  selection_by : (name : List ℕ) (n : Option ℕ) (at : Place) (v : Value) → R Value (by.selection_by x.spend name n at v) (by.selection_by y.spend name n at v)
  selection_by name (Some n) at v = value.select_class c (bytes_eq name (codes "selectByType")) n at v
  selection_by name None at v = misfits c Value at

  arrow_on : (name : List ℕ) {h : HeadDoes E} {j : HeadDoes F} {ps : List (Does E Value)} {qs : List (Does F Value)} (n : Option ℕ) (at : Place) (v : Value) → Heads h j → Each Bodies ps qs →
      R Value (by.arrow_on Left name h ps n at v) (by.arrow_on Right name j qs n at v)
  arrow_on name n at v k e = either (is_selection name) (selection_by name n at v) (named_step (iterator_named name) name at v k e)

  pub arrow_by : (kind : Kind) (wrap : Bool) (name : List ℕ) {h : HeadDoes E} {j : HeadDoes F} {ps : List (Does E Value)} {qs : List (Does F Value)} (n : Option ℕ) (at : Place) (v : Value) → Heads h j → Each Bodies ps qs →
      R Value (by.arrow_by Left kind wrap name h ps n at v) (by.arrow_by Right kind wrap name j qs n at v)
  arrow_by kind wrap name n at v k e = arrow_on name n at (before_arrow wrap kind v) k e

  -- Models.

  query_step : (q : Option ModelQuery) (i : ℕ) (at : Place) → R Value (by.query_step x.spend q i at) (by.query_step y.spend q i at)
  query_step (Some q) i at = value.model_step c q i at
  query_step None i at = misfits c Value at

  model_first : (i : ℕ) (at : Place) (ss : TypedStepTerms) → R Value (by.model_first x.spend i at ss) (by.model_first y.spend i at ss)
  model_first i at (TypedMoreSteps (TypedDotStep name (TypedSomeArgs es) step_at n) ss) = query_step (named_query (model_call_named name) (class_argument es)) i step_at
  model_first i at ss = misfits c Value at

  pub post_of : (i : Option ℕ) (at : Place) {p : Does E Value} {q : Does F Value} (ss : TypedStepTerms) {fs : List (Value → Does E Value)} {gs : List (Value → Does F Value)} → R Value p q → Each (value.Steps c) fs gs →
      R Value (by.post_of Left i at p ss fs) (by.post_of Right i at q ss gs)
  post_of None at ss e k = value.on_first c e k
  post_of (Some i) at ss e k = value.on_first c (model_first i at ss) (drops 1 k)

  -- Objects.

  object_with : (name : Option (List ℕ)) (n m : ℕ) {p : Does E (Unit {0})} {q : Does F (Unit {0})} (at : Place) → R (Unit {0}) p q → R Value (by.object_with Left name n m p at) (by.object_with Right name n m q at)
  object_with None n m at e = action.object c n m at e
  object_with (Some name) n m at e = action.object_in c name (ty.Class (record { 0 = n })) n m at e

  pub object_by : (name : Option (List ℕ)) (r : Reading) {p : Does E (Unit {0})} {q : Does F (Unit {0})} (at : Place) → R (Unit {0}) p q → R Value (by.object_by Left name r p at) (by.object_by Right name r q at)
  object_by name (reading.Make n m) at e = object_with name n.0 m at e
  object_by name r at e = misfits c Value at

  -- Resolves that are not late.

  pub resolve_alone : (f : Option RequestForm) (at : Place) → R Value (by.resolve_alone Left f at) (by.resolve_alone Right f at)
  resolve_alone (Some f) at = resolving.resolve_alone c f at
  resolve_alone None at = misfits c Value at

  pub resolve_step : (f : Option RequestForm) (at : Place) (v : Value) → R Value (by.resolve_step Left f at v) (by.resolve_step Right f at v)
  resolve_step (Some f) at v = resolving.resolve_step c f at v
  resolve_step None at v = misfits c Value at

  -- Assignments.

  assign_variable : (name : List ℕ) (adds : Bool) (t : Option Ty) {p : Does E Value} {q : Does F Value} (at : Place) → R Value p q → R (Unit {0}) (by.assign_variable Left name adds t p at) (by.assign_variable Right name adds t q at)
  assign_variable name false t at e = action.assign_variable c name at e
  assign_variable name true t at e = action.add_variable c name t at e

  bare_target : (source : Option (List ℕ)) (f : ℕ) (at : Place) → R Oid (by.bare_target source f at) (by.bare_target source f at)
  bare_target None f at = action.inner_target c f at
  bare_target (Some source) f at = action.source_target c source f at

  bare_assign : (r : Reading) (source : Option (List ℕ)) (adds : Bool) (t : Option Ty) {p : Does E Value} {q : Does F Value} (at : Place) → R Value p q → R (Unit {0}) (by.bare_assign Left r source adds t p at) (by.bare_assign Right r source adds t q at)
  bare_assign (reading.Variable name) source adds t at e = assign_variable name adds t at e
  bare_assign (reading.Feature f) source adds t at e = action.assign_property c f.0 adds at (bare_target source f.0 at) e
  bare_assign r source adds t at e = misfits c (Unit {0}) at

  member_assign : (r : Reading) {h : Does E Value} {j : Does F Value} (adds : Bool) {p : Does E Value} {q : Does F Value} (at : Place) → R Value h j → R Value p q → R (Unit {0}) (by.member_assign Left r h adds p at) (by.member_assign Right r j adds q at)
  member_assign (reading.Feature f) adds at e k = action.assign_property c f.0 adds at (action.member_target c f.0 at e) k
  member_assign r adds at e k = misfits c (Unit {0}) at

  late_with : (form : Option RequestForm) (f : ℕ) (sign : Place) {h : Does E Oid} {j : Does F Oid} (adds : Bool) {p : Does E (Option Value)} {q : Does F (Option Value)} (at : Place) → action.Aims c f sign h j → R (Option Value) p q →
      R (Unit {0}) (by.late_with Left form h f adds p sign at) (by.late_with Right form j f adds q sign at)
  late_with (Some form) f sign adds {p} {q} at (action.aims {t} {u} e) k = c.lates f adds form sign at t u p q e k
  late_with None f sign adds at e k = misfits c (Unit {0}) at

  bare_aims : (source : Option (List ℕ)) (f : ℕ) (at : Place) → action.Aims c f at (by.bare_target source f at) (by.bare_target source f at)
  bare_aims None f at = action.inner_aims c f at
  bare_aims (Some source) f at = action.source_aims c source f at

  bare_late : (r : Reading) (implicit : Option (List ℕ)) (adds : Bool) {p : Does E (Option Value)} {q : Does F (Option Value)} (form : Option RequestForm) (sign at : Place) → R (Option Value) p q →
      R (Unit {0}) (by.bare_late Left r implicit adds p form sign at) (by.bare_late Right r implicit adds q form sign at)
  bare_late (reading.Feature f) implicit adds form sign at e = late_with form f.0 sign adds at (bare_aims implicit f.0 sign) e
  bare_late r implicit adds form sign at e = misfits c (Unit {0}) sign

  member_late : (r : Reading) {h : Does E Value} {j : Does F Value} (adds : Bool) {p : Does E (Option Value)} {q : Does F (Option Value)} (form : Option RequestForm) (sign at : Place) → R Value h j → R (Option Value) p q →
      R (Unit {0}) (by.member_late Left r h adds p form sign at) (by.member_late Right r j adds q form sign at)
  member_late (reading.Feature f) adds form sign at e k = late_with form f.0 sign adds at (action.member_aims c f.0 sign e) k
  member_late r adds form sign at e k = misfits c (Unit {0}) sign

  -- two targets that are alike
  pub data Targets : TargetDoes E → TargetDoes F → Type 0 where
    bare_targets : (r : Reading) (source : Option (List ℕ)) → Targets (BareTarget r source) (BareTarget r source)
    result_targets : Targets ResultTarget ResultTarget
    member_targets : (r : Reading) {p : Does E Value} {q : Does F Value} → R Value p q → Targets (MemberTarget r p) (MemberTarget r q)

  assign_value : {a : TargetDoes E} {b : TargetDoes F} (adds : Bool) (t : Option Ty) {p : Does E Value} {q : Does F Value} (at : Place) → Targets a b → R Value p q → R (Unit {0}) (by.assign_value Left a adds t p at) (by.assign_value Right b adds t q at)
  assign_value adds t at (bare_targets r source) e = bare_assign r source adds t at e
  assign_value adds t at result_targets e = assign_variable result_name adds t at e
  assign_value adds t at (member_targets r k) e = member_assign r adds at k e

  assign_late : {a : TargetDoes E} {b : TargetDoes F} (adds : Bool) {p : Does E (Option Value)} {q : Does F (Option Value)} (form : Option RequestForm) (sign at : Place) → Targets a b → R (Option Value) p q →
      R (Unit {0}) (by.assign_late Left a adds p form sign at) (by.assign_late Right b adds q form sign at)
  assign_late adds form sign at (bare_targets r source) e = bare_late r source adds form sign at e
  assign_late adds form sign at result_targets e = misfits c (Unit {0}) sign
  assign_late adds form sign at (member_targets r k) e = member_late r adds form sign at k e

  pub assigned : (late : Option TypedResolveTerm) {a : TargetDoes E} {b : TargetDoes F} (adds : Bool) (t : Option Ty) {p : Does E Value} {q : Does F Value} {h : Does E (Option Value)} {j : Does F (Option Value)} (at : Place) →
      Targets a b → R Value p q → R (Option Value) h j → R (Unit {0}) (by.assigned Left late a adds t p h at) (by.assigned Right late b adds t q j at)
  assigned None adds t at k e l = assign_value adds t at k e
  assigned (Some r) adds t at k e l = assign_late adds (form_of program r) at (resolve_mark r).place k l
