-- The rule that a node has by its reading, over what its parts do. Where a reading does not belong to its node the run ends as with any
-- value that fits nothing: no accepted transformation has one.
use Rattle.std.specs.Option.{is_some}
use Rattle.std.specs.Prelude.{ℕ, Bool, true, false, if◌then◌else◌, List, [], ◌∷◌, drop, length, Option, Some, None, codes}
use Rattle.std.specs.Str.{bytes_eq}
use Rattle.qvt_base.specs.declared.numbers.Oid.{Oid}
use Rattle.qvt_base.specs.declared.numbers.Place.{Place}
use Rattle.qvt_ocl_words.specs.declared.op.Op.{Op}
use Rattle.qvt_tree_types.specs.declared.words.BinaryOp.{BinaryOp}
use Rattle.qvt_types_data.specs.declared.note.Reading.{Reading}
use Rattle.qvt_types_data.specs.declared.note.Reading.TheVariants as reading
use Rattle.qvt_types_data.specs.declared.ty.Ty.{Ty}
use Rattle.qvt_types_data.specs.declared.ty.Ty.TheVariants as ty
use Rattle.qvt_types_nodes.specs.declared.types.TypedObjectVar.{TypedObjectVar}
use Rattle.qvt_types_nodes.specs.declared.types.TypedObjectVar.TheVariants as variable
use Rattle.qvt_types_nodes.specs.declared.types.TypedSign.{TypedSign}
use Rattle.qvt_types_nodes.specs.Tree.{TypedResolveTerm, TypedStepTerms, TypedMoreSteps, TypedDotStep, TypedSomeArgs}
use Rattle.qvt_types_steps.specs.Classes.{class_test_named, is_selection, model_call_named}
use Rattle.qvt_types_steps.specs.declared.classes.ClassTest.{ClassTest}
use Rattle.qvt_types_steps.specs.IteratorTable.{iterator_named}
use Rattle.qvt_types_steps.specs.declared.iterators.IteratorKind.{IteratorKind}
use Rattle.qvt_types_steps.specs.declared.iterators.IteratorKind.TheVariants as iterator
use Rattle.qvt_typing.specs.Numbers.{constructor_of}
use Rattle.qvt_types_steps.specs.OperationNames.{operation_named}
use Rattle.qvt_types_steps.specs.Rulings.{operation_of}
use Rattle.qvt_typing.specs.Accepts.{ProgramTerm}
use Rattle.qvt_value.specs.declared.value.Value.{Value, Enum}
use Rattle.qvt_value.specs.declared.value.Kind.{Kind}
use Rattle.qvt_run_data.specs.declared.late.LateWrite.{LateWrite}
use Rattle.qvt_run_rules.specs.State.{Does, misfit, look}
use Rattle.qvt_run_rules.specs.Locals.{result_name}
use Rattle.qvt_run_rules.specs.Sources.{before_arrow}
use Rattle.qvt_run_rules.specs.Expressions as rule
use Rattle.qvt_run_data.specs.declared.questions.ModelQuery.{ModelQuery}
use Rattle.qvt_run_rules.specs.Iterators as each
use Rattle.qvt_run_rules.specs.Questions.{object_test, named_query}
use Rattle.qvt_run_rules.specs.Statements as statement
use Rattle.qvt_run_rules.specs.Calls as call
use Rattle.qvt_run_data.specs.declared.callee.Callee.{Callee}
use Rattle.qvt_run_rules.specs.Calls.{CallRule}
use Rattle.qvt_run_rules.specs.Resolve as resolving
use Rattle.qvt_run_data.specs.declared.request.Query.{Query}
use Rattle.qvt_run_data.specs.declared.request.RequestForm.{RequestForm}
use Rattle.qvt_meaning.specs.Nodes.{resolve_mark, class_argument}
use Rattle.qvt_meaning.specs.Program.{chosen_for, free_callee, form_of}

-- What the rules of a run stand on: the program; what a charge of so many units does; how many turns a loop may have at most; what a
-- resolve answers that is not late, at its place; what a late assignment does with what it keeps; and what becomes of a phrase, at its
-- place, that no plain expression has: one that calls a unit, makes or changes something, resolves, or need not end.
pub record Setting (E : Type 0) : Type 0 where
  pub program : ProgramTerm
  pub spend : ℕ → Does E (Unit {0})
  pub turns : ℕ
  pub resolve : Place → Query → Does E Value
  pub enter : LateWrite → Does E (Unit {0})
  pub beyond : Place → Does E Value → Does E Value

-- a target: a bare name by its reading and its implicit source, `result`, or a property of an object that an expression gives
pub data TargetDoes (E : Type 0) : Type 0 where
  BareTarget : Reading → Option (List ℕ) → TargetDoes E
  ResultTarget : TargetDoes E
  MemberTarget : Reading → Does E Value → TargetDoes E

-- the name of an iterator, and the accumulator with what its first value does
pub record HeadDoes (E : Type 0) : Type 0 where
  pub name : Option (List ℕ)
  pub accumulator : Option (List ℕ × Does E Value)

module _ {E : Type 0} where
  -- the unit that is called on an object, by its class
  abbrev pub choose : ProgramTerm → Reading → Bool → Place → Oid → Does E Callee
  choose p r strict at o = look (λ s. chosen_for p r strict o s.store) at

  -- the object whose property a bare name means: that of the innermost object expression, or that of its implicit source
  abbrev pub bare_target : Option (List ℕ) → ℕ → Place → Does E Oid
  bare_target None f at = statement.inner_target f at
  bare_target (Some source) f at = statement.source_target source f at

-- Readings of phrases that do nothing but charge and read.
module _ {E : Type 0} (spend : ℕ → Does E (Unit {0})) where
  -- Names.

  abbrev pub name_of : Reading → Option (List ℕ) → Place → Does E Value
  name_of (reading.Variable name) source at = rule.variable spend name at
  name_of (reading.Feature f) (Some source) at = rule.implicit spend source f.0 at
  name_of (reading.Literal m e l) source at = rule.literal spend (Enum (record { metamodel = m; enumeration = e; literal = l }))
  name_of r source at = misfit at

  -- Steps behind a dot.

  abbrev pub property_by : Reading → Bool → Place → Value → Does E Value
  property_by (reading.Feature f) collect at v = rule.dot spend collect f.0 at v
  property_by r collect at v = misfit at

  abbrev pub tested_by : Option ClassTest → Option ℕ → Bool → Place → Value → Does E Value
  tested_by (Some t) (Some c) collect at v = rule.object_tested spend collect (object_test t) c at v
  tested_by t c collect at v = misfit at

  abbrev pub selection_by : List ℕ → Option ℕ → Place → Value → Does E Value
  selection_by name (Some c) at v = rule.select_class spend (bytes_eq name (codes "selectByType")) c at v
  selection_by name None at v = misfit at

  -- Models.

  abbrev pub query_step : Option ModelQuery → ℕ → Place → Does E Value
  query_step (Some q) i at = rule.model_step spend q i at
  query_step None i at = misfit at

  -- the name of a model with its first step
  abbrev pub model_first : ℕ → Place → TypedStepTerms → Does E Value
  model_first i at (TypedMoreSteps (TypedDotStep name (TypedSomeArgs es) step_at n) ss) = query_step (named_query (model_call_named name) (class_argument es)) i step_at
  model_first i at ss = misfit at

module _ {E : Type 0} (x : Setting E) where
  -- Operators.

  abbrev pub operated_by : Option Op → BinaryOp → Does E Value → Place → Value → Does E Value
  operated_by (Some o) sign p at = rule.operated x.spend o p at
  operated_by None sign p at = rule.logical x.spend sign p at

  abbrev pub link_of : BinaryOp → Does E Value → Place → Value → Does E Value
  link_of sign p at = operated_by (operation_of sign) sign p at

  -- the outer sign is met first
  abbrev pub signs_of : List TypedSign → Does E Value → Does E Value
  signs_of [] p = p
  signs_of (s ∷ ss) p = rule.prefixed x.spend s.op s.place (signs_of ss p)

  abbrev pub operation_by : Option Op → List (Does E Value) → Bool → Place → Value → Does E Value
  operation_by (Some o) ps collect at v = rule.called x.spend collect o ps at v
  operation_by None ps collect at v = misfit at

  -- a test or cast takes a class, and any other operation values
  abbrev pub operation_step : List ℕ → List (Does E Value) → Option ℕ → Bool → Place → Value → Does E Value
  operation_step name ps c collect at v =
      if is_some (class_test_named name) then tested_by x.spend (class_test_named name) c collect at v
      else operation_by (operation_named name) ps collect at v

  -- Calls of units.

  abbrev pub call_free : CallRule E → Option Callee → List (Does E Value) → Place → Does E Value
  call_free calls (Some c) ps at = call.call_free x.spend calls c ps at
  call_free calls None ps at = misfit at

  -- without a step: on the implicit source, or without a context
  abbrev pub call_alone : CallRule E → Reading → Option (List ℕ) → Bool → List (Does E Value) → Place → Does E Value
  call_alone calls r (Some source) strict ps at = call.call_implicit x.spend calls (choose x.program r strict at) source ps at
  call_alone calls r None strict ps at = call_free calls (free_callee x.program r strict) ps at

  abbrev pub unit_step : CallRule E → Reading → Bool → List (Does E Value) → Place → Value → Does E Value
  unit_step calls r true ps at v = call.call_each x.spend calls (choose x.program r false at) ps at v
  unit_step calls r false ps at v = call.call_step x.spend calls (choose x.program r false at) ps at v

  abbrev pub map_step : CallRule E → Reading → Bool → Bool → List (Does E Value) → Place → Value → Does E Value
  map_step calls r true strict ps at v = call.map_all x.spend calls (choose x.program r strict at) ps at v
  map_step calls r false strict ps at v = call.call_step x.spend calls (choose x.program r strict at) ps at v

  -- a step with arguments behind a dot
  abbrev pub dot_by : CallRule E → List ℕ → Reading → Bool → List (Does E Value) → Option ℕ → Place → Value → Does E Value
  dot_by calls name (reading.Operation o) collect ps c at v = operation_step name ps c collect at v
  dot_by calls name (reading.Units ns) collect ps c at v = x.beyond at (unit_step calls (reading.Units ns) collect ps at v)
  dot_by calls name r collect ps c at v = misfit at

  -- Behind an arrow.

  abbrev pub iterate_by : HeadDoes E → Does E Value → Place → Option (List ℕ × Does E Value) → Value → Does E Value
  iterate_by h p at (Some a) v = each.iterate x.spend at h.name p a.0 a.1 v
  iterate_by h p at None v = misfit at

  abbrev pub iterator_by : IteratorKind → HeadDoes E → Does E Value → Place → Value → Does E Value
  iterator_by iterator.Select h p at v = each.select x.spend at h.name p v
  iterator_by iterator.Reject h p at v = each.reject x.spend at h.name p v
  iterator_by iterator.Collect h p at v = each.collect x.spend at h.name p v
  iterator_by iterator.CollectNested h p at v = each.collect_nested x.spend at h.name p v
  iterator_by iterator.Exists h p at v = each.exists_ x.spend at h.name p v
  iterator_by iterator.ForAll h p at v = each.for_all x.spend at h.name p v
  iterator_by iterator.Any h p at v = each.any x.spend at h.name p v
  iterator_by iterator.One h p at v = each.one x.spend at h.name p v
  iterator_by iterator.IsUnique h p at v = each.is_unique x.spend at h.name p v
  iterator_by iterator.SortedBy h p at v = each.sorted_by x.spend at h.name p v
  iterator_by iterator.Closure h p at v = x.beyond at (each.closure x.spend at h.name p x.turns v)
  iterator_by iterator.Iterate h p at v = iterate_by h p at h.accumulator v

  -- an iterator has one body
  abbrev pub iterator_step : IteratorKind → HeadDoes E → List (Does E Value) → Place → Value → Does E Value
  iterator_step i h (p ∷ []) at v = iterator_by i h p at v
  iterator_step i h ps at v = misfit at

  abbrev pub named_step : Option IteratorKind → List ℕ → HeadDoes E → List (Does E Value) → Place → Value → Does E Value
  named_step (Some i) name h ps at v = iterator_step i h ps at v
  named_step None name h ps at v = operation_by (operation_named name) ps false at v

  abbrev pub arrow_on : List ℕ → HeadDoes E → List (Does E Value) → Option ℕ → Place → Value → Does E Value
  arrow_on name h ps c at v = if is_selection name then selection_by x.spend name c at v else named_step (iterator_named name) name h ps at v

  -- on the collection that the source is, or is wrapped in
  abbrev pub arrow_by : Kind → Bool → List ℕ → HeadDoes E → List (Does E Value) → Option ℕ → Place → Value → Does E Value
  arrow_by kind wrap name h ps c at v = arrow_on name h ps c at (before_arrow wrap kind v)

  -- Models.

  -- a first part with its steps; where it is the name of a model, the first step goes with it
  abbrev pub post_of : Option ℕ → Place → Does E Value → TypedStepTerms → List (Value → Does E Value) → Does E Value
  post_of None at p ss fs = rule.on_first p fs
  post_of (Some i) at p ss fs = rule.on_first (model_first x.spend i at ss) (drop 1 fs)

  -- Objects.

  abbrev pub object_with : Option (List ℕ) → ℕ → ℕ → Does E (Unit {0}) → Place → Does E Value
  object_with None c e body at = statement.object x.spend c e body at
  object_with (Some name) c e body at = statement.object_in x.spend name (ty.Class (record { 0 = c })) c e body at

  abbrev pub object_by : Option (List ℕ) → Reading → Does E (Unit {0}) → Place → Does E Value
  object_by v (reading.Make c e) body at = object_with v c.0 e body at
  object_by v r body at = misfit at

  -- the variable of an object expression
  abbrev pub variable_of : Option TypedObjectVar → Option (List ℕ)
  variable_of None = None
  variable_of (Some (variable.Named name at n)) = Some name
  variable_of (Some (variable.ResultVar at n)) = Some result_name

  -- the constructor of the class with so many parameters; without arguments there may be none
  abbrev pub new_with : CallRule E → ℕ → ℕ → Option ℕ → List (Does E Value) → Place → Does E Value
  new_with calls c e (Some n) ps at = call.new_by x.spend calls n c e ps at
  new_with calls c e None [] at = call.new_alone x.spend calls c e at
  new_with calls c e None (p ∷ ps) at = misfit at

  abbrev pub new_by : CallRule E → Reading → List (Does E Value) → Place → Does E Value
  new_by calls (reading.Make c e) ps at = new_with calls c.0 e (constructor_of c.0 (length ps) x.program.heads.units) ps at
  new_by calls r ps at = misfit at

  -- Resolves that are not late.

  abbrev pub resolve_alone : Option RequestForm → Place → Does E Value
  resolve_alone (Some f) at = resolving.resolve_alone x.spend (x.resolve at) f
  resolve_alone None at = misfit at

  abbrev pub resolve_step : Option RequestForm → Place → Value → Does E Value
  resolve_step (Some f) at v = resolving.resolve_step x.spend (x.resolve at) f at v
  resolve_step None at v = misfit at

  -- Assignments.

  abbrev pub assign_variable : List ℕ → Bool → Option Ty → Does E Value → Place → Does E (Unit {0})
  assign_variable name false t p at = statement.assign_variable name p at
  assign_variable name true t p at = statement.add_variable name t p at

  abbrev pub bare_assign : Reading → Option (List ℕ) → Bool → Option Ty → Does E Value → Place → Does E (Unit {0})
  bare_assign (reading.Variable name) source adds t p at = assign_variable name adds t p at
  bare_assign (reading.Feature f) source adds t p at = statement.assign_property (bare_target source f.0 at) f.0 adds p at
  bare_assign r source adds t p at = misfit at

  abbrev pub member_assign : Reading → Does E Value → Bool → Does E Value → Place → Does E (Unit {0})
  member_assign (reading.Feature f) object adds p at = statement.assign_property (statement.member_target object f.0 at) f.0 adds p at
  member_assign r object adds p at = misfit at

  abbrev pub assign_value : TargetDoes E → Bool → Option Ty → Does E Value → Place → Does E (Unit {0})
  assign_value (BareTarget r source) adds t p at = bare_assign r source adds t p at
  assign_value ResultTarget adds t p at = assign_variable result_name adds t p at
  assign_value (MemberTarget r object) adds t p at = member_assign r object adds p at

  abbrev pub late_with : Option RequestForm → Does E Oid → ℕ → Bool → Does E (Option Value) → Place → Place → Does E (Unit {0})
  late_with (Some form) object f adds source sign at = resolving.late x.spend x.enter object f adds source form sign at
  late_with None object f adds source sign at = misfit at

  abbrev pub bare_late : Reading → Option (List ℕ) → Bool → Does E (Option Value) → Option RequestForm → Place → Place → Does E (Unit {0})
  bare_late (reading.Feature f) implicit adds source form sign at = late_with form (bare_target implicit f.0 sign) f.0 adds source sign at
  bare_late r implicit adds source form sign at = misfit sign

  abbrev pub member_late : Reading → Does E Value → Bool → Does E (Option Value) → Option RequestForm → Place → Place → Does E (Unit {0})
  member_late (reading.Feature f) object adds source form sign at = late_with form (statement.member_target object f.0 sign) f.0 adds source sign at
  member_late r object adds source form sign at = misfit sign

  abbrev pub assign_late : TargetDoes E → Bool → Does E (Option Value) → Option RequestForm → Place → Place → Does E (Unit {0})
  assign_late (BareTarget r implicit) adds source form sign at = bare_late r implicit adds source form sign at
  assign_late ResultTarget adds source form sign at = misfit sign
  assign_late (MemberTarget r object) adds source form sign at = member_late r object adds source form sign at

  -- a late resolve makes an entry, any other value is assigned
  abbrev pub assigned : Option TypedResolveTerm → TargetDoes E → Bool → Option Ty → Does E Value → Does E (Option Value) → Place → Does E (Unit {0})
  assigned None target adds t p source at = assign_value target adds t p at
  assigned (Some r) target adds t p source at = assign_late target adds source (form_of x.program r) at (resolve_mark r).place
