-- One rule for each kind of expression, over what its parts do: an expression takes its number, its parts are judged in text order,
-- it is ruled by their types, and its note is written (OCL 2.4, 7; QVT 1.3, 8.2.2).
use Rattle.std.specs.Prelude.{ℕ, Bool, true, false, ◌&&◌, not, if◌then◌else◌, List, [], ◌∷◌, ◌++◌, length, Option, Some, None, Result, Ok, Err}
use Rattle.std.specs.Option.{is_some}
use Rattle.qvt_base.specs.declared.numbers.ClassNo.{ClassNo}
use Rattle.qvt_base.specs.declared.numbers.ExprNo.{ExprNo}
use Rattle.qvt_base.specs.declared.numbers.Place.{Place}
use Rattle.qvt_metamodel.specs.Metamodels.{class_at}
use Rattle.qvt_tree_types.specs.declared.types.PathTree.{PathTree}
use Rattle.qvt_tree_types.specs.declared.words.BinaryOp.{BinaryOp}
use Rattle.qvt_tree_types.specs.declared.words.CollKind.{CollKind}
use Rattle.qvt_tree_types.specs.declared.words.ResolveWord.{ResolveWord}
use Rattle.qvt_tree_types.specs.declared.words.Sign.{Sign}
use Rattle.qvt_types_data.specs.Notes.{plain, unread}
use Rattle.qvt_types_data.specs.Term.{same_type, ty_view}
use Rattle.qvt_types_data.specs.declared.note.Reading.TheVariants as reading
use Rattle.qvt_types_data.specs.declared.refusal.RefusalKind.{RefusalKind}
use Rattle.qvt_types_data.specs.declared.refusal.RefusalKind.TheVariants as refusal
use Rattle.qvt_types_data.specs.declared.ruling.Read.{Read}
use Rattle.qvt_types_data.specs.declared.ruling.Ruling.{Ruling}
use Rattle.qvt_types_data.specs.declared.ruling.Ruling.TheVariants.{Holds, Fails, Silent}
use Rattle.qvt_types_data.specs.declared.ty.Ty.{Ty}
use Rattle.qvt_types_data.specs.declared.ty.Ty.TheVariants as ty
use Rattle.qvt_types_data.specs.declared.variable.VariableSort.{VariableSort}
use Rattle.qvt_types_data.specs.declared.variable.VariableSort.TheVariants as sort
use Rattle.qvt_types_units.specs.Models.{extent}
use Rattle.qvt_types_units.specs.Paths.{path_type, path_class, element_no}
use Rattle.qvt_types_states.specs.Judge.{Judges, ◌>>=◌, gives, fresh, scope, add_source, scoped, tell, checked, declare, settled, answers, marks, writes_nothing}
use Rattle.qvt_types_states.specs.Scopes.{found, is_known}
use Rattle.qvt_types_states.specs.declared.scope.Known.{Known}
use Rattle.qvt_types_steps.specs.Calls.{dot_call, has_operation}
use Rattle.qvt_types_steps.specs.Classes.{class_test, class_test_named, is_selection, selection, model_call_named, model_objects, model_objects_of}
use Rattle.qvt_types_steps.specs.Iterators.{arrow, item_type, iterator_type, iterator_wrong, accumulator_wrong, plain_head, folding_head}
use Rattle.qvt_types_steps.specs.IteratorTable.{iterator_named}
use Rattle.qvt_types_steps.specs.Properties.{property}
use Rattle.qvt_types_steps.specs.Resolving as resolving
use Rattle.qvt_types_steps.specs.declared.classes.ClassPart.{ClassPart}
use Rattle.qvt_types_steps.specs.declared.classes.ClassPart.TheVariants as part
use Rattle.qvt_types_steps.specs.declared.classes.ClassTest.{ClassTest}
use Rattle.qvt_types_steps.specs.declared.classes.ModelCall.{ModelCall}
use Rattle.qvt_types_steps.specs.declared.classes.ModelCall.TheVariants as model_call
use Rattle.qvt_types_steps.specs.declared.heads.Heading.{Heading}
use Rattle.qvt_types_steps.specs.declared.heads.Heading.TheVariants as heading
use Rattle.qvt_types_steps.specs.declared.iterators.IteratorKind.{IteratorKind}
use Rattle.qvt_types_steps.specs.declared.iterators.IteratorKind.TheVariants as iterator
use Rattle.qvt_types_steps.specs.declared.resolves.Joint.{Joint}
use Rattle.qvt_types_steps.specs.declared.resolves.Joint.TheVariants as joint
use Rattle.qvt_types_steps.specs.UnitCalls.{arguments_wrong}
use Rattle.qvt_types_units.specs.Numbers.{unit_at, constructor_of}
use Rattle.qvt_types_units.specs.Reuse.{listed}
use Rattle.qvt_types_units.specs.declared.signature.HeadClass.{HeadClass}
use Rattle.qvt_types_units.specs.declared.signature.HeadClass.TheVariants as head
use Rattle.qvt_types_steps.specs.Rulings as ruling
use Rattle.qvt_typing.specs.Context.{TypingContext, unless_untyped}
use Rattle.qvt_typing.specs.Names.{source, unnamed, class_type, made_read, variable_ruled, type_ruled, class_ruled, class_found, self_ruled, result_ruled, path_ruled}
use Rattle.qvt_typing.specs.Calls.{called_alone, called_behind, call_ruled, unit_ruled, map_ruled, numbers_of, unless_wrong, effect_of, not_pure, not_plain}
use Rattle.qvt_typing.specs.declared.parts.Given.{Given}
use Rattle.qvt_typing.specs.declared.parts.ObjectVariable.{ObjectVariable}
use Rattle.qvt_typing.specs.declared.parts.ObjectVariable.TheVariants.{NoVariable, OfType, OfNone}
use Rattle.qvt_typing.specs.declared.parts.Within.{Within}
use Rattle.qvt_typing.specs.declared.parts.Within.TheVariants.{Everywhere, Nobody, In}
use Rattle.qvt_typing.specs.declared.parts.Filtered.{Filtered}
use Rattle.qvt_typing.specs.declared.parts.Filtered.TheVariants.{NoFilter, By}
use Rattle.qvt_typing.specs.declared.parts.Effect.{Effect}
use Rattle.qvt_typing.specs.declared.parts.Effect.TheVariants.{PlainOne, PureOne, ImpureOne}

-- Lists of parts.

abbrev pub all : {A : Type 0} → List A → List (Judges A) → Judges (List A)
all done [] = gives done
all done (p ∷ ps) = p >>= (λ a. all (done ++ a ∷ []) ps)

-- in text order
abbrev pub in_order : {A : Type 0} → List (Judges A) → Judges (List A)
in_order ps = all [] ps

-- parts, each on the type of what is before it
abbrev pub beside : Option Ty → List (Option Ty → Judges (Option Ty)) → Judges (Option Ty)
beside o [] = gives o
beside o (p ∷ ps) = p o >>= (λ t. beside t ps)

-- the types of all, if each has one
abbrev pub types_from : List Ty → List (Option Ty) → Option (List Ty)
types_from done [] = Some done
types_from done (None ∷ os) = None
types_from done (Some t ∷ os) = types_from (done ++ t ∷ []) os

abbrev pub all_types : List (Option Ty) → Option (List Ty)
all_types os = types_from [] os

-- a part of which nothing but the type is kept
abbrev pub settled_bare : Ruling → Place → Judges (Option Ty)
settled_bare w at = settled w at >>= (λ r. writes_nothing >>= (λ _. gives r.answer))

-- an expression without a condition on its parts
abbrev pub stands : ExprNo → Ty → Judges (Option Ty)
stands n t = answers n (plain reading.Nothing (Some t))

-- an expression with the type of its last part, if that has one
abbrev pub stands_as : ExprNo → Option Ty → Judges (Option Ty)
stands_as n o = answers n (plain reading.Nothing o)

abbrev pub head_part : HeadClass → ClassPart
head_part (head.Known c) = part.Class c
head_part head.Unknown = part.Untyped
head_part head.Missing = part.Missing

abbrev pub coll_of : CollKind → Option Ty → Read
coll_of k None = unread
coll_of k (Some t) = plain (reading.Typed (ty.Coll k t)) (Some (ty.Coll k t))

abbrev pub collection_type : CollKind → Judges (Option Ty) → Judges (Option Ty)
collection_type k p = p >>= (λ o. marks (coll_of k o))

-- a collection type names no class: this is told where it is a type
abbrev pub no_class_told : Option Ty → Option RefusalKind
no_class_told None = None
no_class_told (Some t) = Some refusal.UnknownType

abbrev pub no_class : Judges (Option Ty) → Place → Judges ClassPart
no_class p at = p >>= (λ o. checked (no_class_told o) at >>= (λ _. gives part.Untyped))

-- an argument that should be a class, and is none
abbrev pub no_path : Option Ty → ClassPart
no_path None = part.Untyped
no_path (Some t) = part.Missing

abbrev pub class_missing : Judges (Option Ty) → Judges ClassPart
class_missing p = p >>= (λ o. gives (no_path o))

abbrev pub constant : Ty → Judges (Option Ty)
constant t = fresh >>= (λ n. stands n t)

-- signs have their notes before the operand, and are ruled from the innermost
abbrev pub sign_notes : List Sign → Judges (Unit {0})
sign_notes [] = gives tt
sign_notes (s ∷ ss) = writes_nothing >>= (λ _. sign_notes ss)

abbrev pub single : Judges (Option Ty) → Judges (Option Ty)
single p = p >>= (λ o. writes_nothing >>= (λ _. gives o))

-- the operation of the name that the source has, else a helper or a query
abbrev pub reads_operation : List ℕ → Option Ty → Bool
reads_operation name None = true
reads_operation name (Some t) = has_operation name t

abbrev pub add_unnamed : Option IteratorKind → Option Ty → Judges (Unit {0})
add_unnamed None o = gives tt
add_unnamed (Some i) o = scope >>= (λ s. add_source (source (unnamed s) o))

-- an iterator without a name is an implicit source
unfoldable pub no_head : List ℕ → Option Ty → Judges Heading
no_head name items = add_unnamed (iterator_named name) items >>= (λ _. gives heading.Missing)

abbrev pub not_given : Judges Given
not_given = gives (record { is_given = false; ty = None })

abbrev pub is_written : Judges (Option Ty) → Judges Given
is_written p = p >>= (λ o. gives (record { is_given = true; ty = o }))

abbrev pub iterator_known : Given → Option Ty → Known
iterator_known k items = record { sort = sort.Iterator; ty = iterator_type k.is_given k.ty items }

-- a variable of a Head, and whether its name is new
abbrev pub declare_head : List ℕ → Known → Place → Judges Bool
declare_head name k at = scope >>= (λ s. declare name k at >>= (λ _. gives (not (is_known name s))))

-- where it is not, the body means another variable by it, and nothing is told of the step
abbrev pub if_new : Bool → Heading → Heading
if_new is_new h = if is_new then h else heading.Untyped

-- an accumulator without a type leaves the Head without one
abbrev pub unless_folding_fails : Heading → Option RefusalKind → Option RefusalKind
unless_folding_fails heading.Untyped told = None
unless_folding_fails h told = told

abbrev pub iterator_effect : Option IteratorKind → Effect
iterator_effect (Some iterator.Closure) = PureOne
iterator_effect _ = PlainOne

abbrev pub has_head : Heading → Bool
has_head heading.Missing = false
has_head _ = true

-- selectByKind and selectByType, which take no Head
abbrev pub selected_by : List ℕ → Heading → Option Ty → List ClassPart → Ruling
selected_by name heading.Untyped o ps = Silent
selected_by name h o ps = selection name (has_head h) o ps

-- no extent is told at the node, which keeps its type. The class is Untyped where a part of the node has no type.
abbrev pub extent_told : Option ℕ → Place → Judges (Unit {0})
extent_told None at = tell refusal.BadExtent at
extent_told (Some e) at = gives tt

abbrev pub made_in : ClassNo → Option ℕ → Ruling
made_in c e = Holds (made_read c e)

abbrev pub variable_of_type : Option Ty → ObjectVariable
variable_of_type None = OfNone
variable_of_type (Some t) = OfType t

abbrev pub if_settable : VariableSort → Ruling → Ruling
if_settable sort.Settable r = r
if_settable _ r = Fails refusal.UnknownName

abbrev pub settable_ruled : List ℕ → Option Known → Ruling
settable_ruled name None = Fails refusal.UnknownName
settable_ruled name (Some k) = if_settable k.sort (variable_ruled name k.ty)

abbrev pub no_variable : Judges ObjectVariable
no_variable = gives NoVariable

-- the class of an object whose parts have types
abbrev pub class_beside : ObjectVariable → ClassPart → ClassPart
class_beside OfNone c = part.Untyped
class_beside NoVariable c = c
class_beside (OfType t) c = c

abbrev pub class_with : Option (List Ty) → ClassPart → ClassPart
class_with None c = part.Untyped
class_with (Some us) c = c

-- a number of arguments that no constructor has is told at the path
abbrev pub new_place : Ruling → Place → Place → Place
new_place (Fails refusal.WrongCount) path_at at = path_at
new_place _ path_at at = at

abbrev pub within_of : Result ℕ RefusalKind → Within
within_of (Ok n) = In n
within_of (Err kind) = Nobody

abbrev pub everywhere : Judges Within
everywhere = gives Everywhere

abbrev pub no_filter : Judges Filtered
no_filter = gives NoFilter

abbrev pub filter_part : Ruling → ClassPart → ClassPart
filter_part (Holds r) c = c
filter_part (Fails kind) c = part.Untyped
filter_part Silent c = part.Untyped

abbrev pub declare_filter : Option (List ℕ) → ClassPart → Place → Judges (Unit {0})
declare_filter None c at = scope >>= (λ s. add_source (source (unnamed s) (class_type c)))
declare_filter (Some name) c at = declare name (record { sort = sort.Iterator; ty = class_type c }) at

-- `late` stands where it may not
abbrev pub late_told : Bool → Bool → Read → Place → Judges (Unit {0})
late_told allowed late r at = if is_some r.answer && (late && not allowed) then tell refusal.LatePlace at else gives tt

module _ (x : TypingContext) where
  -- what a node does to a run is told of it where it has a type, which it keeps
  abbrev pub effect_told : Effect → Read → Place → Judges (Unit {0})
  effect_told e r at = if is_some r.answer then checked (not_pure x e) at >>= (λ _. checked (not_plain x e) at) else gives tt

  abbrev pub ruled : ExprNo → Ruling → Effect → Place → Judges (Option Ty)
  ruled n w e at = settled w at >>= (λ r. effect_told e r at >>= (λ _. answers n r))

  -- a step
  abbrev pub stepped : Ruling → Effect → Place → Judges (Option Ty)
  stepped w e at = settled w at >>= (λ r. effect_told e r at >>= (λ _. marks r))

  -- Types, and classes, as they are written.

  unfoldable pub named_type : PathTree → Judges (Option Ty)
  named_type p = settled (type_ruled (path_type x.heads.given x.heads.types p.names)) p.place >>= marks

  unfoldable pub named_class : PathTree → Judges ClassPart
  named_class p = settled (class_ruled (path_class x.heads.given x.heads.types p.names)) p.place
      >>= (λ r. marks r >>= (λ _. gives (class_found (path_class x.heads.given x.heads.types p.names))))

  -- an argument that is a class is an expression, and has a number
  unfoldable pub class_given : PathTree → Judges ClassPart
  class_given p = fresh >>= (λ n. settled (class_ruled (path_class x.heads.given x.heads.types p.names)) p.place
      >>= (λ r. answers n r >>= (λ _. gives (class_found (path_class x.heads.given x.heads.types p.names)))))

  -- an argument that should be a class: it is one if it is a path
  abbrev pub class_argument : Option PathTree → Judges (Option Ty) → Judges ClassPart
  class_argument None p = class_missing p
  class_argument (Some path) p = class_given path

  -- Literals, names, `self` and `result`.

  unfoldable pub self_ref : Place → Judges (Option Ty)
  self_ref at = fresh >>= (λ n. ruled n (self_ruled x.self) PlainOne at)

  unfoldable pub result_ref : Place → Judges (Option Ty)
  result_ref at = fresh >>= (λ n. ruled n (result_ruled x.result) PlainOne at)

  -- a name; as the source of a model's operation it may be that of a model
  unfoldable pub path : Bool → PathTree → Judges (Option Ty)
  path is_source p = fresh >>= (λ n. scope >>= (λ s. ruled n (path_ruled x.heads is_source s p.names) PlainOne p.place))

  -- Operators, conditionals, collection literals.

  unfoldable pub conditional : Judges (Option Ty) → Judges (Option Ty) → Judges (Option Ty) → Place → Judges (Option Ty)
  conditional p q r at = fresh >>= (λ n. p >>= (λ c. q >>= (λ y. r >>= (λ z. ruled n (ruling.conditional x.heads.metas c y z) PlainOne at))))

  unfoldable pub link : BinaryOp → Judges (Option Ty) → Place → Option Ty → Judges (Option Ty)
  link op p at o = p >>= (λ t. settled_bare (ruling.operator x.heads.metas op o t) at)

  unfoldable pub chain : Judges (Option Ty) → List (Option Ty → Judges (Option Ty)) → Judges (Option Ty)
  chain p links = fresh >>= (λ n. p >>= (λ o. beside o links >>= (λ t. stands_as n t)))

  abbrev pub sign : Sign → Option Ty → Judges (Option Ty)
  sign s o = settled (ruling.prefixed x.heads.metas s.op o) s.place >>= (λ r. gives r.answer)

  abbrev pub signed : List Sign → Option Ty → Judges (Option Ty)
  signed [] o = gives o
  signed (s ∷ ss) o = signed ss o >>= sign s

  unfoldable pub prefix : List Sign → Judges (Option Ty) → Judges (Option Ty)
  prefix ss p = fresh >>= (λ n. sign_notes ss >>= (λ _. p >>= (λ o. signed ss o >>= (λ t. stands_as n t))))

  -- both ends, the note of the `..`, that of the item
  unfoldable pub range : Judges (Option Ty) → Judges (Option Ty) → Place → Judges (Option Ty)
  range p q sign = p >>= (λ a. q >>= (λ b. settled_bare (ruling.range x.heads.metas a b) sign >>= (λ t. writes_nothing >>= (λ _. gives t))))

  unfoldable pub literal : CollKind → List (Judges (Option Ty)) → Place → Judges (Option Ty)
  literal k items at = fresh >>= (λ n. in_order items >>= (λ os. ruled n (ruling.literal x.heads.metas k (all_types os)) PlainOne at))

  -- Steps.

  -- the source of steps, which may be a model
  abbrev pub source_path : Option PathTree → Judges (Option Ty) → Judges (Option Ty)
  source_path (Some p) q = path true p
  source_path None q = q

  unfoldable pub post : Judges (Option Ty) → List (Option Ty → Judges (Option Ty)) → Judges (Option Ty)
  post p steps = fresh >>= (λ n. p >>= (λ o. beside o steps >>= (λ t. stands_as n t)))

  unfoldable pub property_step : List ℕ → Place → Option Ty → Judges (Option Ty)
  property_step name at o = stepped (unless_untyped x.heads (property x.heads.metas name o)) PlainOne at

  -- a test or cast
  unfoldable pub test_step : List ℕ → ClassTest → List (Judges ClassPart) → Place → Option Ty → Judges (Option Ty)
  test_step name t args at o = in_order args >>= (λ ps. stepped (class_test name t o ps) PlainOne at)

  unfoldable pub call_step : List ℕ → List (Judges (Option Ty)) → Place → Option Ty → Judges (Option Ty)
  call_step name args at o = in_order args >>= (λ os.
      if reads_operation name o then stepped (dot_call x.heads.metas name o (all_types os)) PlainOne at
      else stepped (unit_ruled x.heads o (called_behind x.heads false false name o) (all_types os)) (effect_of x.heads (called_behind x.heads false false name o)) at)

  -- a step with arguments behind a dot: these are expressions, or classes
  abbrev pub called_with : Option ClassTest → List ℕ → List (Judges (Option Ty)) → List (Judges ClassPart) → Place → Option Ty → Judges (Option Ty)
  called_with None name args classes at o = call_step name args at o
  called_with (Some t) name args classes at o = test_step name t classes at o

  -- an operation of a model, the first step behind its name
  unfoldable pub model_step : List ℕ → List (Judges (Option Ty)) → Place → Judges (Option Ty)
  model_step name args at = in_order args >>= (λ os. stepped (model_objects name (element_no x.heads.types) (all_types os)) PlainOne at)

  unfoldable pub typed_model_step : List ℕ → List (Judges ClassPart) → Place → Judges (Option Ty)
  typed_model_step name args at = in_order args >>= (λ ps. stepped (model_objects_of name ps) PlainOne at)

  abbrev pub model_called_with : Option ModelCall → List ℕ → List (Judges (Option Ty)) → List (Judges ClassPart) → Place → Judges (Option Ty)
  model_called_with (Some model_call.ObjectsOfType) name args classes at = typed_model_step name classes at
  model_called_with _ name args classes at = model_step name args at

  -- by its name, and whether the source is a model
  abbrev pub called : Bool → List ℕ → List (Judges (Option Ty)) → List (Judges ClassPart) → Place → Option Ty → Judges (Option Ty)
  called is_model name args classes at o =
      if is_model then model_called_with (model_call_named name) name args classes at
      else called_with (class_test_named name) name args classes at o

  -- Iterators: their Heads, and the arrow.

  unfoldable pub plain_heading : List ℕ → Judges Given → Place → Option Ty → Judges Heading
  plain_heading v p at items = p >>= (λ k. checked (iterator_wrong x.heads.metas k.is_given k.ty items) at
      >>= (λ _. declare_head v (iterator_known k items) at
      >>= (λ is_new. writes_nothing >>= (λ _. gives (if_new is_new (plain_head x.heads.metas k.is_given k.ty items))))))

  abbrev pub fold_wrong : Given → Option Ty → Option Ty → Option Ty → Option RefusalKind
  fold_wrong k items t first = unless_folding_fails (folding_head x.heads.metas heading.Plain t first) (iterator_wrong x.heads.metas k.is_given k.ty items)

  -- the iterator and the accumulator are declared
  unfoldable pub folded : List ℕ → Given → List ℕ → Option Ty → Option Ty → Place → Place → Option Ty → Judges Heading
  folded v k a t first accumulator_at at items = checked (fold_wrong k items t first) at
      >>= (λ _. checked (accumulator_wrong x.heads.metas t first) accumulator_at
      >>= (λ _. writes_nothing
      >>= (λ _. declare_head v (iterator_known k items) at
      >>= (λ is_new. declare_head a (record { sort = sort.Iterator; ty = t }) accumulator_at
      >>= (λ is_other_new. writes_nothing
      >>= (λ _. gives (if_new (is_new && is_other_new) (folding_head x.heads.metas (plain_head x.heads.metas k.is_given k.ty items) t first))))))))

  -- the accumulator's type and first value are judged before the iterator is declared
  unfoldable pub folding_heading : List ℕ → Judges Given → List ℕ → Judges (Option Ty) → Judges (Option Ty) → Place → Place → Option Ty → Judges Heading
  folding_heading v p a q r accumulator_at at items = p >>= (λ k. q >>= (λ t. r >>= (λ first. folded v k a t first accumulator_at at items)))

  -- a selection by class, or an iterator or an operation
  unfoldable pub arrow_parts : List ℕ → List (Judges (Option Ty)) → List (Judges ClassPart) → Option Ty → Heading → Judges Ruling
  arrow_parts name args classes o h =
      if is_selection name then in_order classes >>= (λ ps. gives (selected_by name h o ps))
      else in_order args >>= (λ os. gives (arrow x.heads.metas name h o (all_types os)))

  unfoldable pub arrowed : List ℕ → (Option Ty → Judges Heading) → List (Judges (Option Ty)) → List (Judges ClassPart) → Place → Option Ty → Judges (Option Ty)
  arrowed name head args classes at o = scoped (head (item_type o) >>= arrow_parts name args classes o)
      >>= (λ w. stepped w (iterator_effect (iterator_named name)) at)

  -- Calls of units.

  unfoldable pub call : List ℕ → List (Judges (Option Ty)) → Place → Judges (Option Ty)
  call name args at = fresh >>= (λ n. in_order args >>= (λ os. scope >>= (λ s.
      ruled n (call_ruled x.heads false (called_alone x.heads false name s.sources) (all_types os)) (effect_of x.heads (called_alone x.heads false name s.sources)) at)))

  unfoldable pub map : List ℕ → List (Judges (Option Ty)) → Place → Judges (Option Ty)
  map name args at = fresh >>= (λ n. in_order args >>= (λ os. scope >>= (λ s.
      ruled n (call_ruled x.heads true (called_alone x.heads true name s.sources) (all_types os)) ImpureOne at)))

  unfoldable pub map_step : Bool → List ℕ → List (Judges (Option Ty)) → Place → Option Ty → Judges (Option Ty)
  map_step is_arrow name args at o = in_order args >>= (λ os.
      stepped (map_ruled x.heads is_arrow o (called_behind x.heads true is_arrow name o) (all_types os)) ImpureOne at)

  -- Objects.

  -- an object of an abstract class is told at the path, and keeps its type
  abbrev pub abstract_told : ClassPart → Place → Judges (Unit {0})
  abstract_told (part.Class c) at = if (class_at x.heads.metas c.0).is_abstract then tell refusal.AbstractClass at else gives tt
  abstract_told part.Untyped at = gives tt
  abstract_told part.Missing at = gives tt

  abbrev pub extent_of : Option (List ℕ) → ClassNo → Option ℕ
  extent_of name c = extent x.heads.models (length x.heads.given.metamodels) name (class_at x.heads.metas c.0).metamodel

  abbrev pub class_extent_told : Option (List ℕ) → ClassPart → Place → Judges (Unit {0})
  class_extent_told name (part.Class c) at = extent_told (extent_of name c) at
  class_extent_told name part.Untyped at = gives tt
  class_extent_told name part.Missing at = gives tt

  -- a variable, and no parameter or iterator
  unfoldable pub named_variable : List ℕ → Place → Judges ObjectVariable
  named_variable name at = scope >>= (λ s. settled (settable_ruled name (found name s)) at >>= (λ r. marks r >>= (λ o. gives (variable_of_type o))))

  unfoldable pub result_variable : Place → Judges ObjectVariable
  result_variable at = settled (result_ruled x.result) at >>= (λ r. marks r >>= (λ o. gives (variable_of_type o)))

  -- the variable has exactly the class as its type
  abbrev pub object_ruled : ObjectVariable → Option (List ℕ) → ClassPart → Ruling
  object_ruled v name part.Untyped = Silent
  object_ruled v name part.Missing = Silent
  object_ruled OfNone name (part.Class c) = Silent
  object_ruled NoVariable name (part.Class c) = made_in c (extent_of name c)
  object_ruled (OfType t) name (part.Class c) = if same_type (ty_view t) (ty_view (ty.Class c)) then made_in c (extent_of name c) else Fails refusal.WrongType

  unfoldable pub object : Judges ObjectVariable → PathTree → Option (List ℕ) → (ClassPart → Judges (Unit {0})) → Place → Judges (Option Ty)
  object p path extent body at = fresh >>= (λ n. p >>= (λ v. named_class path >>= (λ c. abstract_told c path.place
      >>= (λ _. body c
      >>= (λ _. class_extent_told extent (class_beside v c) at
      >>= (λ _. ruled n (object_ruled v extent c) ImpureOne at))))))

  -- a `new` without arguments needs no constructor
  abbrev pub constructed_by : ClassNo → Option (List ℕ) → Option ℕ → List Ty → Ruling
  constructed_by c name (Some k) us = unless_wrong (arguments_wrong x.heads.metas (unit_at x.heads.units k).params us) (made_in c (extent_of name c))
  constructed_by c name None [] = made_in c (extent_of name c)
  constructed_by c name None (u ∷ us) = Fails refusal.WrongCount

  abbrev pub new_ruled : Option (List ℕ) → ClassPart → Option (List Ty) → Ruling
  new_ruled name (part.Class c) (Some us) = constructed_by c name (constructor_of c.0 (length us) x.heads.units) us
  new_ruled name (part.Class c) None = Silent
  new_ruled name part.Untyped us = Silent
  new_ruled name part.Missing us = Silent

  -- a `new` whose class, found at this path, and arguments are judged
  unfoldable pub constructed : ExprNo → ClassPart → Place → Option (List ℕ) → Option (List Ty) → Place → Judges (Option Ty)
  constructed n c path_at extent us at = class_extent_told extent (class_with us c) at
      >>= (λ _. settled (new_ruled extent c us) (new_place (new_ruled extent c us) path_at at)
      >>= (λ r. effect_told ImpureOne r at >>= (λ _. answers n r)))

  unfoldable pub new : PathTree → Option (List ℕ) → List (Judges (Option Ty)) → Place → Judges (Option Ty)
  new path extent args at = fresh >>= (λ n. named_class path >>= (λ c. abstract_told c path.place
      >>= (λ _. in_order args >>= (λ os. constructed n c path.place extent (all_types os) at))))

  -- Resolves.

  abbrev pub listed_ruled : Result ℕ RefusalKind → Ruling
  listed_ruled (Ok n) = Holds (plain (reading.Mappings (numbers_of x.heads (n ∷ []))) None)
  listed_ruled (Err kind) = Fails kind

  unfoldable pub listed_path : PathTree → Judges Within
  listed_path p = settled (listed_ruled (listed x.heads.given x.heads.types x.heads.units p.names)) p.place
      >>= (λ r. marks r >>= (λ _. gives (within_of (listed x.heads.given x.heads.types x.heads.units p.names))))

  unfoldable pub filter_settled : ClassPart → Given → Place → Judges Filtered
  filter_settled c k at = settled (resolving.filter x.heads.metas (class_type c) k.is_given k.ty) at
      >>= (λ r. writes_nothing
      >>= (λ _. gives (By (filter_part (resolving.filter x.heads.metas (class_type c) k.is_given k.ty) c))))

  -- the class; the filter is in scope in its condition
  unfoldable pub filter : Option (List ℕ) → Judges ClassPart → Judges Given → Place → Judges Filtered
  filter name p condition at = p >>= (λ c. scoped (declare_filter name c at >>= (λ _. condition)) >>= (λ k. filter_settled c k at))

  -- the class that is looked for: that of the filter, else that of the mapping's result or, in the inverse forms, of its context
  abbrev pub looked_for : ResolveWord → Within → Filtered → ClassPart
  looked_for w Nobody f = part.Untyped
  looked_for w Everywhere (By c) = c
  looked_for w (In n) (By c) = c
  looked_for w Everywhere NoFilter = part.Missing
  looked_for w (In n) NoFilter = resolving.class_within w (head_part (unit_at x.heads.units n).result) (head_part (unit_at x.heads.units n).context)

  abbrev pub resolve_ruled : Bool → Bool → Joint → ResolveWord → Option Ty → ClassPart → Place → Judges Read
  resolve_ruled allowed late j w o c at = settled (resolving.resolve j w o c) at
      >>= (λ r. effect_told PureOne r at >>= (λ _. late_told allowed late r at >>= (λ _. gives r)))

  unfoldable pub resolve : Bool → Bool → ResolveWord → Judges Within → Judges Filtered → Place → Judges (Option Ty)
  resolve allowed late w p q at = fresh >>= (λ n. p >>= (λ i. q >>= (λ f.
      resolve_ruled allowed late joint.Sourceless w None (looked_for w i f) at >>= (λ r. answers n r))))

  unfoldable pub resolve_step : Bool → Bool → Joint → ResolveWord → Judges Within → Judges Filtered → Place → Option Ty → Judges (Option Ty)
  resolve_step allowed late j w p q at o = p >>= (λ i. q >>= (λ f.
      resolve_ruled allowed late j w o (looked_for w i f) at >>= (λ r. marks r)))
