-- The type of what stands before a step. Typing rules on it and notes it of the first part alone; the rulings are typing's own.
use Rattle.std.specs.Prelude.{ℕ, Bool, true, false, if◌then◌else◌, List, [], ◌∷◌, Option, Some, None}
use Rattle.qvt_types_data.specs.Term.{kind_of}
use Rattle.qvt_types_data.specs.declared.note.Reading.{Reading}
use Rattle.qvt_types_data.specs.declared.note.Reading.TheVariants as reading
use Rattle.qvt_types_data.specs.declared.ruling.Ruling.{Ruling}
use Rattle.qvt_types_data.specs.declared.ruling.Ruling.TheVariants.{Holds, Fails, Silent}
use Rattle.qvt_types_data.specs.declared.ty.Ty.{Ty}
use Rattle.qvt_types_nodes.specs.Tree.{TypedExprTerms, TypedNoExprs, TypedMoreExprs, TypedNoArgs, TypedSomeArgs, TypedMapTerm, TypedMapOf, TypedResolveTerm, TypedResolveOf, TypedHeadTerm, TypedNoHead, TypedHeadOf, TypedNoAccumulator, TypedAccumulatorOf, TypedStepTerm, TypedDotStep, TypedArrowStep, TypedDotMapStep, TypedArrowMapStep, TypedDotResolveStep, TypedArrowResolveStep}
use Rattle.qvt_typing.specs.Paths.{element_no}
use Rattle.qvt_types_steps.specs.Calls.{dot_call, source_of}
use Rattle.qvt_types_steps.specs.Classes as by_class
use Rattle.qvt_types_steps.specs.Iterators.{arrow}
use Rattle.qvt_types_steps.specs.Properties.{property}
use Rattle.qvt_types_steps.specs.Resolving.{resolve_type}
use Rattle.qvt_types_steps.specs.declared.classes.ClassPart.{ClassPart}
use Rattle.qvt_types_steps.specs.declared.classes.ClassPart.TheVariants as part
use Rattle.qvt_types_steps.specs.declared.classes.ClassTest.{ClassTest}
use Rattle.qvt_types_steps.specs.declared.classes.ModelCall.{ModelCall}
use Rattle.qvt_types_steps.specs.declared.classes.ModelCall.TheVariants as model_call
use Rattle.qvt_types_steps.specs.declared.heads.Heading.{Heading}
use Rattle.qvt_types_steps.specs.declared.heads.Heading.TheVariants as heading
use Rattle.qvt_tree_types.specs.declared.words.ResolveWord.{ResolveWord}
use Rattle.qvt_typing.specs.Accepts.{ProgramTerm}
use Rattle.qvt_typing.specs.Context.{DeclaredHeads}
use Rattle.qvt_typing.specs.Calls.{called_behind, unit_ruled, map_ruled}
use Rattle.qvt_value.specs.declared.value.Kind.{Kind}
use Rattle.qvt_value.specs.declared.value.Kind.TheVariants.{Set}
use Rattle.qvt_run_data.specs.declared.request.RequestForm.{RequestForm}
use Rattle.qvt_meaning.specs.Nodes.{types_of, class_named, written_type}
use Rattle.qvt_meaning.specs.Program.{form_of}

abbrev pub answer_of : Ruling → Option Ty
answer_of (Holds r) = r.answer
answer_of (Fails kind) = None
answer_of Silent = None

abbrev pub class_part : Option ℕ → ClassPart
class_part None = part.Missing
class_part (Some c) = part.Class (record { 0 = c })

abbrev pub class_parts : TypedExprTerms → List ClassPart
class_parts TypedNoExprs = []
class_parts (TypedMoreExprs e es) = class_part (class_named e) ∷ class_parts es

abbrev pub folding : Option Ty → Heading
folding None = heading.Untyped
folding (Some t) = heading.Folding t

abbrev pub heading_of : TypedHeadTerm → Heading
heading_of TypedNoHead = heading.Missing
heading_of (TypedHeadOf name t TypedNoAccumulator at n) = heading.Plain
heading_of (TypedHeadOf name t (TypedAccumulatorOf acc u e acc_at m) at n) = folding (written_type u)

abbrev pub has_head : TypedHeadTerm → Bool
has_head TypedNoHead = false
has_head (TypedHeadOf name t a at n) = true

-- an operation of a model, which has no type before it
abbrev pub model_type : DeclaredHeads → List ℕ → TypedExprTerms → Option ModelCall → Option Ty
model_type h name es None = None
model_type h name es (Some model_call.ObjectsOfType) = answer_of (by_class.model_objects_of name (class_parts es))
model_type h name es (Some q) = answer_of (by_class.model_objects name (element_no h.types) (types_of es))

abbrev pub tested_type : DeclaredHeads → List ℕ → Option ClassTest → TypedExprTerms → Option Ty → Option Ty
tested_type h name None es o = answer_of (dot_call h.metas name o (types_of es))
tested_type h name (Some t) es o = answer_of (by_class.class_test name t o (class_parts es))

abbrev pub dot_type : DeclaredHeads → List ℕ → Reading → TypedExprTerms → Option Ty → Option Ty
dot_type h name r es None = model_type h name es (by_class.model_call_named name)
dot_type h name (reading.Units ns) es o = answer_of (unit_ruled h o (called_behind h false false name o) (types_of es))
dot_type h name r es o = tested_type h name (by_class.class_test_named name) es o

abbrev pub arrow_type : DeclaredHeads → List ℕ → TypedHeadTerm → TypedExprTerms → Option Ty → Option Ty
arrow_type h name head es o =
    if by_class.is_selection name then answer_of (by_class.selection name (has_head head) o (class_parts es))
    else answer_of (arrow h.metas name (heading_of head) o (types_of es))

abbrev pub map_type : DeclaredHeads → Bool → TypedMapTerm → Option Ty → Option Ty
map_type h is_arrow (TypedMapOf strict name es at n) o = answer_of (map_ruled h is_arrow o (called_behind h true is_arrow name o) (types_of es))

abbrev pub form_type : ResolveWord → Option RequestForm → Option Ty
form_type w None = None
form_type w (Some f) = Some (resolve_type w (record { 0 = f.class }))

abbrev pub resolved_type : ProgramTerm → TypedResolveTerm → Option Ty
resolved_type p (TypedResolveOf late w within f at n) = form_type w (form_of p (TypedResolveOf late w within f at n))

-- the type of a step on a source with this type
unfoldable pub step_type : ProgramTerm → TypedStepTerm → Option Ty → Option Ty
step_type p (TypedDotStep name TypedNoArgs at n) o = answer_of (property p.heads.metas name o)
step_type p (TypedDotStep name (TypedSomeArgs es) at n) o = dot_type p.heads name n.reading es o
step_type p (TypedArrowStep name head es at n) o = arrow_type p.heads name head es o
step_type p (TypedDotMapStep m) o = map_type p.heads false m o
step_type p (TypedArrowMapStep m) o = map_type p.heads true m o
step_type p (TypedDotResolveStep r) o = resolved_type p r
step_type p (TypedArrowResolveStep r) o = resolved_type p r

-- the kind of what an arrow goes over: of null it is the empty collection of the kind
abbrev pub kind_before : Option Ty → Kind
kind_before None = Set
kind_before (Some t) = kind_of (source_of t).kind
