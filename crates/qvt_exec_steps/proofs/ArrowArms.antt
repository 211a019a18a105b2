-- Steps behind an arrow.
use Rattle.std.proofs.Common.{◌≡◌, ◌∙◌, ◌≤◌, ◌<◌, ℕ, refl, sym, ap, true, map, option_map, List, [], ◌∷◌, length, Option, Some, None, arith}
use Rattle.std.proofs.Math.ListN.{get_or}
use Rattle.qvt_base.specs.declared.numbers.Place.{Place}
use Rattle.qvt_value.specs.declared.value.Value.{Value}
use Rattle.qvt_run_data.specs.declared.late.LateWrite.{LateWrite}
use Rattle.qvt_types_data.specs.declared.note.Note.{Note}
use Rattle.qvt_types_data.specs.declared.ty.Ty.{Ty}
use Rattle.qvt_types_nodes.specs.declared.tree.TypedExpr.{TypedExpr}
use Rattle.qvt_types_nodes.specs.declared.tree.TypedHead.{TypedHead}
use Rattle.qvt_types_nodes.specs.declared.tree.TypedStep.{TypedStep}
use Rattle.qvt_types_nodes.specs.declared.tree.TypedStep.TheVariants as steps
use Rattle.qvt_types_nodes.specs.View.{typed_expr_view, typed_exprs_of}
use Rattle.qvt_types_nodes.specs.View as view
use Rattle.qvt_types_nodes.specs.Tree.{TypedExprTerm, TypedStepTerm, TypedStmtTerm, TypedTargetTerm, TypedAccumulatorTerm, TypedArmTerm, TypedFilterTerm, TypedHeadTerm, TypedItemTerm, TypedLinkTerm, TypedMapTerm, TypedRangeTerm, TypedResolveTerm, TypedArrowStep}
use Rattle.qvt_types_nodes.specs.declared.tree.TypedExpr.TheFolds as folds
use Rattle.qvt_types_nodes.specs.declared.tree.TypedExpr.TheOpen.{TypedStep-F}
use Rattle.qvt_types_steps.specs.declared.iterators.IteratorKind.TheVariants as iterator
use Rattle.qvt_run_rules.specs.Sources.{before_arrow}
use Rattle.qvt_run_rules.specs.State.{Does, misfit}
use Rattle.qvt_exec_types.specs.Nodes as nodes
use Rattle.qvt_exec_types.specs.Phrases as phrase
use Rattle.qvt_exec_types.specs.Readings as by
use Rattle.qvt_exec_types.specs.StepTypes.{kind_before}
use Rattle.qvt_exec_leaves.specs.Heads.{iterates}
use Rattle.qvt_exec_invocations.specs.Means.{Scene, expr_of, exprs_of, head_of, setting_of, step_of}
use Rattle.qvt_exec_steps.proofs.Args.{no_body}
use Rattle.qvt_exec_steps.proofs.Loops.{iterates_on}

-- what the step does on the collection that it goes over
abbrev pub arrow_does : Scene → List ℕ → Option TypedHead → List TypedExpr → Place → Value → Does LateWrite Value
arrow_does x name head args at v = by.arrow_on (setting_of x) name (head_of x head) (exprs_of x args) (nodes.class_argument (typed_exprs_of (map typed_expr_view args))) at v

arrow_view : (name : List ℕ) (h : Option TypedHead) (es : List TypedExpr) (at : Place) (n : Note) → view.typed_step_view (steps.Arrow name h es at n) ≡ TypedArrowStep name (view.typed_optional_head (option_map view.typed_head_view h)) (typed_exprs_of (map typed_expr_view es)) at n
arrow_view name None es at n = ap view.typed_step_view (sym (steps.rolls-Arrow name None es at n)) ∙ folds.fold-roll-TypedStep TypedExprTerm TypedStepTerm TypedStmtTerm TypedTargetTerm TypedAccumulatorTerm TypedArmTerm TypedFilterTerm TypedHeadTerm TypedItemTerm TypedLinkTerm TypedMapTerm TypedRangeTerm TypedResolveTerm view.typed_expr_step view.typed_step_step view.typed_stmt_step view.typed_target_step view.typed_accumulator_step view.typed_arm_step view.typed_filter_step view.typed_head_step view.typed_item_step view.typed_link_step view.typed_map_step view.typed_range_step view.typed_resolve_step (TypedStep-F.Arrow name None es at n)
arrow_view name (Some h) es at n = ap view.typed_step_view (sym (steps.rolls-Arrow name (Some h) es at n)) ∙ folds.fold-roll-TypedStep TypedExprTerm TypedStepTerm TypedStmtTerm TypedTargetTerm TypedAccumulatorTerm TypedArmTerm TypedFilterTerm TypedHeadTerm TypedItemTerm TypedLinkTerm TypedMapTerm TypedRangeTerm TypedResolveTerm view.typed_expr_step view.typed_step_step view.typed_stmt_step view.typed_target_step view.typed_accumulator_step view.typed_arm_step view.typed_filter_step view.typed_head_step view.typed_item_step view.typed_link_step view.typed_map_step view.typed_range_step view.typed_resolve_step (TypedStep-F.Arrow name (Some h) es at n)

is_arrow : (x : Scene) (o : Option Ty) (name : List ℕ) (head : Option TypedHead) (args : List TypedExpr) (at : Place) (n : Note) (v : Value) →
    step_of x o (steps.Arrow name head args at n) v ≡ arrow_does x name head args at (before_arrow n.wrap (kind_before o) v)
unfolding step_of head_of exprs_of phrase.step
is_arrow x o name head args at n v = ap (λ (t : TypedStepTerm). phrase.step (setting_of x) x.1.calls x.0.answer.now o t v) (arrow_view name head args at n)

-- a step that is an arrow, on its source
pub arrow_is : (x : Scene) (o : Option Ty) (s : TypedStep) (v : Value) (name : List ℕ) (head : Option TypedHead) (args : List TypedExpr) (at : Place) (n : Note) (source : Value) → s ≡ steps.Arrow name head args at n → source ≡ before_arrow n.wrap (kind_before o) v →
    step_of x o s v ≡ arrow_does x name head args at source
arrow_is x o s v name head args at n source is goes_over =
    ap (λ (t : TypedStep). step_of x o t v) is ∙ is_arrow x o name head args at n v ∙ ap (arrow_does x name head args at) (sym goes_over)

-- arguments by their number
none_there : (es : List TypedExpr) → length es < 1 → es ≡ []
none_there [] few = refl
none_there (e ∷ es) few = absurd (omega (arith, few))

one_there : (es : List TypedExpr) (b : TypedExpr) → 1 ≤ length es → length es < 2 → b ≡ get_or es 0 b → es ≡ b ∷ []
one_there [] b some few is = absurd (omega (arith, some))
one_there (e ∷ []) b some few is = ap (λ (k : TypedExpr). k ∷ []) (sym is)
one_there (e ∷ f ∷ es) b some few is = absurd (omega (arith, few))

-- `iterate`
iterate_is : (x : Scene) (name : List ℕ) (head : Option TypedHead) (args : List TypedExpr) (at : Place) (v : Value) → iterates name ≡ true →
    arrow_does x name head args at v ≡ by.iterator_step (setting_of x) iterator.Iterate (head_of x head) (exprs_of x args) at v
iterate_is x name head args at v it = iterates_on x name (head_of x head) (exprs_of x args) (nodes.class_argument (typed_exprs_of (map typed_expr_view args))) at v it

-- without a body, or with several
pub without_body : (x : Scene) (name : List ℕ) (head : Option TypedHead) (args : List TypedExpr) (at : Place) (v : Value) → iterates name ≡ true → length args < 1 → arrow_does x name head args at v ≡ misfit at
unfolding exprs_of phrase.exprs
without_body x name head args at v it none =
    iterate_is x name head args at v it ∙ ap (λ es. by.iterator_step (setting_of x) iterator.Iterate (head_of x head) (exprs_of x es) at v) (none_there args none)

pub with_bodies : (x : Scene) (name : List ℕ) (head : Option TypedHead) (args : List TypedExpr) (at : Place) (v : Value) → iterates name ≡ true → 2 ≤ length args → arrow_does x name head args at v ≡ misfit at
with_bodies x name head args at v it many = iterate_is x name head args at v it ∙ no_body x iterator.Iterate (head_of x head) args at v many

one_body : (x : Scene) (head : Option TypedHead) (body : TypedExpr) (at : Place) (v : Value) →
    by.iterator_step (setting_of x) iterator.Iterate (head_of x head) (exprs_of x (body ∷ [])) at v ≡ by.iterate_by (setting_of x) (head_of x head) (expr_of x body) at (head_of x head).accumulator v
unfolding exprs_of expr_of phrase.exprs
one_body x head body at v = refl

-- with one
pub with_body : (x : Scene) (name : List ℕ) (head : Option TypedHead) (args : List TypedExpr) (at : Place) (v : Value) (body : TypedExpr) → iterates name ≡ true → 1 ≤ length args → length args < 2 → body ≡ get_or args 0 body →
    arrow_does x name head args at v ≡ by.iterate_by (setting_of x) (head_of x head) (expr_of x body) at (head_of x head).accumulator v
with_body x name head args at v body it some few is =
    iterate_is x name head args at v it ∙ ap (λ es. by.iterator_step (setting_of x) iterator.Iterate (head_of x head) (exprs_of x es) at v) (one_there args body some few is) ∙ one_body x head body at v
