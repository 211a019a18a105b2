-- What the head of an iterator has.
use Rattle.std.proofs.Common.{◌≡◌, ◌∙◌, ℕ, sym, ap, List, Option, Some, None, Box, Global, arith}
use Rattle.qvt_base.specs.declared.numbers.Place.{Place}
use Rattle.qvt_value.specs.declared.value.Value.{Value}
use Rattle.qvt_run_data.specs.declared.late.LateWrite.{LateWrite}
use Rattle.qvt_types_nodes.specs.declared.tree.TypedHead.{TypedHead, out-TypedHead}
use Rattle.qvt_types_nodes.specs.declared.tree.TypedAccumulator.{TypedAccumulator, out-TypedAccumulator}
use Rattle.qvt_types_nodes.specs.View as view
use Rattle.qvt_types_nodes.specs.Tree.{TypedExprTerm, TypedStepTerm, TypedStmtTerm, TypedTargetTerm, TypedAccumulatorTerm, TypedArmTerm, TypedFilterTerm, TypedHeadTerm, TypedItemTerm, TypedLinkTerm, TypedMapTerm, TypedRangeTerm, TypedResolveTerm, TypedHeadOf, TypedAccumulatorOf}
use Rattle.qvt_types_nodes.specs.declared.tree.TypedExpr.TheFolds as folds
use Rattle.qvt_run_rules.specs.Cost.{spend_of}
use Rattle.qvt_run_rules.specs.Iterators as each
use Rattle.qvt_run_rules.specs.State.{Does, misfit}
use Rattle.qvt_exec_types.specs.Phrases as phrase
use Rattle.qvt_exec_types.specs.Readings as by
use Rattle.qvt_exec_invocations.specs.Means.{Scene, expr_of, head_of, setting_of}

head_view_is : (h : TypedHead) → view.typed_head_view h ≡ TypedHeadOf (out-TypedHead h).name (view.typed_optional_type (out-TypedHead h).kind) (view.typed_boxed_accumulator_view (out-TypedHead h).accumulator) (out-TypedHead h).place (out-TypedHead h).note
head_view_is h = folds.fold_out-TypedHead TypedExprTerm TypedStepTerm TypedStmtTerm TypedTargetTerm TypedAccumulatorTerm TypedArmTerm TypedFilterTerm TypedHeadTerm TypedItemTerm TypedLinkTerm TypedMapTerm TypedRangeTerm TypedResolveTerm view.typed_expr_step view.typed_step_step view.typed_stmt_step view.typed_target_step view.typed_accumulator_step view.typed_arm_step view.typed_filter_step view.typed_head_step view.typed_item_step view.typed_link_step view.typed_map_step view.typed_range_step view.typed_resolve_step h ∙ (grind arith)

accumulator_view_is : (a : TypedAccumulator) → view.typed_accumulator_view a ≡ TypedAccumulatorOf (out-TypedAccumulator a).name (view.typed_type_view (out-TypedAccumulator a).kind) (view.typed_expr_view (out-TypedAccumulator a).first) (out-TypedAccumulator a).place (out-TypedAccumulator a).note
accumulator_view_is a = folds.fold_out-TypedAccumulator TypedExprTerm TypedStepTerm TypedStmtTerm TypedTargetTerm TypedAccumulatorTerm TypedArmTerm TypedFilterTerm TypedHeadTerm TypedItemTerm TypedLinkTerm TypedMapTerm TypedRangeTerm TypedResolveTerm view.typed_expr_step view.typed_step_step view.typed_stmt_step view.typed_target_step view.typed_accumulator_step view.typed_arm_step view.typed_filter_step view.typed_head_step view.typed_item_step view.typed_link_step view.typed_map_step view.typed_range_step view.typed_resolve_step a ∙ (grind arith)

-- what the accumulator of a head does
abbrev first_of : Scene → TypedAccumulatorTerm → Option (List ℕ × Does LateWrite Value)
first_of x a = phrase.accumulator (setting_of x) x.1.calls x.0.answer.now a

of_head : (x : Scene) (h : TypedHead) → (head_of x (Some h)).accumulator ≡ first_of x (view.typed_boxed_accumulator_view (out-TypedHead h).accumulator)
unfolding head_of phrase.head
of_head x h = ap (λ (t : TypedHeadTerm). (phrase.head (setting_of x) x.1.calls x.0.answer.now t).accumulator) (head_view_is h)

pub head_missing : (x : Scene) (head : Option TypedHead) → head ≡ None → (head_of x head).accumulator ≡ None
unfolding head_of phrase.head
head_missing x head none = ap (λ (k : Option TypedHead). (head_of x k).accumulator) none

pub head_without : (x : Scene) (head : Option TypedHead) (h : TypedHead) → head ≡ Some h → (out-TypedHead h).accumulator ≡ None → (head_of x head).accumulator ≡ None
unfolding phrase.accumulator
head_without x head h is none =
    ap (λ (k : Option TypedHead). (head_of x k).accumulator) is ∙ of_head x h
    ∙ ap (λ (a : Option (Box TypedAccumulator Global)). first_of x (view.typed_boxed_accumulator_view a)) none

pub head_with : (x : Scene) (head : Option TypedHead) (h : TypedHead) (a : Box TypedAccumulator Global) (one other : TypedAccumulator) → head ≡ Some h → (out-TypedHead h).accumulator ≡ Some a → one ≡ a.value → other ≡ a.value →
    (head_of x head).accumulator ≡ Some ((out-TypedAccumulator one).name, expr_of x (out-TypedAccumulator other).first)
unfolding expr_of phrase.accumulator
head_with x head h a one other is some named begun =
    ap (λ (k : Option TypedHead). (head_of x k).accumulator) is ∙ of_head x h
    ∙ ap (λ (b : Option (Box TypedAccumulator Global)). first_of x (view.typed_boxed_accumulator_view b)) some
    ∙ ap (first_of x) (accumulator_view_is a.value)
    ∙ sym (ap (λ (b : TypedAccumulator). Some ((out-TypedAccumulator b).name, expr_of x (out-TypedAccumulator a.value).first)) named)
    ∙ sym (ap (λ (b : TypedAccumulator). Some ((out-TypedAccumulator one).name, expr_of x (out-TypedAccumulator b).first)) begun)

-- `iterate` without an accumulator
pub iterate_without : (x : Scene) (head : Option TypedHead) (p : Does LateWrite Value) (at : Place) (v : Value) → (head_of x head).accumulator ≡ None →
    by.iterate_by (setting_of x) (head_of x head) p at (head_of x head).accumulator v ≡ misfit at
iterate_without x head p at v none = ap (λ a. by.iterate_by (setting_of x) (head_of x head) p at a v) none

-- `iterate` with one
pub iterate_with : (x : Scene) (head : Option TypedHead) (p : Does LateWrite Value) (at : Place) (v : Value) (a : List ℕ) (q : Does LateWrite Value) (m : Option (List ℕ)) →
    (head_of x head).accumulator ≡ Some (a, q) → (head_of x head).name ≡ m →
    by.iterate_by (setting_of x) (head_of x head) p at (head_of x head).accumulator v ≡ each.iterate (spend_of x.0.limit) at m p a q v
iterate_with x head p at v a q m some named =
    ap (λ k. by.iterate_by (setting_of x) (head_of x head) p at k v) some
    ∙ ap (λ (k : Option (List ℕ)). each.iterate (spend_of x.0.limit) at k p a q v) named
