-- A chain does what its first operand does, with its further operands behind it.
use Rattle.std.proofs.Common.{◌≡◌, ◌∙◌, Box, Global, sym, ap, map, List, [], ◌∷◌}
use Rattle.qvt_base.specs.declared.numbers.Place.{Place}
use Rattle.qvt_tree_types.specs.declared.words.Level.{Level}
use Rattle.qvt_types_data.specs.declared.note.Note.{Note}
use Rattle.qvt_types_nodes.specs.declared.tree.TypedExpr.{TypedExpr}
use Rattle.qvt_types_nodes.specs.declared.tree.TypedLink.{TypedLink}
use Rattle.qvt_types_nodes.specs.declared.tree.TypedExpr.TheFolds as folds
use Rattle.qvt_types_nodes.specs.declared.tree.TypedExpr.TheOpen.{TypedExpr-F}
use Rattle.qvt_types_nodes.specs.declared.tree.TypedExpr.TheVariants as expressions
use Rattle.qvt_types_nodes.specs.Tree.{TypedExprTerm, TypedStepTerm, TypedStmtTerm, TypedTargetTerm, TypedAccumulatorTerm, TypedArmTerm, TypedFilterTerm, TypedHeadTerm, TypedItemTerm, TypedLinkTerm, TypedMapTerm, TypedRangeTerm, TypedResolveTerm, TypedChainExpr, TypedLinkOf}
use Rattle.qvt_types_nodes.specs.View as view
use Rattle.qvt_run_rules.specs.Expressions as rule
use Rattle.qvt_meaning.specs.Phrases as phrase
use Rattle.qvt_meaning.specs.Readings as by
use Rattle.qvt_exec_steps.specs.Means.{Scene, expr_of, links_of, setting_of}

chain_view : (level : Level) (e : Box TypedExpr Global) (ls : List TypedLink) (at : Place) (n : Note) → view.typed_expr_view (expressions.Chain level e ls at n) ≡ TypedChainExpr level (view.typed_expr_view e.value) (view.typed_links_of (map view.typed_link_view ls)) at n
chain_view level e ls at n = ap view.typed_expr_view (sym (expressions.rolls-Chain level e ls at n)) ∙ folds.fold-roll-TypedExpr TypedExprTerm TypedStepTerm TypedStmtTerm TypedTargetTerm TypedAccumulatorTerm TypedArmTerm TypedFilterTerm TypedHeadTerm TypedItemTerm TypedLinkTerm TypedMapTerm TypedRangeTerm TypedResolveTerm view.typed_expr_step view.typed_step_step view.typed_stmt_step view.typed_target_step view.typed_accumulator_step view.typed_arm_step view.typed_filter_step view.typed_head_step view.typed_item_step view.typed_link_step view.typed_map_step view.typed_range_step view.typed_resolve_step (TypedExpr-F.Chain level e ls at n)

of_chain : (x : Scene) (level : Level) (e : Box TypedExpr Global) (ls : List TypedLink) (at : Place) (n : Note) → expr_of x (expressions.Chain level e ls at n) ≡ rule.on_first (expr_of x e.value) (links_of x ls)
unfolding expr_of links_of phrase.expr
of_chain x level e ls at n = ap (phrase.expr (setting_of x) x.1.calls x.0.answer.now) (chain_view level e ls at n)

-- by the parts that are read
pub chain_is : (node first : TypedExpr) (rest : List TypedLink) (level : Level) (e : Box TypedExpr Global) (ls : List TypedLink) (at : Place) (n : Note) →
    node ≡ expressions.Chain level e ls at n → first ≡ e.value → rest ≡ ls → (x : Scene) → expr_of x node ≡ rule.on_first (expr_of x first) (links_of x rest)
chain_is node first rest level e ls at n is one all x =
    ap (expr_of x) is ∙ of_chain x level e ls at n ∙ sym (ap (λ (d : TypedExpr). rule.on_first (expr_of x d) (links_of x rest)) one ∙ ap (λ (ms : List TypedLink). rule.on_first (expr_of x e.value) (links_of x ms)) all)

link_view : (l : TypedLink) → view.typed_link_view l ≡ TypedLinkOf l.op (view.typed_expr_view l.operand) l.place l.note
link_view l = folds.fold_out-TypedLink TypedExprTerm TypedStepTerm TypedStmtTerm TypedTargetTerm TypedAccumulatorTerm TypedArmTerm TypedFilterTerm TypedHeadTerm TypedItemTerm TypedLinkTerm TypedMapTerm TypedRangeTerm TypedResolveTerm view.typed_expr_step view.typed_step_step view.typed_stmt_step view.typed_target_step view.typed_accumulator_step view.typed_arm_step view.typed_filter_step view.typed_head_step view.typed_item_step view.typed_link_step view.typed_map_step view.typed_range_step view.typed_resolve_step l

-- one further operand
pub of_link : (x : Scene) (l : TypedLink) → links_of x (l ∷ []) ≡ by.link_of (setting_of x) l.op (expr_of x l.operand) l.place ∷ []
unfolding links_of expr_of phrase.link phrase.links
of_link x l = ap (λ (t : TypedLinkTerm). phrase.link (setting_of x) x.1.calls x.0.answer.now t ∷ []) (link_view l)
