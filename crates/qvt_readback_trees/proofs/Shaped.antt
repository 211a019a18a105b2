-- The printed text of a tree is that of its shape.
use Rattle.std.proofs.Common.{◌≡◌, Bool, true, false, ◌||◌, if◌then◌else◌, List, [], ◌∷◌, ◌++◌, map, Option, Some, None, refl, sym, ap, ◌∙◌}
use Rattle.qvt_tree_types.specs.Tree.{TypeTerm, CollType, PathType, ExprTerm, ExprTerms, OptionalExpr, OptionalArgs, LinkTerm, LinkTerms, ItemTerm, RangeTerm, ItemTerms, MapTerm, ResolveTerm, FilterTerm, HeadTerm, AccumulatorTerm, StepTerm, StepTerms, TargetTerm, StmtTerm, StmtTerms, ElseTerm, ArmTerm, ArmTerms}
use Rattle.qvt_tree_types.specs.Tree.{IntExpr, StrExpr, BoolExpr, NullExpr, SelfExpr, ResultExpr, PathExpr, CallExpr, CollExpr, IfExpr, ObjectExpr, NewExpr, MapExpr, ResolveExpr, ChainExpr, PrefixExpr, PostExpr, NoExprs, MoreExprs, NoExpr, SomeExpr, NoArgs, SomeArgs, LinkOf, NoLinks, MoreLinks, ItemOf, NoRange, RangeTo, NoItems, MoreItems, MapOf, ResolveOf, NoFilter, FilterOf, NoHead, HeadOf, NoAccumulator, AccumulatorOf, DotStep, ArrowStep, DotMapStep, ArrowMapStep, DotResolveStep, ArrowResolveStep, NoSteps, MoreSteps, BareTarget, ResultTarget, MemberTarget, VarStmt, AssignStmt, ReturnStmt, ValueStmt, IfStmt, WhileStmt, ForEachStmt, NoStmts, MoreStmts, NoElse, ElseOf, ArmOf, NoArms, MoreArms}
use Rattle.qvt_tree_types.specs.Module.{TypedName, MappingTerm, UnitTerm, ClassOf, MainOf, HelperOf, ConstructorOf, MappingOf, ModuleTerm}
use Rattle.qvt_tree_types.specs.declared.types.PathTree.{PathTree}
use Rattle.qvt_tree_types.specs.declared.types.ObjectVar.{ObjectVar}
use Rattle.qvt_tree_types.specs.declared.types.ObjectVar.TheVariants.{Named, ResultVar}
use Rattle.qvt_tree_types.specs.declared.module.ResultDecl.{ResultDecl}
use Rattle.qvt_tree_types.specs.declared.module.ModelType.{ModelType}
use Rattle.qvt_tree_types.specs.declared.module.ModelParam.{ModelParam}
use Rattle.qvt_tree_types.specs.declared.words.Level.{Level}
use Rattle.qvt_tree_types.specs.declared.words.Sign.{Sign}
use Rattle.qvt_tree.specs.Shape as shape
use Rattle.qvt_tree.specs.ModuleShape as whole
use Rattle.qvt_language.specs.declared.class.Class.{Class}
use Rattle.qvt_language.specs.declared.class.Class.TheVariants as class
use Rattle.qvt_printer_layout.specs.declared.piece.PrintPiece.TheVariants.{Plain, Name, Line}
use Rattle.qvt_printer_layout.specs.Words.{kind_word, operator_sign, prefix_sign, resolve_word, map_word, assign_sign, helper_word}
use Rattle.qvt_printer_layout.specs.Layout.{laid_out}
use Rattle.qvt_printer.specs.Levels.{is_as_loose, is_chain, is_chain_or_prefix}
use Rattle.qvt_printer.specs.Expressions as print
use Rattle.qvt_printer.specs.Expressions.{in_round, in_items, in_block, round_if, comma_if, ended, late_if, named_if, conditional}
use Rattle.qvt_printer.specs.Units as printed
use Rattle.qvt_printer.specs.Units.{has_statements, module_pieces}
use Rattle.qvt_printer.specs.PrintText.{print_text}
use Rattle.qvt_readback_trees.specs.Law.{OneText}

-- the parts without parts of their own
variable_same : (v : Option ObjectVar) → print.variable (shape.erase_optional_variable v) ≡ print.variable v
variable_same None = refl
variable_same (Some (Named n place)) = refl
variable_same (Some (ResultVar place)) = refl

signs_same : (ss : List Sign) → print.signs (shape.erase_signs ss) ≡ print.signs ss
signs_same [] = refl
signs_same (s ∷ ss) = λ i. Plain (prefix_sign s.op) ∷ signs_same ss i

type_same : (t : TypeTerm) → print.type_of (shape.erase_type t) ≡ print.type_of t
type_same (CollType kind item place) = λ i. Plain (kind_word kind) ∷ in_round (type_same item i)
type_same (PathType p) = refl

typed_if_same : (t : Option TypeTerm) → print.typed_if (shape.erase_optional_type t) ≡ print.typed_if t
typed_if_same None = refl
typed_if_same (Some t) = λ i. Plain class.Colon ∷ type_same t i

-- the same brackets
loose_same : (l : Level) (e : ExprTerm) → is_as_loose l (shape.erase_expr e) ≡ is_as_loose l e
loose_same l (ChainExpr k first rest place) = refl
loose_same l _ = refl

chain_same : (e : ExprTerm) → is_chain (shape.erase_expr e) ≡ is_chain e
chain_same (ChainExpr k first rest place) = refl
chain_same _ = refl

chain_or_prefix_same : (e : ExprTerm) → is_chain_or_prefix (shape.erase_expr e) ≡ is_chain_or_prefix e
chain_or_prefix_same (ChainExpr k first rest place) = refl
chain_or_prefix_same (PrefixExpr signs operand place) = refl
chain_or_prefix_same _ = refl

mutual
  expr_same : (e : ExprTerm) → print.expr (shape.erase_expr e) ≡ print.expr e
  expr_same (IntExpr value place) = refl
  expr_same (StrExpr value place) = refl
  expr_same (BoolExpr value place) = refl
  expr_same (NullExpr place) = refl
  expr_same (SelfExpr place) = refl
  expr_same (ResultExpr place) = refl
  expr_same (PathExpr p) = refl
  expr_same (CallExpr name args place) = λ i. Name name ∷ in_round (exprs_same false args i)
  expr_same (CollExpr kind items place) = λ i. Plain (kind_word kind) ∷ in_items (items_same false items i)
  expr_same (IfExpr condition one_value other place) = λ i. conditional (expr_same condition i) (expr_same one_value i) (expr_same other i)
  expr_same (ObjectExpr var p extent_name body place) = λ i. Plain class.ObjectWord ∷ (variable_same var i ++ (print.path p ++ (print.extent extent_name ++ in_block (stmts_same body i))))
  expr_same (NewExpr p extent_name args place) = λ i. Plain class.NewWord ∷ (print.path p ++ (print.extent extent_name ++ in_round (exprs_same false args i)))
  expr_same (MapExpr call) = map_call_same call
  expr_same (ResolveExpr call) = resolve_same call
  expr_same (ChainExpr level first rest place) = λ i. round_if (loose_same level first i) (expr_same first i) ++ links_same level rest i
  expr_same (PrefixExpr before e place) = λ i. signs_same before i ++ round_if (chain_same e i) (expr_same e i)
  expr_same (PostExpr first after place) = λ i. round_if (chain_or_prefix_same first i) (expr_same first i) ++ steps_same after i

  exprs_same : (comma : Bool) (es : ExprTerms) → print.exprs comma (shape.erase_exprs es) ≡ print.exprs comma es
  exprs_same comma NoExprs = refl
  exprs_same comma (MoreExprs e es) = λ i. comma_if comma ++ (expr_same e i ++ exprs_same true es i)

  links_same : (level : Level) (ls : LinkTerms) → print.links level (shape.erase_links ls) ≡ print.links level ls
  links_same level NoLinks = refl
  links_same level (MoreLinks l ls) = λ i. link_same level l i ++ links_same level ls i

  link_same : (level : Level) (l : LinkTerm) → print.link level (shape.erase_link l) ≡ print.link level l
  link_same level (LinkOf op e place) = λ i. Plain (operator_sign op) ∷ round_if (loose_same level e i) (expr_same e i)

  items_same : (comma : Bool) (is : ItemTerms) → print.all_items comma (shape.erase_items is) ≡ print.all_items comma is
  items_same comma NoItems = refl
  items_same comma (MoreItems i is) = λ j. comma_if comma ++ (item_same i j ++ items_same true is j)

  item_same : (i : ItemTerm) → print.item (shape.erase_item i) ≡ print.item i
  item_same (ItemOf first last place) = λ i. expr_same first i ++ range_same last i

  range_same : (r : RangeTerm) → print.range (shape.erase_range r) ≡ print.range r
  range_same NoRange = refl
  range_same (RangeTo last place) = λ i. Plain class.DotDot ∷ expr_same last i

  map_call_same : (m : MapTerm) → print.map_call (shape.erase_map_call m) ≡ print.map_call m
  map_call_same (MapOf strict name args place) = λ i. Plain (map_word strict) ∷ Name name ∷ in_round (exprs_same false args i)

  resolve_same : (r : ResolveTerm) → print.resolve (shape.erase_resolve r) ≡ print.resolve r
  resolve_same (ResolveOf late word within by place) = λ i. late_if late ++ (Plain (resolve_word word) ∷ in_round (resolved_same within by i))

  resolved_same : (within : Option PathTree) (by : FilterTerm) → print.resolved (shape.erase_optional_path within) (shape.erase_filter by) ≡ print.resolved within by
  resolved_same None NoFilter = refl
  resolved_same None (FilterOf name kind condition place) = λ i. named_if name ++ (type_same kind i ++ condition_same condition i)
  resolved_same (Some p) NoFilter = refl
  resolved_same (Some p) (FilterOf name kind condition place) = λ i. print.path p ++ (Plain class.Comma ∷ (named_if name ++ (type_same kind i ++ condition_same condition i)))

  condition_same : (e : OptionalExpr) → print.condition_if (shape.erase_optional_expr e) ≡ print.condition_if e
  condition_same NoExpr = refl
  condition_same (SomeExpr e) = λ i. Plain class.Bar ∷ expr_same e i

  head_same : (h : HeadTerm) → print.head (shape.erase_head h) ≡ print.head h
  head_same NoHead = refl
  head_same (HeadOf name kind accumulated place) = λ i. Name name ∷ (typed_if_same kind i ++ (accumulator_same accumulated i ++ print.one class.Bar))

  accumulator_same : (a : AccumulatorTerm) → print.accumulator (shape.erase_accumulator a) ≡ print.accumulator a
  accumulator_same NoAccumulator = refl
  accumulator_same (AccumulatorOf name kind first place) = λ i. Plain class.Semicolon ∷ Name name ∷ ((Plain class.Colon ∷ type_same kind i) ++ (Plain class.EqualSign ∷ expr_same first i))

  steps_same : (ss : StepTerms) → print.steps (shape.erase_steps ss) ≡ print.steps ss
  steps_same NoSteps = refl
  steps_same (MoreSteps s ss) = λ i. step_same s i ++ steps_same ss i

  step_same : (s : StepTerm) → print.step (shape.erase_step s) ≡ print.step s
  step_same (DotStep name args place) = λ i. Plain class.Dot ∷ Name name ∷ args_same args i
  step_same (ArrowStep name h args place) = λ i. Plain class.Arrow ∷ Name name ∷ in_round (head_same h i ++ exprs_same false args i)
  step_same (DotMapStep call) = λ i. Plain class.Dot ∷ map_call_same call i
  step_same (ArrowMapStep call) = λ i. Plain class.Arrow ∷ map_call_same call i
  step_same (DotResolveStep call) = λ i. Plain class.Dot ∷ resolve_same call i
  step_same (ArrowResolveStep call) = λ i. Plain class.Arrow ∷ resolve_same call i

  args_same : (a : OptionalArgs) → print.args_if (shape.erase_args a) ≡ print.args_if a
  args_same NoArgs = refl
  args_same (SomeArgs args) = λ i. in_round (exprs_same false args i)

  target_same : (t : TargetTerm) → print.target (shape.erase_target t) ≡ print.target t
  target_same (BareTarget name place) = refl
  target_same (ResultTarget place) = refl
  target_same (MemberTarget object name place) = λ i. round_if (chain_or_prefix_same object i) (expr_same object i) ++ (Plain class.Dot ∷ Name name ∷ [])

  stmt_same : (s : StmtTerm) → print.stmt (shape.erase_stmt s) ≡ print.stmt s
  stmt_same (VarStmt name kind value place) = λ i. ended (Plain class.VarWord ∷ Name name ∷ (typed_if_same kind i ++ first_value_same value i))
  stmt_same (AssignStmt t adds value place) = λ i. ended (target_same t i ++ (Plain (assign_sign adds) ∷ expr_same value i))
  stmt_same (ReturnStmt value place) = λ i. ended (Plain class.ReturnWord ∷ optional_same value i)
  stmt_same (ValueStmt value place) = λ i. ended (expr_same value i)
  stmt_same (IfStmt condition body elifs otherwise place) = λ i. Plain class.IfWord ∷ (in_round (expr_same condition i) ++ (in_block (stmts_same body i) ++ (arms_same elifs i ++ else_same otherwise i)))
  stmt_same (WhileStmt condition body place) = λ i. Plain class.WhileWord ∷ (in_round (expr_same condition i) ++ in_block (stmts_same body i))
  stmt_same (ForEachStmt source name kind condition body place) =
      λ i. round_if (chain_or_prefix_same source i) (expr_same source i) ++ (Plain class.Arrow ∷ Plain class.ForEachWord ∷ (in_round (Name name ∷ (typed_if_same kind i ++ condition_same condition i)) ++ in_block (stmts_same body i)))

  optional_same : (e : OptionalExpr) → print.optional (shape.erase_optional_expr e) ≡ print.optional e
  optional_same NoExpr = refl
  optional_same (SomeExpr e) = expr_same e

  first_value_same : (e : OptionalExpr) → print.first_value (shape.erase_optional_expr e) ≡ print.first_value e
  first_value_same NoExpr = refl
  first_value_same (SomeExpr e) = λ i. Plain class.Becomes ∷ expr_same e i

  arms_same : (as_ : ArmTerms) → print.arms (shape.erase_arms as_) ≡ print.arms as_
  arms_same NoArms = refl
  arms_same (MoreArms a as_) = λ i. arm_same a i ++ arms_same as_ i

  arm_same : (a : ArmTerm) → print.arm (shape.erase_arm a) ≡ print.arm a
  arm_same (ArmOf condition body) = λ i. Plain class.ElifWord ∷ (in_round (expr_same condition i) ++ in_block (stmts_same body i))

  else_same : (e : ElseTerm) → print.else_if (shape.erase_else e) ≡ print.else_if e
  else_same NoElse = refl
  else_same (ElseOf body) = λ i. Plain class.ElseWord ∷ in_block (stmts_same body i)

  stmts_same : (ss : StmtTerms) → print.stmts (shape.erase_stmts ss) ≡ print.stmts ss
  stmts_same NoStmts = refl
  stmts_same (MoreStmts s ss) = λ i. Line ∷ (stmt_same s i ++ stmts_same ss i)

-- the units
more_paths_same : (ps : List PathTree) → print.more_paths (map shape.erase_path ps) ≡ print.more_paths ps
more_paths_same [] = refl
more_paths_same (p ∷ ps) = λ i. Plain class.Comma ∷ (print.path p ++ more_paths_same ps i)

listed_same : (word : Class) (ps : List PathTree) → printed.listed word (map shape.erase_path ps) ≡ printed.listed word ps
listed_same word [] = refl
listed_same word (p ∷ ps) = λ i. Plain word ∷ (print.path p ++ more_paths_same ps i)

typed_name_same : (t : TypedName) → printed.typed_name (whole.erase_typed t) ≡ printed.typed_name t
typed_name_same t = λ i. Name t.name ∷ Plain class.Colon ∷ type_same t.kind i

more_params_same : (ps : List TypedName) → printed.more_params (map whole.erase_typed ps) ≡ printed.more_params ps
more_params_same [] = refl
more_params_same (p ∷ ps) = λ i. Plain class.Comma ∷ (typed_name_same p i ++ more_params_same ps i)

params_same : (ps : List TypedName) → printed.params (map whole.erase_typed ps) ≡ printed.params ps
params_same [] = refl
params_same (p ∷ ps) = λ i. typed_name_same p i ++ more_params_same ps i

fields_same : (fs : List TypedName) → printed.fields (map whole.erase_typed fs) ≡ printed.fields fs
fields_same [] = refl
fields_same (f ∷ fs) = λ i. Line ∷ (ended (typed_name_same f i) ++ fields_same fs i)

result_same : (r : Option ResultDecl) → printed.result_if (whole.erase_optional_result r) ≡ printed.result_if r
result_same None = refl
result_same (Some r) = refl

when_same : (e : OptionalExpr) → printed.when_if (shape.erase_optional_expr e) ≡ printed.when_if e
when_same NoExpr = refl
when_same (SomeExpr e) = λ i. Plain class.WhenWord ∷ Plain class.OpenBrace ∷ (expr_same e i ++ print.one class.CloseBrace)

has_same : (ss : StmtTerms) → has_statements (shape.erase_stmts ss) ≡ has_statements ss
has_same NoStmts = refl
has_same (MoreStmts s ss) = refl

section_same : (word : Class) (ss : StmtTerms) → printed.section word (shape.erase_stmts ss) ≡ printed.section word ss
section_same word NoStmts = refl
section_same word (MoreStmts s ss) = λ i. Line ∷ Plain word ∷ in_block (stmts_same (MoreStmts s ss) i)

sections_same : (m : MappingTerm) → printed.sections (whole.erase_mapping m) ≡ printed.sections m
sections_same m = λ i. in_block (section_same class.InitWord m.init i ++ (section_same class.PopulationWord m.population i ++ section_same class.EndWord m.finish i))

mapping_body_same : (m : MappingTerm) → printed.mapping_body (whole.erase_mapping m) ≡ printed.mapping_body m
mapping_body_same m = λ i. if has_same m.init i || has_same m.finish i then sections_same m i else in_block (stmts_same m.population i)

extras_same : (m : MappingTerm) → printed.extras (whole.erase_mapping m) ≡ printed.extras m
extras_same m = λ i. listed_same class.InheritsWord m.inherits i ++ (listed_same class.MergesWord m.merges i ++ (listed_same class.DisjunctsWord m.disjuncts i ++ when_same m.condition i))

unit_same : (u : UnitTerm) → printed.unit (whole.erase_unit u) ≡ printed.unit u
unit_same (ClassOf c) = λ i. Plain class.IntermediateWord ∷ Plain class.ClassWord ∷ Name c.name ∷ (listed_same class.ExtendsWord c.supers i ++ in_block (fields_same c.features i))
unit_same (MainOf body place) = λ i. Plain class.MainWord ∷ (in_round [] ++ in_block (stmts_same body i))
unit_same (HelperOf h) = λ i. Plain (helper_word h.pure) ∷ ((print.names h.path ++ in_round (params_same h.params i)) ++ (typed_if_same h.answer i ++ in_block (stmts_same h.body i)))
unit_same (ConstructorOf h) = λ i. Plain class.ConstructorWord ∷ ((print.names h.path ++ in_round (params_same h.params i)) ++ in_block (stmts_same h.body i))
unit_same (MappingOf m) = λ i. Plain class.MappingWord ∷ ((print.names m.path ++ in_round (params_same m.params i)) ++ (result_same m.result_decl i ++ (extras_same m i ++ mapping_body_same m i)))

units_same : (us : List UnitTerm) → printed.units (map whole.erase_unit us) ≡ printed.units us
units_same [] = refl
units_same (u ∷ us) = λ i. unit_same u i ++ (Line ∷ units_same us i)

model_types_same : (ts : List ModelType) → printed.model_types (map whole.erase_model_type ts) ≡ printed.model_types ts
model_types_same [] = refl
model_types_same (t ∷ ts) = λ i. printed.model_type t ++ (Line ∷ model_types_same ts i)

more_model_params_same : (ps : List ModelParam) → printed.more_model_params (map whole.erase_model_param ps) ≡ printed.more_model_params ps
more_model_params_same [] = refl
more_model_params_same (p ∷ ps) = λ i. Plain class.Comma ∷ (printed.model_param p ++ more_model_params_same ps i)

model_params_same : (ps : List ModelParam) → printed.model_params (map whole.erase_model_param ps) ≡ printed.model_params ps
model_params_same [] = refl
model_params_same (p ∷ ps) = λ i. printed.model_param p ++ more_model_params_same ps i

pieces_same : (m : ModuleTerm) → module_pieces (whole.shape m) ≡ module_pieces m
unfolding module_pieces whole.shape
pieces_same m = λ i. model_types_same m.model_types i ++ (ended (Plain class.TransformationWord ∷ Name m.name ∷ in_round (model_params_same m.params i)) ++ (Line ∷ units_same m.units i))

shape_text : (m : ModuleTerm) → print_text (whole.shape m) ≡ print_text m
unfolding print_text
shape_text m = ap laid_out (pieces_same m)

pub one_text : OneText
one_text m n same = sym (shape_text m) ∙ ap print_text same ∙ shape_text n
