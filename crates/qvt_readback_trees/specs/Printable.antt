-- The trees whose printed text can be read again (QVT 1.3, 8.4): no value statement and no assignment has a conditional as
-- its leftmost part, unless brackets are printed round it.
use Rattle.std.specs.Prelude.{Bool, true, false, ◌≡◌, ⊤, List, [], ◌∷◌, if◌then◌else◌}
use Rattle.qvt_tree_types.specs.Tree.{ExprTerm, ExprTerms, OptionalExpr, OptionalArgs, LinkTerm, LinkTerms, ItemTerm, RangeTerm, ItemTerms, MapTerm, ResolveTerm, FilterTerm, HeadTerm, AccumulatorTerm, StepTerm, StepTerms, TargetTerm, StmtTerm, StmtTerms, ElseTerm, ArmTerm, ArmTerms}
use Rattle.qvt_tree_types.specs.Tree.{CallExpr, CollExpr, IfExpr, ObjectExpr, NewExpr, MapExpr, ResolveExpr, ChainExpr, PrefixExpr, PostExpr, NoExprs, MoreExprs, NoExpr, SomeExpr, NoArgs, SomeArgs, LinkOf, NoLinks, MoreLinks, ItemOf, NoRange, RangeTo, NoItems, MoreItems, MapOf, ResolveOf, NoFilter, FilterOf, NoHead, HeadOf, NoAccumulator, AccumulatorOf, DotStep, ArrowStep, DotMapStep, ArrowMapStep, DotResolveStep, ArrowResolveStep, NoSteps, MoreSteps, MemberTarget, VarStmt, AssignStmt, ReturnStmt, ValueStmt, IfStmt, WhileStmt, ForEachStmt, NoStmts, MoreStmts, NoElse, ElseOf, ArmOf, NoArms, MoreArms}
use Rattle.qvt_tree_types.specs.Module.{UnitTerm, ClassOf, MainOf, HelperOf, ConstructorOf, MappingOf, ModuleTerm}
use Rattle.qvt_printer.specs.Levels.{is_as_loose, is_chain_or_prefix}

-- whether the printed text of the expression begins with `if`
abbrev pub begins_with_if : ExprTerm → Bool
begins_with_if (IfExpr condition one_value other place) = true
begins_with_if (ChainExpr level first rest place) = if is_as_loose level first then false else begins_with_if first
begins_with_if (PostExpr first steps place) = if is_chain_or_prefix first then false else begins_with_if first
begins_with_if e = false

abbrev pub target_begins_with_if : TargetTerm → Bool
target_begins_with_if (MemberTarget object name place) = if is_chain_or_prefix object then false else begins_with_if object
target_begins_with_if t = false

-- the same of all statements inside, also of those in the bodies of object expressions
abbrev mutual
  pub IsPrintableExpr : ExprTerm → Type 0
  IsPrintableExpr (CallExpr name args place) = ArePrintableExprs args
  IsPrintableExpr (CollExpr kind items place) = ArePrintableItems items
  IsPrintableExpr (IfExpr condition one_value other place) = IsPrintableExpr condition × IsPrintableExpr one_value × IsPrintableExpr other
  IsPrintableExpr (ObjectExpr variable path extent body place) = ArePrintableStmts body
  IsPrintableExpr (NewExpr path extent args place) = ArePrintableExprs args
  IsPrintableExpr (MapExpr call) = IsPrintableMap call
  IsPrintableExpr (ResolveExpr call) = IsPrintableResolve call
  IsPrintableExpr (ChainExpr level first rest place) = IsPrintableExpr first × ArePrintableLinks rest
  IsPrintableExpr (PrefixExpr signs operand place) = IsPrintableExpr operand
  IsPrintableExpr (PostExpr first steps place) = IsPrintableExpr first × ArePrintableSteps steps
  IsPrintableExpr e = ⊤

  pub ArePrintableExprs : ExprTerms → Type 0
  ArePrintableExprs NoExprs = ⊤
  ArePrintableExprs (MoreExprs e es) = IsPrintableExpr e × ArePrintableExprs es

  pub IsPrintableOptional : OptionalExpr → Type 0
  IsPrintableOptional NoExpr = ⊤
  IsPrintableOptional (SomeExpr e) = IsPrintableExpr e

  pub ArePrintableArgs : OptionalArgs → Type 0
  ArePrintableArgs NoArgs = ⊤
  ArePrintableArgs (SomeArgs es) = ArePrintableExprs es

  pub IsPrintableLink : LinkTerm → Type 0
  IsPrintableLink (LinkOf op operand place) = IsPrintableExpr operand

  pub ArePrintableLinks : LinkTerms → Type 0
  ArePrintableLinks NoLinks = ⊤
  ArePrintableLinks (MoreLinks l ls) = IsPrintableLink l × ArePrintableLinks ls

  pub IsPrintableItem : ItemTerm → Type 0
  IsPrintableItem (ItemOf first last place) = IsPrintableExpr first × IsPrintableRange last

  pub IsPrintableRange : RangeTerm → Type 0
  IsPrintableRange NoRange = ⊤
  IsPrintableRange (RangeTo last place) = IsPrintableExpr last

  pub ArePrintableItems : ItemTerms → Type 0
  ArePrintableItems NoItems = ⊤
  ArePrintableItems (MoreItems i is) = IsPrintableItem i × ArePrintableItems is

  pub IsPrintableMap : MapTerm → Type 0
  IsPrintableMap (MapOf strict name args place) = ArePrintableExprs args

  pub IsPrintableResolve : ResolveTerm → Type 0
  IsPrintableResolve (ResolveOf late word within by place) = IsPrintableFilter by

  pub IsPrintableFilter : FilterTerm → Type 0
  IsPrintableFilter NoFilter = ⊤
  IsPrintableFilter (FilterOf name kind condition place) = IsPrintableOptional condition

  pub IsPrintableHead : HeadTerm → Type 0
  IsPrintableHead NoHead = ⊤
  IsPrintableHead (HeadOf name kind accumulator place) = IsPrintableAccumulator accumulator

  pub IsPrintableAccumulator : AccumulatorTerm → Type 0
  IsPrintableAccumulator NoAccumulator = ⊤
  IsPrintableAccumulator (AccumulatorOf name kind first place) = IsPrintableExpr first

  pub IsPrintableStep : StepTerm → Type 0
  IsPrintableStep (DotStep name args place) = ArePrintableArgs args
  IsPrintableStep (ArrowStep name head args place) = IsPrintableHead head × ArePrintableExprs args
  IsPrintableStep (DotMapStep call) = IsPrintableMap call
  IsPrintableStep (ArrowMapStep call) = IsPrintableMap call
  IsPrintableStep (DotResolveStep call) = IsPrintableResolve call
  IsPrintableStep (ArrowResolveStep call) = IsPrintableResolve call

  pub ArePrintableSteps : StepTerms → Type 0
  ArePrintableSteps NoSteps = ⊤
  ArePrintableSteps (MoreSteps s ss) = IsPrintableStep s × ArePrintableSteps ss

  pub IsPrintableTarget : TargetTerm → Type 0
  IsPrintableTarget (MemberTarget object name place) = IsPrintableExpr object
  IsPrintableTarget t = ⊤

  pub IsPrintableStmt : StmtTerm → Type 0
  IsPrintableStmt (VarStmt name kind value place) = IsPrintableOptional value
  IsPrintableStmt (AssignStmt target adds value place) = (target_begins_with_if target ≡ false) × IsPrintableTarget target × IsPrintableExpr value
  IsPrintableStmt (ReturnStmt value place) = IsPrintableOptional value
  IsPrintableStmt (ValueStmt value place) = (begins_with_if value ≡ false) × IsPrintableExpr value
  IsPrintableStmt (IfStmt condition body arms otherwise place) = IsPrintableExpr condition × ArePrintableStmts body × ArePrintableArms arms × IsPrintableElse otherwise
  IsPrintableStmt (WhileStmt condition body place) = IsPrintableExpr condition × ArePrintableStmts body
  IsPrintableStmt (ForEachStmt source name kind condition body place) = IsPrintableExpr source × IsPrintableOptional condition × ArePrintableStmts body

  pub ArePrintableStmts : StmtTerms → Type 0
  ArePrintableStmts NoStmts = ⊤
  ArePrintableStmts (MoreStmts s ss) = IsPrintableStmt s × ArePrintableStmts ss

  pub IsPrintableElse : ElseTerm → Type 0
  IsPrintableElse NoElse = ⊤
  IsPrintableElse (ElseOf body) = ArePrintableStmts body

  pub IsPrintableArm : ArmTerm → Type 0
  IsPrintableArm (ArmOf condition body) = IsPrintableExpr condition × ArePrintableStmts body

  pub ArePrintableArms : ArmTerms → Type 0
  ArePrintableArms NoArms = ⊤
  ArePrintableArms (MoreArms a as_) = IsPrintableArm a × ArePrintableArms as_

abbrev pub IsPrintableUnit : UnitTerm → Type 0
IsPrintableUnit (ClassOf c) = ⊤
IsPrintableUnit (MainOf body place) = ArePrintableStmts body
IsPrintableUnit (HelperOf h) = ArePrintableStmts h.body
IsPrintableUnit (ConstructorOf h) = ArePrintableStmts h.body
IsPrintableUnit (MappingOf m) = IsPrintableOptional m.condition × ArePrintableStmts m.init × ArePrintableStmts m.population × ArePrintableStmts m.finish

abbrev pub ArePrintableUnits : List UnitTerm → Type 0
ArePrintableUnits [] = ⊤
ArePrintableUnits (u ∷ us) = IsPrintableUnit u × ArePrintableUnits us

abbrev pub IsPrintable : ModuleTerm → Type 0
IsPrintable m = ArePrintableUnits m.units
