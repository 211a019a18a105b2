-- The tree of a text as plain data: types, expressions and statements (OCL 2.4, 7; QVT 1.3, 8.2 and 8.4), with their
-- places. A box leaves nothing, and each list has a type of its own.
use Rattle.std.specs.Prelude.{ℕ, ℤ, Bool, List, Option}
use Rattle.qvt_base.specs.declared.numbers.Place.{Place}
use Rattle.qvt_tree_types.specs.declared.words.CollKind.{CollKind}
use Rattle.qvt_tree_types.specs.declared.words.Level.{Level}
use Rattle.qvt_tree_types.specs.declared.words.BinaryOp.{BinaryOp}
use Rattle.qvt_tree_types.specs.declared.words.Sign.{Sign}
use Rattle.qvt_tree_types.specs.declared.words.ResolveWord.{ResolveWord}
use Rattle.qvt_tree_types.specs.declared.types.PathTree.{PathTree}
use Rattle.qvt_tree_types.specs.declared.types.ObjectVar.{ObjectVar}

pub data TypeTerm : Type 0 where
  CollType : CollKind → TypeTerm → Place → TypeTerm
  PathType : PathTree → TypeTerm

mutual
  pub data ExprTerm : Type 0 where
    IntExpr : ℤ → Place → ExprTerm
    StrExpr : List ℕ → Place → ExprTerm
    BoolExpr : Bool → Place → ExprTerm
    NullExpr : Place → ExprTerm
    SelfExpr : Place → ExprTerm
    ResultExpr : Place → ExprTerm
    PathExpr : PathTree → ExprTerm
    CallExpr : List ℕ → ExprTerms → Place → ExprTerm
    CollExpr : CollKind → ItemTerms → Place → ExprTerm
    -- the condition, the value where it is true, and the other
    IfExpr : ExprTerm → ExprTerm → ExprTerm → Place → ExprTerm
    -- the variable, the class, the extent, and the body
    ObjectExpr : Option ObjectVar → PathTree → Option (List ℕ) → StmtTerms → Place → ExprTerm
    NewExpr : PathTree → Option (List ℕ) → ExprTerms → Place → ExprTerm
    MapExpr : MapTerm → ExprTerm
    ResolveExpr : ResolveTerm → ExprTerm
    ChainExpr : Level → ExprTerm → LinkTerms → Place → ExprTerm
    PrefixExpr : List Sign → ExprTerm → Place → ExprTerm
    PostExpr : ExprTerm → StepTerms → Place → ExprTerm

  pub data ExprTerms : Type 0 where
    NoExprs : ExprTerms
    MoreExprs : ExprTerm → ExprTerms → ExprTerms

  pub data OptionalExpr : Type 0 where
    NoExpr : OptionalExpr
    SomeExpr : ExprTerm → OptionalExpr

  -- the arguments of a step; a step without brackets has none
  pub data OptionalArgs : Type 0 where
    NoArgs : OptionalArgs
    SomeArgs : ExprTerms → OptionalArgs

  pub data LinkTerm : Type 0 where
    LinkOf : BinaryOp → ExprTerm → Place → LinkTerm

  pub data LinkTerms : Type 0 where
    NoLinks : LinkTerms
    MoreLinks : LinkTerm → LinkTerms → LinkTerms

  pub data ItemTerm : Type 0 where
    ItemOf : ExprTerm → RangeTerm → Place → ItemTerm

  -- the end of a range
  pub data RangeTerm : Type 0 where
    NoRange : RangeTerm
    RangeTo : ExprTerm → Place → RangeTerm

  pub data ItemTerms : Type 0 where
    NoItems : ItemTerms
    MoreItems : ItemTerm → ItemTerms → ItemTerms

  -- whether it is an `xmap`, the called name, and the arguments
  pub data MapTerm : Type 0 where
    MapOf : Bool → List ℕ → ExprTerms → Place → MapTerm

  -- whether it is late, the word, and the mapping of an `In` form
  pub data ResolveTerm : Type 0 where
    ResolveOf : Bool → ResolveWord → Option PathTree → FilterTerm → Place → ResolveTerm

  pub data FilterTerm : Type 0 where
    NoFilter : FilterTerm
    FilterOf : Option (List ℕ) → TypeTerm → OptionalExpr → Place → FilterTerm

  pub data HeadTerm : Type 0 where
    NoHead : HeadTerm
    HeadOf : List ℕ → Option TypeTerm → AccumulatorTerm → Place → HeadTerm

  pub data AccumulatorTerm : Type 0 where
    NoAccumulator : AccumulatorTerm
    AccumulatorOf : List ℕ → TypeTerm → ExprTerm → Place → AccumulatorTerm

  pub data StepTerm : Type 0 where
    DotStep : List ℕ → OptionalArgs → Place → StepTerm
    ArrowStep : List ℕ → HeadTerm → ExprTerms → Place → StepTerm
    DotMapStep : MapTerm → StepTerm
    ArrowMapStep : MapTerm → StepTerm
    DotResolveStep : ResolveTerm → StepTerm
    ArrowResolveStep : ResolveTerm → StepTerm

  pub data StepTerms : Type 0 where
    NoSteps : StepTerms
    MoreSteps : StepTerm → StepTerms → StepTerms

  pub data TargetTerm : Type 0 where
    BareTarget : List ℕ → Place → TargetTerm
    ResultTarget : Place → TargetTerm
    MemberTarget : ExprTerm → List ℕ → Place → TargetTerm

  pub data StmtTerm : Type 0 where
    VarStmt : List ℕ → Option TypeTerm → OptionalExpr → Place → StmtTerm
    -- the target, whether it is a `+=`, and the value
    AssignStmt : TargetTerm → Bool → ExprTerm → Place → StmtTerm
    ReturnStmt : OptionalExpr → Place → StmtTerm
    ValueStmt : ExprTerm → Place → StmtTerm
    -- the condition, the body, the `elif`s and the `else`
    IfStmt : ExprTerm → StmtTerms → ArmTerms → ElseTerm → Place → StmtTerm
    WhileStmt : ExprTerm → StmtTerms → Place → StmtTerm
    -- the source, the variable with its type, the condition and the body
    ForEachStmt : ExprTerm → List ℕ → Option TypeTerm → OptionalExpr → StmtTerms → Place → StmtTerm

  pub data StmtTerms : Type 0 where
    NoStmts : StmtTerms
    MoreStmts : StmtTerm → StmtTerms → StmtTerms

  pub data ElseTerm : Type 0 where
    NoElse : ElseTerm
    ElseOf : StmtTerms → ElseTerm

  pub data ArmTerm : Type 0 where
    ArmOf : ExprTerm → StmtTerms → ArmTerm

  pub data ArmTerms : Type 0 where
    NoArms : ArmTerms
    MoreArms : ArmTerm → ArmTerms → ArmTerms
