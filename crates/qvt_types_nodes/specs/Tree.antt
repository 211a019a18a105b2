-- The typed tree as plain data: the tree of a text with a note wherever there is a place (OCL 2.4, 7; QVT 1.3, 8.2
-- and 8.4). A box leaves nothing, and each list has a type of its own.
use Rattle.std.specs.Prelude.{ℕ, ℤ, Bool, List, Option}
use Rattle.qvt_base.specs.declared.numbers.Place.{Place}
use Rattle.qvt_tree_types.specs.declared.words.CollKind.{CollKind}
use Rattle.qvt_tree_types.specs.declared.words.Level.{Level}
use Rattle.qvt_tree_types.specs.declared.words.BinaryOp.{BinaryOp}
use Rattle.qvt_tree_types.specs.declared.words.ResolveWord.{ResolveWord}
use Rattle.qvt_types_data.specs.declared.note.Note.{Note}
use Rattle.qvt_types_nodes.specs.declared.types.TypedPathTree.{TypedPathTree}
use Rattle.qvt_types_nodes.specs.declared.types.TypedObjectVar.{TypedObjectVar}
use Rattle.qvt_types_nodes.specs.declared.types.TypedSign.{TypedSign}

pub data TypedTypeTerm : Type 0 where
  TypedCollType : CollKind → TypedTypeTerm → Place → Note → TypedTypeTerm
  TypedPathType : TypedPathTree → TypedTypeTerm

mutual
  pub data TypedExprTerm : Type 0 where
    TypedIntExpr : ℤ → Place → Note → TypedExprTerm
    TypedStrExpr : List ℕ → Place → Note → TypedExprTerm
    TypedBoolExpr : Bool → Place → Note → TypedExprTerm
    TypedNullExpr : Place → Note → TypedExprTerm
    TypedSelfExpr : Place → Note → TypedExprTerm
    TypedResultExpr : Place → Note → TypedExprTerm
    TypedPathExpr : TypedPathTree → TypedExprTerm
    TypedCallExpr : List ℕ → TypedExprTerms → Place → Note → TypedExprTerm
    TypedCollExpr : CollKind → TypedItemTerms → Place → Note → TypedExprTerm
    -- the condition, the value where it is true, and the other
    TypedIfExpr : TypedExprTerm → TypedExprTerm → TypedExprTerm → Place → Note → TypedExprTerm
    -- the variable, the class, the extent, and the body
    TypedObjectExpr : Option TypedObjectVar → TypedPathTree → Option (List ℕ) → TypedStmtTerms → Place → Note → TypedExprTerm
    TypedNewExpr : TypedPathTree → Option (List ℕ) → TypedExprTerms → Place → Note → TypedExprTerm
    TypedMapExpr : TypedMapTerm → TypedExprTerm
    TypedResolveExpr : TypedResolveTerm → TypedExprTerm
    TypedChainExpr : Level → TypedExprTerm → TypedLinkTerms → Place → Note → TypedExprTerm
    TypedPrefixExpr : List TypedSign → TypedExprTerm → Place → Note → TypedExprTerm
    TypedPostExpr : TypedExprTerm → TypedStepTerms → Place → Note → TypedExprTerm

  pub data TypedExprTerms : Type 0 where
    TypedNoExprs : TypedExprTerms
    TypedMoreExprs : TypedExprTerm → TypedExprTerms → TypedExprTerms

  pub data TypedOptionalExpr : Type 0 where
    TypedNoExpr : TypedOptionalExpr
    TypedSomeExpr : TypedExprTerm → TypedOptionalExpr

  -- the arguments of a step; a step without brackets has none
  pub data TypedOptionalArgs : Type 0 where
    TypedNoArgs : TypedOptionalArgs
    TypedSomeArgs : TypedExprTerms → TypedOptionalArgs

  pub data TypedLinkTerm : Type 0 where
    TypedLinkOf : BinaryOp → TypedExprTerm → Place → Note → TypedLinkTerm

  pub data TypedLinkTerms : Type 0 where
    TypedNoLinks : TypedLinkTerms
    TypedMoreLinks : TypedLinkTerm → TypedLinkTerms → TypedLinkTerms

  pub data TypedItemTerm : Type 0 where
    TypedItemOf : TypedExprTerm → TypedRangeTerm → Place → Note → TypedItemTerm

  -- the end of a range
  pub data TypedRangeTerm : Type 0 where
    TypedNoRange : TypedRangeTerm
    TypedRangeTo : TypedExprTerm → Place → Note → TypedRangeTerm

  pub data TypedItemTerms : Type 0 where
    TypedNoItems : TypedItemTerms
    TypedMoreItems : TypedItemTerm → TypedItemTerms → TypedItemTerms

  -- whether it is an `xmap`, the called name, and the arguments
  pub data TypedMapTerm : Type 0 where
    TypedMapOf : Bool → List ℕ → TypedExprTerms → Place → Note → TypedMapTerm

  -- whether it is late, the word, and the mapping of an `In` form
  pub data TypedResolveTerm : Type 0 where
    TypedResolveOf : Bool → ResolveWord → Option TypedPathTree → TypedFilterTerm → Place → Note → TypedResolveTerm

  pub data TypedFilterTerm : Type 0 where
    TypedNoFilter : TypedFilterTerm
    TypedFilterOf : Option (List ℕ) → TypedTypeTerm → TypedOptionalExpr → Place → Note → TypedFilterTerm

  pub data TypedHeadTerm : Type 0 where
    TypedNoHead : TypedHeadTerm
    TypedHeadOf : List ℕ → Option TypedTypeTerm → TypedAccumulatorTerm → Place → Note → TypedHeadTerm

  pub data TypedAccumulatorTerm : Type 0 where
    TypedNoAccumulator : TypedAccumulatorTerm
    TypedAccumulatorOf : List ℕ → TypedTypeTerm → TypedExprTerm → Place → Note → TypedAccumulatorTerm

  pub data TypedStepTerm : Type 0 where
    TypedDotStep : List ℕ → TypedOptionalArgs → Place → Note → TypedStepTerm
    TypedArrowStep : List ℕ → TypedHeadTerm → TypedExprTerms → Place → Note → TypedStepTerm
    TypedDotMapStep : TypedMapTerm → TypedStepTerm
    TypedArrowMapStep : TypedMapTerm → TypedStepTerm
    TypedDotResolveStep : TypedResolveTerm → TypedStepTerm
    TypedArrowResolveStep : TypedResolveTerm → TypedStepTerm

  pub data TypedStepTerms : Type 0 where
    TypedNoSteps : TypedStepTerms
    TypedMoreSteps : TypedStepTerm → TypedStepTerms → TypedStepTerms

  pub data TypedTargetTerm : Type 0 where
    TypedBareTarget : List ℕ → Place → Note → TypedTargetTerm
    TypedResultTarget : Place → Note → TypedTargetTerm
    TypedMemberTarget : TypedExprTerm → List ℕ → Place → Note → TypedTargetTerm

  pub data TypedStmtTerm : Type 0 where
    TypedVarStmt : List ℕ → Option TypedTypeTerm → TypedOptionalExpr → Place → Note → TypedStmtTerm
    -- the target, whether it is a `+=`, and the value
    TypedAssignStmt : TypedTargetTerm → Bool → TypedExprTerm → Place → Note → TypedStmtTerm
    TypedReturnStmt : TypedOptionalExpr → Place → Note → TypedStmtTerm
    TypedValueStmt : TypedExprTerm → Place → Note → TypedStmtTerm
    -- the condition, the body, the `elif`s and the `else`
    TypedIfStmt : TypedExprTerm → TypedStmtTerms → TypedArmTerms → TypedElseTerm → Place → Note → TypedStmtTerm
    TypedWhileStmt : TypedExprTerm → TypedStmtTerms → Place → Note → TypedStmtTerm
    -- the source, the variable with its type, the condition and the body
    TypedForEachStmt : TypedExprTerm → List ℕ → Option TypedTypeTerm → TypedOptionalExpr → TypedStmtTerms → Place → Note → TypedStmtTerm

  pub data TypedStmtTerms : Type 0 where
    TypedNoStmts : TypedStmtTerms
    TypedMoreStmts : TypedStmtTerm → TypedStmtTerms → TypedStmtTerms

  pub data TypedElseTerm : Type 0 where
    TypedNoElse : TypedElseTerm
    TypedElseOf : TypedStmtTerms → TypedElseTerm

  pub data TypedArmTerm : Type 0 where
    TypedArmOf : TypedExprTerm → TypedStmtTerms → TypedArmTerm

  pub data TypedArmTerms : Type 0 where
    TypedNoArms : TypedArmTerms
    TypedMoreArms : TypedArmTerm → TypedArmTerms → TypedArmTerms
