-- The pieces of the printed text of types, expressions and statements (OCL 2.4, 7; QVT 1.3, 8.4).
use Rattle.std.specs.Prelude.{ℕ, Bool, true, false, List, [], ◌∷◌, ◌++◌, Option, Some, None}
use Rattle.qvt_tree_types.specs.Tree.{TypeTerm, CollType, PathType, ExprTerm, ExprTerms, OptionalExpr, OptionalArgs, LinkTerm, LinkTerms, ItemTerm, RangeTerm, ItemTerms, MapTerm, ResolveTerm, FilterTerm, HeadTerm, AccumulatorTerm, StepTerm, StepTerms, TargetTerm, StmtTerm, StmtTerms, ElseTerm, ArmTerm, ArmTerms}
use Rattle.qvt_tree_types.specs.Tree.{IntExpr, StrExpr, BoolExpr, NullExpr, SelfExpr, ResultExpr, PathExpr, CallExpr, CollExpr, IfExpr, ObjectExpr, NewExpr, MapExpr, ResolveExpr, ChainExpr, PrefixExpr, PostExpr, NoExprs, MoreExprs, NoExpr, SomeExpr, NoArgs, SomeArgs, LinkOf, NoLinks, MoreLinks, ItemOf, NoRange, RangeTo, NoItems, MoreItems, MapOf, ResolveOf, NoFilter, FilterOf, NoHead, HeadOf, NoAccumulator, AccumulatorOf, DotStep, ArrowStep, DotMapStep, ArrowMapStep, DotResolveStep, ArrowResolveStep, NoSteps, MoreSteps, BareTarget, ResultTarget, MemberTarget, VarStmt, AssignStmt, ReturnStmt, ValueStmt, IfStmt, WhileStmt, ForEachStmt, NoStmts, MoreStmts, NoElse, ElseOf, ArmOf, NoArms, MoreArms}
use Rattle.qvt_tree_types.specs.declared.types.PathTree.{PathTree}
use Rattle.qvt_tree_types.specs.declared.types.ObjectVar.{ObjectVar}
use Rattle.qvt_tree_types.specs.declared.types.ObjectVar.TheVariants.{Named, ResultVar}
use Rattle.qvt_tree_types.specs.declared.words.Level.{Level}
use Rattle.qvt_tree_types.specs.declared.words.Sign.{Sign}
use Rattle.qvt_language.specs.declared.class.Class.{Class}
use Rattle.qvt_language.specs.declared.class.Class.TheVariants as class
use Rattle.qvt_printer_layout.specs.declared.piece.PrintPiece.{PrintPiece}
use Rattle.qvt_printer_layout.specs.declared.piece.PrintPiece.TheVariants.{Plain, Name, Integer, Quoted, Tight, Line, Indent, Dedent}
use Rattle.qvt_printer_layout.specs.Words.{kind_word, operator_sign, prefix_sign, resolve_word, truth_word, map_word, assign_sign}
use Rattle.qvt_printer.specs.Levels.{is_as_loose, is_chain, is_chain_or_prefix}

abbrev pub one : Class → List PrintPiece
one c = Plain c ∷ []

abbrev pub in_round : List PrintPiece → List PrintPiece
in_round ps = Plain class.OpenRound ∷ (ps ++ one class.CloseRound)

abbrev pub round_if : Bool → List PrintPiece → List PrintPiece
round_if true ps = in_round ps
round_if false ps = ps

-- each name after a `::`
abbrev pub more_names : List (List ℕ) → List PrintPiece
more_names [] = []
more_names (n ∷ ns) = Plain class.DoubleColon ∷ Name n ∷ more_names ns

abbrev pub names : List (List ℕ) → List PrintPiece
names [] = []
names (n ∷ ns) = Name n ∷ more_names ns

abbrev pub path : PathTree → List PrintPiece
path p = names p.names

abbrev pub more_paths : List PathTree → List PrintPiece
more_paths [] = []
more_paths (p ∷ ps) = Plain class.Comma ∷ (path p ++ more_paths ps)

abbrev pub paths : List PathTree → List PrintPiece
paths [] = []
paths (p ∷ ps) = path p ++ more_paths ps

abbrev pub type_of : TypeTerm → List PrintPiece
type_of (CollType kind item place) = Plain (kind_word kind) ∷ in_round (type_of item)
type_of (PathType p) = path p

-- `: type`
abbrev pub typed : TypeTerm → List PrintPiece
typed t = Plain class.Colon ∷ type_of t

abbrev pub typed_if : Option TypeTerm → List PrintPiece
typed_if None = []
typed_if (Some t) = typed t

-- `@name`
abbrev pub extent : Option (List ℕ) → List PrintPiece
extent None = []
extent (Some n) = Plain class.AtSign ∷ Name n ∷ []

-- `name :` or `result :`
abbrev pub variable : Option ObjectVar → List PrintPiece
variable None = []
variable (Some (Named n place)) = Name n ∷ Plain class.Colon ∷ []
variable (Some (ResultVar place)) = Plain class.ResultWord ∷ Plain class.Colon ∷ []

abbrev pub signs : List Sign → List PrintPiece
signs [] = []
signs (s ∷ ss) = Plain (prefix_sign s.op) ∷ signs ss

abbrev pub late_if : Bool → List PrintPiece
late_if true = one class.LateWord
late_if false = []

-- `name :`
abbrev pub named_if : Option (List ℕ) → List PrintPiece
named_if None = []
named_if (Some n) = Name n ∷ Plain class.Colon ∷ []

-- `{`, each part on a line two blanks further to the right, and `}` on a line
abbrev pub in_block : List PrintPiece → List PrintPiece
in_block ps = Plain class.OpenBrace ∷ Indent ∷ (ps ++ (Dedent ∷ Line ∷ Plain class.CloseBrace ∷ []))

-- the braces of a collection literal, without blanks
abbrev pub in_items : List PrintPiece → List PrintPiece
in_items ps = Tight ∷ Plain class.OpenBrace ∷ Tight ∷ (ps ++ (Tight ∷ Plain class.CloseBrace ∷ []))

abbrev pub comma_if : Bool → List PrintPiece
comma_if true = one class.Comma
comma_if false = []

abbrev pub ended : List PrintPiece → List PrintPiece
ended ps = ps ++ one class.Semicolon

-- the value of a condition, the value else
abbrev pub conditional : List PrintPiece → List PrintPiece → List PrintPiece → List PrintPiece
conditional condition one_value other = Plain class.IfWord ∷ (condition ++ (Plain class.ThenWord ∷ (one_value ++ (Plain class.ElseWord ∷ (other ++ one class.EndifWord)))))

-- the variable of a `forEach` with its type, and its condition
abbrev pub iterator : List ℕ → Option TypeTerm → List PrintPiece → List PrintPiece
iterator name kind condition = in_round (Name name ∷ (typed_if kind ++ condition))

abbrev mutual
  pub expr : ExprTerm → List PrintPiece
  expr (IntExpr value place) = Integer value ∷ []
  expr (StrExpr value place) = Quoted value ∷ []
  expr (BoolExpr value place) = one (truth_word value)
  expr (NullExpr place) = one class.NullWord
  expr (SelfExpr place) = one class.SelfWord
  expr (ResultExpr place) = one class.ResultWord
  expr (PathExpr p) = path p
  expr (CallExpr name args place) = Name name ∷ in_round (exprs false args)
  expr (CollExpr kind items place) = Plain (kind_word kind) ∷ in_items (all_items false items)
  expr (IfExpr condition one_value other place) = conditional (expr condition) (expr one_value) (expr other)
  expr (ObjectExpr var p extent_name body place) = Plain class.ObjectWord ∷ (variable var ++ (path p ++ (extent extent_name ++ in_block (stmts body))))
  expr (NewExpr p extent_name args place) = Plain class.NewWord ∷ (path p ++ (extent extent_name ++ in_round (exprs false args)))
  expr (MapExpr call) = map_call call
  expr (ResolveExpr call) = resolve call
  expr (ChainExpr level first rest place) = round_if (is_as_loose level first) (expr first) ++ links level rest
  expr (PrefixExpr before e place) = signs before ++ round_if (is_chain e) (expr e)
  expr (PostExpr first after place) = round_if (is_chain_or_prefix first) (expr first) ++ steps after

  -- expressions with commas between them, and one before the first where it is asked for
  pub exprs : Bool → ExprTerms → List PrintPiece
  exprs comma NoExprs = []
  exprs comma (MoreExprs e es) = comma_if comma ++ (expr e ++ exprs true es)

  pub links : Level → LinkTerms → List PrintPiece
  links level NoLinks = []
  links level (MoreLinks l ls) = link level l ++ links level ls

  pub link : Level → LinkTerm → List PrintPiece
  link level (LinkOf op e place) = Plain (operator_sign op) ∷ round_if (is_as_loose level e) (expr e)

  -- items likewise
  pub all_items : Bool → ItemTerms → List PrintPiece
  all_items comma NoItems = []
  all_items comma (MoreItems i is) = comma_if comma ++ (item i ++ all_items true is)

  pub item : ItemTerm → List PrintPiece
  item (ItemOf first last place) = expr first ++ range last

  pub range : RangeTerm → List PrintPiece
  range NoRange = []
  range (RangeTo last place) = Plain class.DotDot ∷ expr last

  pub map_call : MapTerm → List PrintPiece
  map_call (MapOf strict name args place) = Plain (map_word strict) ∷ Name name ∷ in_round (exprs false args)

  pub resolve : ResolveTerm → List PrintPiece
  resolve (ResolveOf late word within by place) = late_if late ++ (Plain (resolve_word word) ∷ in_round (resolved within by))

  -- the mapping of an `In` form, and the filter
  pub resolved : Option PathTree → FilterTerm → List PrintPiece
  resolved None NoFilter = []
  resolved None (FilterOf name kind condition place) = named_if name ++ (type_of kind ++ condition_if condition)
  resolved (Some p) NoFilter = path p
  resolved (Some p) (FilterOf name kind condition place) = path p ++ (Plain class.Comma ∷ (named_if name ++ (type_of kind ++ condition_if condition)))

  -- `| condition`
  pub condition_if : OptionalExpr → List PrintPiece
  condition_if NoExpr = []
  condition_if (SomeExpr e) = Plain class.Bar ∷ expr e

  -- `name : type; name : type = first |`
  pub head : HeadTerm → List PrintPiece
  head NoHead = []
  head (HeadOf name kind accumulated place) = Name name ∷ (typed_if kind ++ (accumulator accumulated ++ one class.Bar))

  pub accumulator : AccumulatorTerm → List PrintPiece
  accumulator NoAccumulator = []
  accumulator (AccumulatorOf name kind first place) = Plain class.Semicolon ∷ Name name ∷ (typed kind ++ (Plain class.EqualSign ∷ expr first))

  pub steps : StepTerms → List PrintPiece
  steps NoSteps = []
  steps (MoreSteps s ss) = step s ++ steps ss

  pub step : StepTerm → List PrintPiece
  step (DotStep name args place) = Plain class.Dot ∷ Name name ∷ args_if args
  step (ArrowStep name h args place) = Plain class.Arrow ∷ Name name ∷ in_round (head h ++ exprs false args)
  step (DotMapStep call) = Plain class.Dot ∷ map_call call
  step (ArrowMapStep call) = Plain class.Arrow ∷ map_call call
  step (DotResolveStep call) = Plain class.Dot ∷ resolve call
  step (ArrowResolveStep call) = Plain class.Arrow ∷ resolve call

  pub args_if : OptionalArgs → List PrintPiece
  args_if NoArgs = []
  args_if (SomeArgs args) = in_round (exprs false args)

  pub target : TargetTerm → List PrintPiece
  target (BareTarget name place) = Name name ∷ []
  target (ResultTarget place) = one class.ResultWord
  target (MemberTarget object name place) = round_if (is_chain_or_prefix object) (expr object) ++ (Plain class.Dot ∷ Name name ∷ [])

  pub stmt : StmtTerm → List PrintPiece
  stmt (VarStmt name kind value place) = ended (Plain class.VarWord ∷ Name name ∷ (typed_if kind ++ first_value value))
  stmt (AssignStmt t adds value place) = ended (target t ++ (Plain (assign_sign adds) ∷ expr value))
  stmt (ReturnStmt value place) = ended (Plain class.ReturnWord ∷ optional value)
  stmt (ValueStmt value place) = ended (expr value)
  stmt (IfStmt condition body elifs otherwise place) = Plain class.IfWord ∷ (in_round (expr condition) ++ (in_block (stmts body) ++ (arms elifs ++ else_if otherwise)))
  stmt (WhileStmt condition body place) = Plain class.WhileWord ∷ (in_round (expr condition) ++ in_block (stmts body))
  stmt (ForEachStmt source name kind condition body place) =
      round_if (is_chain_or_prefix source) (expr source) ++ (Plain class.Arrow ∷ Plain class.ForEachWord ∷ (iterator name kind (condition_if condition) ++ in_block (stmts body)))

  pub optional : OptionalExpr → List PrintPiece
  optional NoExpr = []
  optional (SomeExpr e) = expr e

  -- `:= value`
  pub first_value : OptionalExpr → List PrintPiece
  first_value NoExpr = []
  first_value (SomeExpr e) = Plain class.Becomes ∷ expr e

  pub arms : ArmTerms → List PrintPiece
  arms NoArms = []
  arms (MoreArms a as_) = arm a ++ arms as_

  pub arm : ArmTerm → List PrintPiece
  arm (ArmOf condition body) = Plain class.ElifWord ∷ (in_round (expr condition) ++ in_block (stmts body))

  pub else_if : ElseTerm → List PrintPiece
  else_if NoElse = []
  else_if (ElseOf body) = Plain class.ElseWord ∷ in_block (stmts body)

  pub stmts : StmtTerms → List PrintPiece
  stmts NoStmts = []
  stmts (MoreStmts s ss) = Line ∷ (stmt s ++ stmts ss)

abbrev pub filter : FilterTerm → List PrintPiece
filter NoFilter = []
filter (FilterOf name kind condition place) = named_if name ++ (type_of kind ++ condition_if condition)

-- an operand of a chain of this level, of a prefix, and the first of a post, each in brackets where it has to
abbrev pub operand : Level → ExprTerm → List PrintPiece
operand level e = round_if (is_as_loose level e) (expr e)

abbrev pub prefixed : ExprTerm → List PrintPiece
prefixed e = round_if (is_chain e) (expr e)

abbrev pub post_first : ExprTerm → List PrintPiece
post_first e = round_if (is_chain_or_prefix e) (expr e)

abbrev pub block : StmtTerms → List PrintPiece
block body = in_block (stmts body)
