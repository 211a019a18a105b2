-- What the rows of the grammar make of their parts, where the parts are taken otherwise than the parser takes them (OCL 2.4, 7;
-- QVT 1.3, 8.2).
use Rattle.std.specs.Prelude.{◌≡◌, ℕ, List, [], ◌∷◌, ◌++◌, Option, Some, None, ◌⊎◌}
use Rattle.std.proofs.Common.{inl, inr}
use Rattle.qvt_base.specs.declared.numbers.Place.{Place}
use Rattle.qvt_tree_types.specs.Tree.{TypeTerm, ExprTerm, CallExpr, ObjectExpr, ChainExpr, LinkTerm, LinkOf, FilterTerm, FilterOf, HeadTerm, NoHead, AccumulatorTerm, StepTerm, TargetTerm, BareTarget, ResultTarget, MemberTarget, StmtTerm, AssignStmt, ValueStmt}
use Rattle.qvt_tree_types.specs.Module.{UnitTerm}
use Rattle.qvt_tree_types.specs.View.{exprs_of, links_of, stmts_of, optional_expr}
use Rattle.qvt_tree_types.specs.declared.types.PathTree.{PathTree}
use Rattle.qvt_tree_types.specs.declared.types.ObjectVar.{ObjectVar}
use Rattle.qvt_tree_types.specs.declared.types.ObjectVar.TheVariants as variables
use Rattle.qvt_tree_types.specs.declared.words.Level.{Level}
use Rattle.qvt_tree_types.specs.declared.words.Sign.{Sign}
use Rattle.qvt_language.specs.declared.named.Named.{Named}
use Rattle.qvt_language.specs.declared.class.Class.TheVariants.{InheritsWord, MergesWord, DisjunctsWord, WhenWord}
use Rattle.qvt_language.specs.Tokens.{Tok, code_of}
use Rattle.qvt_language.specs.Leads.{EachPart}
use Rattle.qvt_language.specs.Trees.{binary_op, headed, signed, post_of}
use Rattle.qvt_language.specs.StmtTrees.{for_each_of, is_adding, last_of}
use Rattle.qvt_language.specs.UnitTrees.{ClauseTree, ClausesTree, InheritsClause, MergesClause, DisjunctsClause, WhenClause, with_clause, no_clauses}

-- expressions

abbrev pub call_of : Named × List ExprTerm → ExprTerm
call_of (n, args) = CallExpr n.text (exprs_of args) n.place

abbrev pub named_var : Named → ObjectVar
named_var n = variables.Named n.text n.place

abbrev pub result_var : Tok → ObjectVar
result_var t = variables.ResultVar t.place

abbrev pub object_of : Tok × (Option ObjectVar × (PathTree × (Option (List ℕ) × List StmtTerm))) → ExprTerm
object_of (w, (variable, (path, (extent, body)))) = ObjectExpr variable path extent (stmts_of body) w.place

abbrev pub name_text : Option Named → Option (List ℕ)
name_text None = None
name_text (Some n) = Some n.text

abbrev pub filter_of : Place × (Option Named × (TypeTerm × Option ExprTerm)) → FilterTerm
filter_of (place, (n, (kind, condition))) = FilterOf (name_text n) kind (optional_expr condition) place

-- the arguments of a step after an arrow: a head with its one body, or any number of expressions

abbrev pub headed_body : (Named × (Option TypeTerm × Option AccumulatorTerm)) × ExprTerm → HeadTerm × List ExprTerm
headed_body ((n, (kind, accumulator)), body) = headed n.text n.place (kind, (accumulator, body))

abbrev pub without_head : List ExprTerm → HeadTerm × List ExprTerm
without_head es = (NoHead, es)

abbrev pub or_no_args : Option (HeadTerm × List ExprTerm) → HeadTerm × List ExprTerm
or_no_args None = (NoHead, [])
or_no_args (Some args) = args

-- an expression without steps, signs or links is its one part
abbrev pub stepped_of : Place × (ExprTerm × List StepTerm) → ExprTerm
stepped_of (place, (e, steps)) = post_of place e steps

abbrev pub signed_of : Place × (List Sign × ExprTerm) → ExprTerm
signed_of (place, ([], e)) = e
signed_of (place, ((s ∷ more), e)) = signed place (s ∷ more) e

abbrev pub linked : Tok × ExprTerm → LinkTerm
linked (sign, e) = LinkOf (binary_op sign.class) e sign.place

abbrev pub chained : Level → Place × (ExprTerm × List LinkTerm) → ExprTerm
chained level (place, (e, [])) = e
chained level (place, (e, (l ∷ ls))) = ChainExpr level e (links_of (l ∷ ls)) place

-- statements

abbrev pub named_target : Named → TargetTerm
named_target n = BareTarget n.text n.place

abbrev pub result_target : Tok → TargetTerm
result_target t = ResultTarget t.place

abbrev pub feature_target : ExprTerm × Named → TargetTerm
feature_target (e, n) = MemberTarget e n.text n.place

abbrev pub assign_of : TargetTerm × (Tok × ExprTerm) → StmtTerm
assign_of (target, (sign, value)) = AssignStmt target (is_adding sign.class) value sign.place

abbrev pub value_of : Place × ExprTerm → StmtTerm
value_of (place, e) = ValueStmt e place

abbrev pub loop_of : Place × (ExprTerm × EachPart) → StmtTerm
loop_of (place, (source, part)) = for_each_of source part place

abbrev pub no_stmts : {X : Type 0} → X → List StmtTerm
no_stmts x = []

abbrev pub single : {A : Type 0} → A → List A
single a = a ∷ []

abbrev pub with_last : List StmtTerm × Option StmtTerm → List StmtTerm
with_last (all, last) = all ++ last_of last

-- units

abbrev pub no_units : {X : Type 0} → X → List UnitTerm
no_units x = []

abbrev pub open_sections : List StmtTerm × (Option StmtTerm ⊎ List StmtTerm) → List StmtTerm × List StmtTerm
open_sections (all, (inl last)) = (all ++ last_of last, [])
open_sections (all, (inr finish)) = (all, finish)

-- which of the four kinds of Extra it is, by its word
abbrev pub kind_of : ClauseTree → ℕ
kind_of (InheritsClause paths) = code_of InheritsWord
kind_of (MergesClause paths) = code_of MergesWord
kind_of (DisjunctsClause paths) = code_of DisjunctsWord
kind_of (WhenClause e) = code_of WhenWord

abbrev pub IsOther : ClauseTree → List ClauseTree → Type 0
IsOther c [] = Unit {0}
IsOther c (d ∷ more) = (kind_of c ≡ kind_of d → ⊥) × IsOther c more

-- each kind at most once
abbrev pub AreOnce : List ClauseTree → Type 0
AreOnce [] = Unit {0}
AreOnce (c ∷ more) = IsOther c more × AreOnce more

abbrev pub with_clauses : ClausesTree → List ClauseTree → ClausesTree
with_clauses x [] = x
with_clauses x (c ∷ more) = with_clauses (with_clause x c) more

abbrev pub clauses_of : List ClauseTree → ClausesTree
clauses_of = with_clauses no_clauses
