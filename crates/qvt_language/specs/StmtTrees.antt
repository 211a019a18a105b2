-- The trees that the productions of statements make (QVT 1.3, 8.2.2).
use Rattle.std.specs.Prelude.{Bool, true, false, List, [], ◌∷◌, ◌++◌, Option, Some, None, ◌⊎◌}
use Rattle.std.proofs.Common.{inl, inr}
use Rattle.qvt_base.specs.declared.numbers.Place.{Place}
use Rattle.qvt_tree_types.specs.Tree.{TypeTerm, ExprTerm, IfExpr, StepTerm, StmtTerm, VarStmt, AssignStmt, ReturnStmt, ValueStmt, IfStmt, WhileStmt, ForEachStmt, ArmTerm, ArmOf, TargetTerm}
use Rattle.qvt_tree_types.specs.View.{stmts_of, arms_of, optional_expr, optional_else}
use Rattle.qvt_language.specs.declared.named.Named.{Named}
use Rattle.qvt_words.specs.declared.class.Class.{Class}
use Rattle.qvt_words.specs.declared.class.Class.TheVariants.{PlusEqual}
use Rattle.qvt_language.specs.Tokens.{Tok}
use Rattle.qvt_language.specs.Leads.{Lead, Plain, Bracketed, Each, EachPart, EndedBlock}
use Rattle.qvt_language.specs.Trees.{is_there, expr_of, post_of}

abbrev pub var_of : Place × (Tok × (Named × (Option TypeTerm × Option ExprTerm))) → StmtTerm
var_of (place, (w, (n, (kind, value)))) = VarStmt n.text kind (optional_expr value) place

abbrev pub return_of : Place × (Tok × Option ExprTerm) → StmtTerm
return_of (place, (w, value)) = ReturnStmt (optional_expr value) place

abbrev pub arm_of : Tok × (ExprTerm × (Option Tok × List StmtTerm)) → ArmTerm
arm_of (w, (c, (t, body))) = ArmOf c (stmts_of body)

abbrev pub for_each_of : ExprTerm → EachPart → Place → StmtTerm
for_each_of source part place = ForEachStmt source part.name part.kind part.condition (stmts_of part.body) place

-- the blocks of a conditional statement
abbrev pub Branches : Type 0
Branches = List StmtTerm × (List ArmTerm × (Option (List StmtTerm) × Option Tok))

-- the values of a conditional expression, and what stands after it where it begins the source of a `forEach`
abbrev pub Choice : Type 0
Choice = (ExprTerm × ExprTerm) × (List StepTerm × EachPart)

abbrev pub branched : Place → ExprTerm → Branches → StmtTerm
branched place c (body, (arms, (other, e))) = IfStmt c (stmts_of body) (arms_of arms) (optional_else other) place

-- a `forEach` over the expression with the steps
abbrev pub each_over : Place → ExprTerm → List StepTerm × EachPart → StmtTerm
each_over place e (steps, part) = for_each_of (post_of place e steps) part place

abbrev pub choice_expr : Place → ExprTerm → ExprTerm × ExprTerm → ExprTerm
choice_expr place c (one, other) = IfExpr c one other place

abbrev pub chosen : Place → ExprTerm → Choice → StmtTerm
chosen place c (values, rest) = each_over place (choice_expr place c values) rest

abbrev pub if_made : Place → ExprTerm → Branches ⊎ Choice → StmtTerm
if_made place c (inl branches) = branched place c branches
if_made place c (inr choice) = chosen place c choice

abbrev pub if_stmt_of : Place × (Tok × (Lead × (Branches ⊎ Choice))) → StmtTerm
if_stmt_of (place, (w, (c, rest))) = if_made place (expr_of c) rest

abbrev pub while_of : Place × (Tok × (ExprTerm × List StmtTerm)) → StmtTerm
while_of (place, (w, (c, body))) = WhileStmt c (stmts_of body) place

-- The left are items of a block: no statement, or one that stands by itself. The right are statements without their `;`.
abbrev pub TurnTree : Type 0
TurnTree = List StmtTerm ⊎ StmtTerm

abbrev pub empty_turn : Tok → TurnTree
empty_turn t = inl []

abbrev pub closed_turn : StmtTerm → TurnTree
closed_turn s = inl (s ∷ [])

abbrev pub simple_turn : StmtTerm × Option Tok → TurnTree
simple_turn (s, None) = inr s
simple_turn (s, (Some t)) = inl (s ∷ [])

abbrev pub is_adding : Class → Bool
is_adding PlusEqual = true
is_adding _ = false

-- an assignment, where a target is written, else a value
abbrev pub written : Place → ExprTerm → Option TargetTerm → Option (Tok × ExprTerm) → StmtTerm
written place e (Some target) (Some (sign, value)) = AssignStmt target (is_adding sign.class) value sign.place
written place e (Some target) None = ValueStmt e place
written place e None assignment = ValueStmt e place

-- what may stand after an expression at the front of a statement: an assignment, and a `;`
abbrev pub Tail : Type 0
Tail = Option (Tok × ExprTerm) × Option Tok

abbrev pub no_tail : {X : Type 0} → X → Tail
no_tail x = (None, None)

abbrev pub plain_tail : Option Tok → Tail
plain_tail t = (None, t)

abbrev pub lead_turn : Place × (Lead × Tail) → TurnTree
lead_turn (place, ((Plain e target), (assignment, t))) = simple_turn (written place e target assignment, t)
lead_turn (place, ((Bracketed e), (assignment, t))) = simple_turn (ValueStmt e place, t)
lead_turn (place, ((Each e part), tail)) = inl (for_each_of e part place ∷ [])

abbrev pub concat : {A : Type 0} → List (List A) → List A
concat [] = []
concat (as' ∷ more) = as' ++ concat more

abbrev pub last_of : {A : Type 0} → Option A → List A
last_of None = []
last_of (Some a) = a ∷ []

abbrev pub ended_of : List (List StmtTerm) × Option StmtTerm → EndedBlock
ended_of (all, last) = record { stmts = concat all ++ last_of last; open_end = is_there last }

abbrev pub block_of : Tok × (EndedBlock × Tok) → List StmtTerm
block_of (b1, (ended, b2)) = ended.stmts

abbrev pub written_turn : Place → Lead → Tail → TurnTree
written_turn place x tail = lead_turn (place, (x, tail))

-- it is no `forEach`
abbrev pub IsPlainLead : Lead → Type 0
IsPlainLead (Plain e target) = Unit {0}
IsPlainLead (Bracketed e) = Unit {0}
IsPlainLead (Each e part) = ⊥

abbrev pub target_in : Lead → Option TargetTerm
target_in (Plain e target) = target
target_in (Bracketed e) = None
target_in (Each e part) = None
