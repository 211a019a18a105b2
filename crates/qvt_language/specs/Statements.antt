-- The productions of statements and blocks (QVT 1.3, 8.2.2 and 8.4).
use Rattle.std.specs.Prelude.{List, Option, Some, None, ◌⊎◌}
use Rattle.std.proofs.Common.{inl, inr}
use Rattle.qvt_tree_types.specs.Tree.{ExprTerm, StmtTerm, ArmTerm}
use Rattle.qvt_grammar.specs.Language.{Language, then, either, follow, many, made, empty, maybe}
use Rattle.qvt_words.specs.declared.class.Class.TheVariants.{OpenRound, CloseRound, OpenBrace, CloseBrace, Semicolon, Becomes, PlusEqual, ElifWord, ElseWord, EndifWord, IfWord, ReturnWord, ThenWord, VarWord, WhileWord}
use Rattle.qvt_language.specs.Tokens.{Tok}
use Rattle.qvt_language.specs.Readers.{the, placed}
use Rattle.qvt_language.specs.Series.{series, finished}
use Rattle.qvt_language.specs.Leads.{Lead, Plain, Bracketed, Each, EndedBlock}
use Rattle.qvt_language.specs.Trees.{second, inner}
use Rattle.qvt_language.specs.Grammar.{NestedLanguages, name, expr, colon_type, lead_step, lead}
use Rattle.qvt_language.specs.StmtTrees.{var_of, return_of, arm_of, Branches, Choice, if_stmt_of, while_of, TurnTree, empty_turn, closed_turn, simple_turn, Tail, no_tail, plain_tail, lead_turn, ended_of, block_of}

-- "(" Expr ")"
unfoldable pub condition : NestedLanguages → Language Tok ExprTerm
condition i = made inner (then (the OpenRound) (then (expr i) (the CloseRound)))

-- "var" Name [":" Type] [":=" Expr]
unfoldable pub var_stmt : NestedLanguages → Language Tok StmtTerm
var_stmt i = made var_of (placed (then (the VarWord) (then name (then (maybe (colon_type i)) (maybe (made second (then (the Becomes) (expr i))))))))

-- "return" [Expr]
unfoldable pub return_stmt : NestedLanguages → Language Tok StmtTerm
return_stmt i = made return_of (placed (then (the ReturnWord) (maybe (expr i))))

-- "elif" "(" Expr ")" ["then"] Block
unfoldable pub arm : NestedLanguages → Language Tok ArmTerm
arm i = made arm_of (then (the ElifWord) (then (condition i) (then (maybe (the ThenWord)) i.block)))

-- "else" Block
unfoldable pub else_part : NestedLanguages → Language Tok ((List StmtTerm))
else_part i = made second (then (the ElseWord) i.block)

-- Block {Elif} [Else] ["endif"]
unfoldable pub branches : NestedLanguages → Language Tok Branches
branches i = then i.block (then (many (arm i)) (then (maybe (else_part i)) (maybe (the EndifWord))))

-- Expr "else" Expr "endif" {Step} "->" forEach
unfoldable pub choice : NestedLanguages → Language Tok Choice
choice i = then (then (expr i) (made inner (then (the ElseWord) (then (expr i) (the EndifWord))))) (finished (lead_step i))

-- after the expression that follows `if`: blocks stand only after one in brackets alone
abbrev pub if_rest : NestedLanguages → Lead → Language Tok (Branches ⊎ Choice)
if_rest i (Bracketed c) = either (made inl (branches i)) (made second (then (the ThenWord) (either (made inl (branches i)) (made inr (choice i)))))
if_rest i x = made second (then (the ThenWord) (made inr (choice i)))

-- "if" "(" Expr ")" ["then"] Block {Elif} [Else] ["endif"] | "if" Expr "then" Expr "else" Expr "endif" {Step} "->" forEach
unfoldable pub if_stmt : NestedLanguages → Language Tok StmtTerm
if_stmt i = made if_stmt_of (placed (then (the IfWord) (follow i.flagged (if_rest i))))

-- "while" "(" Expr ")" Block
unfoldable pub while_stmt : NestedLanguages → Language Tok StmtTerm
while_stmt i = made while_of (placed (then (the WhileWord) (then (condition i) i.block)))

-- (":=" | "+=") Expr
unfoldable pub assignment : NestedLanguages → Language Tok ((Tok × ExprTerm))
assignment i = then (either (the Becomes) (the PlusEqual)) (expr i)

-- [";"]
unfoldable pub semicolon : Language Tok ((Option Tok))
semicolon = maybe (the Semicolon)

-- after an expression that is a target an assignment may stand, and after a `forEach` nothing
abbrev pub lead_tail : NestedLanguages → Lead → Language Tok Tail
lead_tail i (Plain e None) = made plain_tail semicolon
lead_tail i (Plain e (Some target)) = then (maybe (assignment i)) semicolon
lead_tail i (Bracketed e) = made plain_tail semicolon
lead_tail i (Each e part) = made no_tail empty

-- (Target (":=" | "+=") Expr | Expr) [";"] | Post "->" forEach
unfoldable pub lead_stmt : NestedLanguages → Language Tok TurnTree
lead_stmt i = made lead_turn (placed (follow (lead i) (lead_tail i)))

-- ";" | Simple [";"] | Compound
unfoldable pub statement : NestedLanguages → Language Tok TurnTree
statement i = either (made empty_turn (the Semicolon)) (either (made closed_turn (if_stmt i)) (either (made closed_turn (while_stmt i)) (either (made simple_turn (then (var_stmt i) semicolon)) (either (made simple_turn (then (return_stmt i) semicolon)) (lead_stmt i)))))

-- Items [Simple]
unfoldable pub statements : NestedLanguages → Language Tok EndedBlock
statements i = made ended_of (series (statement i))

-- "{" Items [Simple] "}"
unfoldable pub block : NestedLanguages → Language Tok (List StmtTerm)
block i = made block_of (then (the OpenBrace) (then (statements i) (the CloseBrace)))
