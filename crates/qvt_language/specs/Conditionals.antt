-- The statements that begin with `if`, form by form (QVT 1.3, 8.2.2 and 8.4).
use Rattle.std.specs.Prelude.{List, Option}
use Rattle.qvt_base.specs.declared.numbers.Place.{Place}
use Rattle.qvt_grammar.specs.Language.{Language, then, either, made, maybe}
use Rattle.qvt_tree_types.specs.Tree.{ExprTerm, StepTerm, StmtTerm}
use Rattle.qvt_words.specs.declared.class.Class.TheVariants.{IfWord, ThenWord}
use Rattle.qvt_language.specs.Tokens.{Tok}
use Rattle.qvt_language.specs.Readers.{the, placed}
use Rattle.qvt_language.specs.Series.{finished}
use Rattle.qvt_language.specs.Leads.{EachPart}
use Rattle.qvt_language.specs.StmtTrees.{Branches, branched, each_over}
use Rattle.qvt_language.specs.Grammar.{NestedLanguages, if_expr, lead_step}
use Rattle.qvt_language.specs.Statements.{condition, branches}

abbrev pub block_form_of : Place × (Tok × (ExprTerm × (Option Tok × Branches))) → StmtTerm
block_form_of (place, (w, (c, (t, blocks)))) = branched place c blocks

-- "if" "(" Expr ")" ["then"] Block {Elif} [Else] ["endif"]
abbrev pub block_form : NestedLanguages → Language Tok StmtTerm
block_form i = made block_form_of (placed (then (the IfWord) (then (condition i) (then (maybe (the ThenWord)) (branches i)))))

abbrev pub each_form_of : Place × (ExprTerm × (List StepTerm × EachPart)) → StmtTerm
each_form_of (place, (e, rest)) = each_over place e rest

-- Post "->" forEach, where the Post begins with a conditional
abbrev pub each_form : NestedLanguages → Language Tok StmtTerm
each_form i = made each_form_of (placed (then (if_expr i) (finished (lead_step i))))

abbrev pub if_forms : NestedLanguages → Language Tok StmtTerm
if_forms i = either (block_form i) (each_form i)
