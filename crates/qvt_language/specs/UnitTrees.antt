-- The trees that the productions of units and of the module make (QVT 1.3, 8.2.1).
use Rattle.std.specs.Prelude.{ℕ, Bool, true, false, List, [], ◌∷◌, ◌++◌, Option, Some, None}
use Rattle.qvt_base.specs.declared.numbers.Place.{Place}
use Rattle.qvt_tree_types.specs.Tree.{TypeTerm, ExprTerm, StmtTerm, ReturnStmt, SomeExpr}
use Rattle.qvt_tree_types.specs.View.{stmts_of, optional_expr}
use Rattle.qvt_tree_types.specs.Module.{TypedName, UnitTerm, ClassOf, MainOf, HelperOf, ConstructorOf, MappingOf, ModuleTerm}
use Rattle.qvt_tree_types.specs.declared.types.PathTree.{PathTree}
use Rattle.qvt_tree_types.specs.declared.module.ResultDecl.{ResultDecl}
use Rattle.qvt_tree_types.specs.declared.module.ModelType.{ModelType}
use Rattle.qvt_tree_types.specs.declared.module.ModelParam.{ModelParam}
use Rattle.qvt_tree_types.specs.declared.words.Direction.{Direction}
use Rattle.qvt_tree_types.specs.declared.words.Direction.TheVariants.{Input, Output, Both}
use Rattle.qvt_language.specs.declared.named.Named.{Named}
use Rattle.qvt_language.specs.declared.named.UnitPath.{UnitPath}
use Rattle.qvt_words.specs.declared.class.Class.{Class}
use Rattle.qvt_words.specs.declared.class.Class.TheVariants.{InWord, OutWord, QueryWord, InheritsWord, MergesWord, DisjunctsWord, WhenWord}
use Rattle.qvt_language.specs.Tokens.{Tok, code_of}
use Rattle.qvt_language.specs.Readers.{nowhere}
use Rattle.qvt_language.specs.Leads.{EndedBlock}

abbrev pub typed_name_of : Named × TypeTerm → TypedName
typed_name_of (n, kind) = record { name = n.text; kind = kind; place = n.place }

abbrev pub param_of : Place × (Option Tok × (Named × TypeTerm)) → TypedName
param_of (place, (w, (n, kind))) = record { name = n.text; kind = kind; place = place }

abbrev pub paths_or_none : Option (List PathTree) → List PathTree
paths_or_none None = []
paths_or_none (Some paths) = paths

abbrev pub class_unit_of : Place × (Named × (Option (List PathTree) × List TypedName)) → UnitTerm
class_unit_of (place, (n, (supers, features))) = ClassOf (record { name = n.text; supers = paths_or_none supers; features = features; place = place })

abbrev pub main_of : Place × List StmtTerm → UnitTerm
main_of (place, body) = MainOf (stmts_of body) place

abbrev pub is_query : Class → Bool
is_query QueryWord = true
is_query _ = false

-- the block of one return, at the `=`
abbrev pub return_body : Tok × ExprTerm → List StmtTerm
return_body (sign, e) = ReturnStmt (SomeExpr e) sign.place ∷ []

abbrev pub helper_of : Tok × (UnitPath × (List TypedName × (Option TypeTerm × List StmtTerm))) → UnitTerm
helper_of (w, (path, (params, (answer, body)))) =
    HelperOf (record { pure = is_query w.class; path = path.names; params = params; answer = answer; body = stmts_of body; place = path.place })

abbrev pub constructor_of : UnitPath × (List TypedName × List StmtTerm) → UnitTerm
constructor_of (path, (params, body)) =
    ConstructorOf (record { pure = false; path = path.names; params = params; answer = None; body = stmts_of body; place = path.place })

abbrev pub result_decl_of : PathTree × Option (List ℕ) → ResultDecl
result_decl_of (path, extent) = record { path = path; extent = extent; place = path.place }

-- the clauses of a mapping, as far as they were read
pub record ClausesTree : Type 0 where
  pub inherits : Option (List PathTree)
  pub merges : Option (List PathTree)
  pub disjuncts : Option (List PathTree)
  pub condition : Option ExprTerm

abbrev pub no_clauses : ClausesTree
no_clauses = record { inherits = None; merges = None; disjuncts = None; condition = None }

pub data ClauseTree : Type 0 where
  InheritsClause : List PathTree → ClauseTree
  MergesClause : List PathTree → ClauseTree
  DisjunctsClause : List PathTree → ClauseTree
  WhenClause : ExprTerm → ClauseTree

abbrev pub with_clause : ClausesTree → ClauseTree → ClausesTree
with_clause x (InheritsClause paths) = record x { inherits = Some paths }
with_clause x (MergesClause paths) = record x { merges = Some paths }
with_clause x (DisjunctsClause paths) = record x { disjuncts = Some paths }
with_clause x (WhenClause e) = record x { condition = Some e }

abbrev pub where_there : {A : Type 0} → Option A → ℕ → List ℕ
where_there None c = []
where_there (Some a) c = c ∷ []

-- the first words of the clauses that were read
abbrev pub read_words : ClausesTree → List ℕ
read_words x = where_there x.inherits (code_of InheritsWord) ++ (where_there x.merges (code_of MergesWord) ++ (where_there x.disjuncts (code_of DisjunctsWord) ++ where_there x.condition (code_of WhenWord)))

abbrev pub or_same : ClausesTree → Option ClausesTree → ClausesTree
or_same x None = x
or_same x (Some y) = y

pub record BodyTree : Type 0 where
  pub init : List StmtTerm
  pub population : List StmtTerm
  pub finish : List StmtTerm

abbrev pub stmts_or_none : Option (List StmtTerm) → List StmtTerm
stmts_or_none None = []
stmts_or_none (Some ss) = ss

abbrev pub empty_body : Tok → BodyTree
empty_body t = record { init = []; population = []; finish = [] }

abbrev pub body_of : Tok × (Option (List StmtTerm) × ((List StmtTerm × List StmtTerm) × Tok)) → BodyTree
body_of (b1, (init, (sections, b2))) = record { init = stmts_or_none init; population = sections.0; finish = sections.1 }

abbrev pub sections_of : List StmtTerm × Option (List StmtTerm) → List StmtTerm × List StmtTerm
sections_of (population, finish) = (population, stmts_or_none finish)

abbrev pub open_sections_of : EndedBlock × Option (List StmtTerm) → List StmtTerm × List StmtTerm
open_sections_of (ended, finish) = (ended.stmts, stmts_or_none finish)

abbrev pub mapping_of : UnitPath × (List TypedName × (Option ResultDecl × (ClausesTree × BodyTree))) → UnitTerm
mapping_of (path, (params, (answer, (clauses, body)))) = MappingOf (record {
  path = path.names;
  params = params;
  result_decl = answer;
  inherits = paths_or_none clauses.inherits;
  merges = paths_or_none clauses.merges;
  disjuncts = paths_or_none clauses.disjuncts;
  condition = optional_expr clauses.condition;
  init = stmts_of body.init;
  population = stmts_of body.population;
  finish = stmts_of body.finish;
  place = path.place;
})

abbrev pub some_unit : UnitTerm → List UnitTerm
some_unit u = u ∷ []

abbrev pub model_type_of : Place × (Named × List ℕ) → ModelType
model_type_of (place, (n, uri)) = record { name = n.text; uri = uri; place = place }

abbrev pub direction_of : Class → Direction
direction_of InWord = Input
direction_of OutWord = Output
direction_of _ = Both

abbrev pub model_param_of : Tok × (Named × Named) → ModelParam
model_param_of (w, (n, m)) = record { direction = direction_of w.class; name = n.text; model_type = m.text; place = w.place }

abbrev pub units_of : List (List UnitTerm) → List UnitTerm
units_of [] = []
units_of (us ∷ more) = us ++ units_of more

-- tokens do not tell where their text ends
abbrev pub module_of : List ModelType × ((List ℕ × List ModelParam) × List (List UnitTerm)) → ModuleTerm
module_of (model_types, (header, units)) = record { model_types = model_types; name = header.0; params = header.1; units = units_of units; end = nowhere }

abbrev pub kept : ClausesTree → Unit {0} → ClausesTree
kept x u = x

abbrev pub no_end : Unit {0} → Option (List StmtTerm)
no_end u = None
