-- What clauses see of the parts of units.
use Rattle.std.specs.Prelude.{List, map}
use Rattle.qvt_tree_types.specs.Tree.{StmtTerm}
use Rattle.qvt_tree_types.specs.View.{expr_view}
use Rattle.qvt_tree_types.specs.Module.{TypedName, UnitTerm, param_view, field_view, unit_view}
use Rattle.qvt_tree_types.specs.declared.tree.Stmt.{Stmt}
use Rattle.qvt_tree_types.specs.declared.module.Param.{Param}
use Rattle.qvt_tree_types.specs.declared.module.Field.{Field}
use Rattle.qvt_tree_types.specs.declared.module.Unit as code
use Rattle.qvt_parser_units.specs.declared.clauses.Clause.{Clause as CodeClause}
use Rattle.qvt_parser_units.specs.declared.clauses.Clause.TheVariants.{Inherits, Merges, Disjuncts, When}
use Rattle.qvt_parser_units.specs.declared.clauses.Clauses.{Clauses as CodeClauses}
use Rattle.qvt_parser_units.specs.declared.clauses.Body.{Body as CodeBody}
use Rattle.qvt_language.specs.UnitTrees.{ClauseTree, InheritsClause, MergesClause, DisjunctsClause, WhenClause, ClausesTree, BodyTree}
use Rattle.qvt_parser_grammar.specs.Options.{option_view}
use Rattle.qvt_parser_exprs.specs.Views.{stmts_view}

abbrev pub params_view : List Param → List TypedName
params_view = map param_view

abbrev pub fields_view : List Field → List TypedName
fields_view = map field_view

abbrev pub units_view : List code.Unit → List UnitTerm
units_view = map unit_view

abbrev pub clause_view : CodeClause → ClauseTree
clause_view (Inherits paths) = InheritsClause paths
clause_view (Merges paths) = MergesClause paths
clause_view (Disjuncts paths) = DisjunctsClause paths
clause_view (When e) = WhenClause (expr_view e)

abbrev pub clauses_view : CodeClauses → ClausesTree
clauses_view c = record { inherits = c.inherits; merges = c.merges; disjuncts = c.disjuncts; condition = option_view expr_view c.condition }

abbrev pub sections_view : List Stmt × List Stmt → List StmtTerm × List StmtTerm
sections_view (population, finish) = (stmts_view population, stmts_view finish)

abbrev pub body_view : CodeBody → BodyTree
body_view b = record { init = stmts_view b.init; population = stmts_view b.population; finish = stmts_view b.finish }
