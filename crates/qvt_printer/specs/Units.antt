-- The pieces of the printed text of units and of a transformation (QVT 1.3, 8.2.1 and 8.4).
use Rattle.std.specs.Prelude.{ℕ, Bool, true, false, ◌||◌, if◌then◌else◌, List, [], ◌∷◌, ◌++◌, Option, Some, None}
use Rattle.qvt_tree_types.specs.Tree.{OptionalExpr, NoExpr, SomeExpr, StmtTerms, NoStmts, MoreStmts}
use Rattle.qvt_tree_types.specs.Module.{TypedName, ClassTerm, HelperTerm, MappingTerm, UnitTerm, ClassOf, MainOf, HelperOf, ConstructorOf, MappingOf, ModuleTerm}
use Rattle.qvt_tree_types.specs.declared.types.PathTree.{PathTree}
use Rattle.qvt_tree_types.specs.declared.module.ResultDecl.{ResultDecl}
use Rattle.qvt_tree_types.specs.declared.module.ModelType.{ModelType}
use Rattle.qvt_tree_types.specs.declared.module.ModelParam.{ModelParam}
use Rattle.qvt_language.specs.declared.class.Class.{Class}
use Rattle.qvt_language.specs.declared.class.Class.TheVariants as class
use Rattle.qvt_printer_layout.specs.declared.piece.PrintPiece.{PrintPiece}
use Rattle.qvt_printer_layout.specs.declared.piece.PrintPiece.TheVariants.{Plain, Name, Quoted, Line}
use Rattle.qvt_printer_layout.specs.Words.{direction_word, helper_word}
use Rattle.qvt_printer.specs.Expressions.{one, in_round, in_block, ended, names, path, paths, typed, typed_if, extent, expr, block}

-- `name : type`
abbrev pub typed_name : TypedName → List PrintPiece
typed_name t = Name t.name ∷ typed t.kind

abbrev pub more_params : List TypedName → List PrintPiece
more_params [] = []
more_params (p ∷ ps) = Plain class.Comma ∷ (typed_name p ++ more_params ps)

abbrev pub params : List TypedName → List PrintPiece
params [] = []
params (p ∷ ps) = typed_name p ++ more_params ps

abbrev pub fields : List TypedName → List PrintPiece
fields [] = []
fields (f ∷ fs) = Line ∷ (ended (typed_name f) ++ fields fs)

-- the word and the paths, where there are some
abbrev pub listed : Class → List PathTree → List PrintPiece
listed word [] = []
listed word (p ∷ ps) = Plain word ∷ paths (p ∷ ps)

abbrev pub class_unit : ClassTerm → List PrintPiece
class_unit c = Plain class.IntermediateWord ∷ Plain class.ClassWord ∷ Name c.name ∷ (listed class.ExtendsWord c.supers ++ in_block (fields c.features))

-- the path with the parameters
abbrev pub signature : List (List ℕ) → List TypedName → List PrintPiece
signature p ps = names p ++ in_round (params ps)

abbrev pub helper_unit : HelperTerm → List PrintPiece
helper_unit h = Plain (helper_word h.pure) ∷ (signature h.path h.params ++ (typed_if h.answer ++ block h.body))

abbrev pub constructor_unit : HelperTerm → List PrintPiece
constructor_unit h = Plain class.ConstructorWord ∷ (signature h.path h.params ++ block h.body)

-- `: path@extent`
abbrev pub result_if : Option ResultDecl → List PrintPiece
result_if None = []
result_if (Some r) = Plain class.Colon ∷ (path r.path ++ extent r.extent)

-- `when { condition }`
abbrev pub when_if : OptionalExpr → List PrintPiece
when_if NoExpr = []
when_if (SomeExpr e) = Plain class.WhenWord ∷ Plain class.OpenBrace ∷ (expr e ++ one class.CloseBrace)

abbrev pub has_statements : StmtTerms → Bool
has_statements NoStmts = false
has_statements (MoreStmts s ss) = true

-- a section on lines of its own, where it has statements
abbrev pub section : Class → StmtTerms → List PrintPiece
section word body = if has_statements body then Line ∷ Plain word ∷ block body else []

abbrev pub sections : MappingTerm → List PrintPiece
sections m = in_block (section class.InitWord m.init ++ (section class.PopulationWord m.population ++ section class.EndWord m.finish))

-- the body: a block where there are neither `init` nor `end`
abbrev pub mapping_body : MappingTerm → List PrintPiece
mapping_body m = if has_statements m.init || has_statements m.finish then sections m else block m.population

abbrev pub extras : MappingTerm → List PrintPiece
extras m = listed class.InheritsWord m.inherits ++ (listed class.MergesWord m.merges ++ (listed class.DisjunctsWord m.disjuncts ++ when_if m.condition))

abbrev pub mapping_unit : MappingTerm → List PrintPiece
mapping_unit m = Plain class.MappingWord ∷ (signature m.path m.params ++ (result_if m.result_decl ++ (extras m ++ mapping_body m)))

abbrev pub unit : UnitTerm → List PrintPiece
unit (ClassOf c) = class_unit c
unit (MainOf body place) = Plain class.MainWord ∷ (in_round [] ++ block body)
unit (HelperOf h) = helper_unit h
unit (ConstructorOf h) = constructor_unit h
unit (MappingOf m) = mapping_unit m

abbrev pub units : List UnitTerm → List PrintPiece
units [] = []
units (u ∷ us) = unit u ++ (Line ∷ units us)

abbrev pub model_type : ModelType → List PrintPiece
model_type t = ended (Plain class.ModelTypeWord ∷ Name t.name ∷ Plain class.UsesWord ∷ Quoted t.uri ∷ [])

abbrev pub model_types : List ModelType → List PrintPiece
model_types [] = []
model_types (t ∷ ts) = model_type t ++ (Line ∷ model_types ts)

abbrev pub model_param : ModelParam → List PrintPiece
model_param p = Plain (direction_word p.direction) ∷ Name p.name ∷ Plain class.Colon ∷ Name p.model_type ∷ []

abbrev pub more_model_params : List ModelParam → List PrintPiece
more_model_params [] = []
more_model_params (p ∷ ps) = Plain class.Comma ∷ (model_param p ++ more_model_params ps)

abbrev pub model_params : List ModelParam → List PrintPiece
model_params [] = []
model_params (p ∷ ps) = model_param p ++ more_model_params ps

abbrev pub header : ModuleTerm → List PrintPiece
header m = ended (Plain class.TransformationWord ∷ Name m.name ∷ in_round (model_params m.params))

unfoldable pub module_pieces : ModuleTerm → List PrintPiece
module_pieces m = model_types m.model_types ++ (header m ++ (Line ∷ units m.units))
