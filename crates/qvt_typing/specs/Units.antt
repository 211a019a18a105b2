-- Units (QVT 1.3, 8.2.1): their heads and their bodies.
use Rattle.std.specs.Prelude.{ℕ, ◌+◌, true, false, List, [], ◌∷◌, Option, Some, None}
use Rattle.qvt_base.specs.declared.numbers.Place.{Place}
use Rattle.qvt_tree_types.specs.Tree.{TypeTerm, OptionalExpr, NoExpr, SomeExpr, StmtTerms}
use Rattle.qvt_tree_types.specs.Module.{TypedName, ClassTerm, HelperTerm, MappingTerm, UnitTerm, ClassOf, MainOf, HelperOf, ConstructorOf, MappingOf}
use Rattle.qvt_tree_types.specs.declared.module.ResultDecl.{ResultDecl}
use Rattle.qvt_tree_types.specs.declared.types.PathTree.{PathTree}
use Rattle.qvt_types_data.specs.Notes.{unread}
use Rattle.qvt_types_data.specs.declared.ruling.Read.{Read}
use Rattle.qvt_types_data.specs.declared.ty.Ty.{Ty}
use Rattle.qvt_types_data.specs.declared.variable.VariableSort.TheVariants as sort
use Rattle.qvt_types_states.specs.Judge.{Judges, ◌>>=◌, gives, add_source, scoped, declare, marks, writes_nothing}
use Rattle.qvt_types_steps.specs.declared.classes.ClassPart.{ClassPart}
use Rattle.qvt_types_steps.specs.declared.classes.ClassPart.TheVariants as part
use Rattle.qvt_types_units.specs.Numbers.{unit_at}
use Rattle.qvt_types_units.specs.declared.signature.Signature.{Signature}
use Rattle.qvt_typing.specs.Context.{DeclaredHeads, TypingContext, ReturnRule, NoValue, Value, Never}
use Rattle.qvt_typing.specs.Names.{source, self_name, class_type, made_read}
use Rattle.qvt_typing.specs.Phrases.{type_term, optional_type, expr, stmts}
use Rattle.qvt_typing.specs.Rules as rule
use Rattle.qvt_typing.specs.Statements as rule_of

-- outside all objects, with nothing that could be assigned
abbrev pub outside : DeclaredHeads → TypingContext
outside h = record { heads = h; pure = false; plain = false; returns = NoValue; self = part.Missing; result = part.Missing; sets_result = false; object = part.Missing; owner = part.Missing }

-- `self` is the last of the implicit sources
abbrev pub with_self : ClassPart → Judges (Unit {0})
with_self part.Missing = gives tt
with_self c = add_source (source self_name (class_type c))

abbrev pub param : TypingContext → TypedName → Judges (Unit {0})
param x p = type_term x p.kind >>= (λ o. declare p.name (record { sort = sort.Parameter; ty = o }) p.place >>= (λ _. writes_nothing))

abbrev pub params : TypingContext → List TypedName → Judges (Unit {0})
params x [] = gives tt
params x (p ∷ ps) = param x p >>= (λ _. params x ps)

abbrev pub all_paths : (PathTree → Judges (Unit {0})) → List PathTree → Judges (Unit {0})
all_paths f [] = gives tt
all_paths f (p ∷ ps) = f p >>= (λ _. all_paths f ps)

abbrev pub super : TypingContext → PathTree → Judges (Unit {0})
super x p = rule.named_class x p >>= (λ _. gives tt)

abbrev pub reused : TypingContext → PathTree → Judges (Unit {0})
reused x p = rule.listed_path x p >>= (λ _. gives tt)

abbrev pub field : TypingContext → TypedName → Judges (Unit {0})
field x f = type_term x f.kind >>= (λ _. writes_nothing)

abbrev pub fields : TypingContext → List TypedName → Judges (Unit {0})
fields x [] = gives tt
fields x (f ∷ fs) = field x f >>= (λ _. fields x fs)

abbrev pub class_unit : TypingContext → ClassTerm → Judges (Unit {0})
class_unit x c = all_paths (super x) c.supers >>= (λ _. fields x c.features >>= (λ _. writes_nothing))

abbrev pub main_unit : TypingContext → StmtTerms → Judges (Unit {0})
main_unit x body = rule_of.block x (stmts x body) >>= (λ _. writes_nothing)

-- a helper that has an answer type returns a value of it
abbrev pub returns_of : Option TypeTerm → Option Ty → ReturnRule
returns_of None o = NoValue
returns_of (Some t) o = Value o

abbrev pub helper_context : DeclaredHeads → HelperTerm → Signature → TypingContext
helper_context h u s = record (outside h) { pure = u.pure; self = rule.head_part s.context; returns = returns_of u.answer s.answer }

-- a constructor's body runs on the new object
abbrev pub constructor_context : DeclaredHeads → Signature → TypingContext
constructor_context h s = record (outside h) { self = rule.head_part s.context; result = rule.head_part s.context; owner = rule.head_part s.context }

abbrev pub answer_type : TypingContext → Option TypeTerm → Judges (Unit {0})
answer_type x o = optional_type x o >>= (λ _. gives tt)

abbrev pub helper_unit : TypingContext → HelperTerm → Judges (Unit {0})
helper_unit x u = scoped (with_self x.self >>= (λ _. params x u.params >>= (λ _. answer_type x u.answer
    >>= (λ _. rule_of.block x (stmts x u.body))))) >>= (λ _. writes_nothing)

-- the sections of a mapping: `result` may be assigned in init, and names mean its properties afterwards; its `when` comes before it
abbrev pub when_context : DeclaredHeads → Signature → TypingContext
when_context h s = record (outside h) { pure = true; self = rule.head_part s.context }

abbrev pub init_context : DeclaredHeads → Signature → TypingContext
init_context h s = record (outside h) { self = rule.head_part s.context; result = rule.head_part s.result; sets_result = true }

abbrev pub section_context : DeclaredHeads → Signature → TypingContext
section_context h s = record (outside h) { self = rule.head_part s.context; result = rule.head_part s.result; owner = rule.head_part s.result; returns = Never }

-- the class and the extent of the object that a mapping makes
abbrev pub result_read : TypingContext → Option (List ℕ) → ClassPart → Read
result_read x name (part.Class c) = made_read c (rule.extent_of x name c)
result_read x name part.Untyped = unread
result_read x name part.Missing = unread

abbrev pub result_head : TypingContext → Option ResultDecl → Judges (Unit {0})
result_head x None = gives tt
result_head x (Some r) = rule.named_class x r.path >>= (λ c. marks (result_read x r.extent c) >>= (λ _. gives tt))

abbrev pub when : TypingContext → OptionalExpr → Place → Judges (Unit {0})
when x NoExpr at = gives tt
when x (SomeExpr e) at = rule_of.condition x (expr x false e) at

-- what init declares stays in scope in population and end, what population declares in end
abbrev pub sections : DeclaredHeads → MappingTerm → Signature → Judges (Unit {0})
sections h u s = rule_of.each (stmts (init_context h s) u.init)
    >>= (λ _. rule_of.each (stmts (section_context h s) u.population)
    >>= (λ _. rule_of.each (stmts (section_context h s) u.finish)))

abbrev pub mapping_head : TypingContext → MappingTerm → Signature → Judges (Unit {0})
mapping_head x u s = with_self (rule.head_part s.context) >>= (λ _. params x u.params >>= (λ _. result_head x u.result_decl
    >>= (λ _. all_paths (reused x) u.inherits >>= (λ _. all_paths (reused x) u.merges >>= (λ _. all_paths (reused x) u.disjuncts)))))

abbrev pub mapping_unit : DeclaredHeads → MappingTerm → Signature → Judges (Unit {0})
mapping_unit h u s =
    scoped (mapping_head (outside h) u s >>= (λ _. when (when_context h s) u.condition u.place >>= (λ _. sections h u s)))
    >>= (λ _. writes_nothing)

-- unit n
unfoldable pub unit : DeclaredHeads → ℕ → UnitTerm → Judges (Unit {0})
unit h n (ClassOf c) = class_unit (outside h) c
unit h n (MainOf body at) = main_unit (outside h) body
unit h n (HelperOf u) = helper_unit (helper_context h u (unit_at h.units n)) u
unit h n (ConstructorOf u) = helper_unit (constructor_context h (unit_at h.units n)) u
unit h n (MappingOf u) = mapping_unit h u (unit_at h.units n)

abbrev pub units : DeclaredHeads → ℕ → List UnitTerm → Judges (Unit {0})
units h n [] = gives tt
units h n (u ∷ us) = unit h n u >>= (λ _. units h (n + 1) us)
