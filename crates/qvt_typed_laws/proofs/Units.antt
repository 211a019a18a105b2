-- What the judgement of each unit keeps.
use Rattle.std.proofs.Common.{refl, sym, ℕ, ◌+◌, false, List, [], ◌∷◌, Option, Some, None}
use Rattle.qvt_base.specs.declared.numbers.Place.{Place}
use Rattle.qvt_tree_types.specs.Tree.{TypeTerm, OptionalExpr, NoExpr, SomeExpr, StmtTerms}
use Rattle.qvt_tree_types.specs.Module.{TypedName, ClassTerm, HelperTerm, MappingTerm, UnitTerm, ClassOf, MainOf, HelperOf, ConstructorOf, MappingOf}
use Rattle.qvt_tree_types.specs.declared.module.ResultDecl.{ResultDecl}
use Rattle.qvt_tree_types.specs.declared.types.PathTree.{PathTree}
use Rattle.qvt_types_data.specs.declared.variable.VariableSort.TheVariants as sort
use Rattle.qvt_types_states.specs.Judge.{Judges}
use Rattle.qvt_types_steps.specs.declared.classes.ClassPart.{ClassPart}
use Rattle.qvt_types_steps.specs.declared.classes.ClassPart.TheVariants as part
use Rattle.qvt_types_units.specs.Numbers.{unit_at}
use Rattle.qvt_types_units.specs.declared.signature.Signature.{Signature}
use Rattle.qvt_typing.specs.Context.{TypingContext, DeclaredHeads}
use Rattle.qvt_typing.specs.Names.{source, self_name, class_type}
use Rattle.qvt_typing.specs.Rules as rule
use Rattle.qvt_typing.specs.Units as unit
use Rattle.qvt_typed_laws.proofs.Contexts.{TypedUnit, TypedHeads, TypedContext}
use Rattle.qvt_typed_laws.proofs.Keeps.{Anything, Keeps, weak, next, given, sourced, inside, declaring, blank}
use Rattle.qvt_typed_laws.proofs.Rulings as rulings
use Rattle.qvt_typed_laws.proofs.Solid.{Typed}
use Rattle.qvt_typed_laws.proofs.Rules as rules
use Rattle.qvt_typed_laws.proofs.Objects as objects
use Rattle.qvt_typed_laws.proofs.Statements as statements
use Rattle.qvt_typed_laws.proofs.Phrases as phrases

-- Contexts.

outside_typed : (h : DeclaredHeads) → TypedHeads h → TypedContext (unit.outside h)
outside_typed h t = record { heads = t; self = refl; result = refl }

module _ (h : DeclaredHeads) (n : ℕ) where
  abbrev signature : Signature
  signature = unit_at h.units n

  helper_typed : (u : HelperTerm) → TypedHeads h → TypedContext (unit.helper_context h u signature)
  helper_typed u t = record { heads = t; self = rulings.head_typed signature.context (t.units n).context; result = refl }

  constructor_typed : TypedHeads h → TypedContext (unit.constructor_context h signature)
  constructor_typed t = record { heads = t; self = rulings.head_typed signature.context (t.units n).context; result = rulings.head_typed signature.context (t.units n).context }

  when_typed : TypedHeads h → TypedContext (unit.when_context h signature)
  when_typed t = record { heads = t; self = rulings.head_typed signature.context (t.units n).context; result = refl }

  init_typed : TypedHeads h → TypedContext (unit.init_context h signature)
  init_typed t = record { heads = t; self = rulings.head_typed signature.context (t.units n).context; result = rulings.head_typed signature.result (t.units n).result }

  section_typed : TypedHeads h → TypedContext (unit.section_context h signature)
  section_typed t = record { heads = t; self = rulings.head_typed signature.context (t.units n).context; result = rulings.head_typed signature.result (t.units n).result }

-- Heads of units.

with_self : {P : Type 0} (c : ClassPart) → (P → Typed c) → Keeps P Anything (unit.with_self c)
with_self (part.Class c) f = sourced (source self_name (class_type (part.Class c))) (λ h. refl)
with_self part.Missing f = given tt (λ h. tt)
with_self part.Untyped f = sourced (source self_name (class_type part.Untyped)) (λ h. sym (f h))

param : {P : Type 0} (x : TypingContext) (p : TypedName) → Keeps P Anything (unit.param x p)
param x p = next (phrases.type_term x p.kind) (λ o. next (declaring p.name (record { sort = sort.Parameter; ty = o }) p.place (λ h. h.1)) (λ u. blank))

params : {P : Type 0} (x : TypingContext) (ps : List TypedName) → Keeps P Anything (unit.params x ps)
params x [] = given tt (λ h. tt)
params x (p ∷ ps) = next (param x p) (λ u. params x ps)

all_paths : {P : Type 0} (f : PathTree → Judges (Unit {0})) → ((p : PathTree) → Keeps P Anything (f p)) → (ps : List PathTree) → Keeps P Anything (unit.all_paths f ps)
all_paths f k [] = given tt (λ h. tt)
all_paths f k (p ∷ ps) = next (k p) (λ u. weak (λ h. h.0) (all_paths f k ps))

super : {P : Type 0} (x : TypingContext) (p : PathTree) → Keeps P Anything (unit.super x p)
super x p = next (rules.named_class x p) (λ c. given tt (λ h. tt))

reused : {P : Type 0} (x : TypingContext) (p : PathTree) → Keeps P Anything (unit.reused x p)
reused x p = next (objects.listed_path x p) (λ w. given tt (λ h. tt))

field : {P : Type 0} (x : TypingContext) (f : TypedName) → Keeps P Anything (unit.field x f)
field x f = next (phrases.type_term x f.kind) (λ o. blank)

fields : {P : Type 0} (x : TypingContext) (fs : List TypedName) → Keeps P Anything (unit.fields x fs)
fields x [] = given tt (λ h. tt)
fields x (f ∷ fs) = next (field x f) (λ u. fields x fs)

answer_type : {P : Type 0} (x : TypingContext) (o : Option TypeTerm) → Keeps P Anything (unit.answer_type x o)
answer_type x o = next (phrases.optional_type x o) (λ k. given tt (λ h. tt))

result_head : {P : Type 0} (x : TypingContext) (r : Option ResultDecl) → Keeps P Anything (unit.result_head x r)
result_head x None = given tt (λ h. tt)
result_head x (Some r) = next (rules.named_class x r.path) (λ c. next (rules.marked_any (unit.result_read x r.extent c)) (λ o. given tt (λ h. tt)))

-- Bodies.

class_unit : {P : Type 0} (x : TypingContext) (c : ClassTerm) → Keeps P Anything (unit.class_unit x c)
class_unit x c = next (all_paths (unit.super x) (super x) c.supers) (λ u. next (fields x c.features) (λ v. blank))

main_unit : (x : TypingContext) (body : StmtTerms) → Keeps (TypedContext x) Anything (unit.main_unit x body)
main_unit x body = next (statements.block x (phrases.stmts x body)) (λ u. blank)

helper_unit : (x : TypingContext) (u : HelperTerm) → Keeps (TypedContext x) Anything (unit.helper_unit x u)
helper_unit x u = next (inside (next (with_self x.self (λ t. t.self)) (λ v. next (params x u.params) (λ w. next (answer_type x u.answer) (λ y.
    weak (λ h. h.0.0.0) (statements.block x (phrases.stmts x u.body))))))) (λ v. blank)

when_part : (x : TypingContext) (o : OptionalExpr) (at : Place) → Keeps (TypedContext x) Anything (unit.when x o at)
when_part x NoExpr at = given tt (λ h. tt)
when_part x (SomeExpr e) at = statements.condition x at (phrases.expr x false e)

mapping_head : {P : Type 0} (x : TypingContext) (u : MappingTerm) (s : Signature) → (P → TypedUnit s) → Keeps P Anything (unit.mapping_head x u s)
mapping_head x u s k = next (with_self (rule.head_part s.context) (λ h. rulings.head_typed s.context (k h).context)) (λ v. next (params x u.params) (λ w. next (result_head x u.result_decl) (λ y.
    next (all_paths (unit.reused x) (reused x) u.inherits) (λ z. next (all_paths (unit.reused x) (reused x) u.merges) (λ n. all_paths (unit.reused x) (reused x) u.disjuncts)))))

module _ (h : DeclaredHeads) (n : ℕ) where
  sections : (u : MappingTerm) → Keeps (TypedHeads h) Anything (unit.sections h u (unit_at h.units n))
  sections u =
      next (weak (init_typed h n) (statements.each _ (phrases.stmts (unit.init_context h (unit_at h.units n)) u.init))) (λ v.
      next (weak (λ t. section_typed h n t.0) (statements.each _ (phrases.stmts (unit.section_context h (unit_at h.units n)) u.population))) (λ w.
      weak (λ t. section_typed h n t.0.0) (statements.each _ (phrases.stmts (unit.section_context h (unit_at h.units n)) u.finish))))

  mapping_unit : (u : MappingTerm) → Keeps (TypedHeads h) Anything (unit.mapping_unit h u (unit_at h.units n))
  mapping_unit u = next (inside (next (mapping_head (unit.outside h) u (unit_at h.units n) (λ t. t.units n)) (λ v. next (weak (λ t. when_typed h n t.0) (when_part (unit.when_context h (unit_at h.units n)) u.condition u.place)) (λ w.
      weak (λ t. t.0.0) (sections u))))) (λ v. blank)

  one_unit : (u : UnitTerm) → Keeps (TypedHeads h) Anything (unit.unit h n u)
  unfolding unit.unit
  one_unit (ClassOf c) = class_unit (unit.outside h) c
  one_unit (MainOf body at) = weak (outside_typed h) (main_unit (unit.outside h) body)
  one_unit (HelperOf u) = weak (helper_typed h n u) (helper_unit (unit.helper_context h u (unit_at h.units n)) u)
  one_unit (ConstructorOf u) = weak (constructor_typed h n) (helper_unit (unit.constructor_context h (unit_at h.units n)) u)
  one_unit (MappingOf u) = mapping_unit u

pub units : (h : DeclaredHeads) (n : ℕ) (us : List UnitTerm) → Keeps (TypedHeads h) Anything (unit.units h n us)
units h n [] = given tt (λ h. tt)
units h n (u ∷ us) = next (one_unit h n u) (λ v. weak (λ k. k.0) (units h (n + 1) us))
